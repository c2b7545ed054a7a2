-- Room for edges changes nothing for the table, and a plane has few plies.
use Rattle.std.proofs.Common.{◌≡◌, ◌<◌, ◌≤◌, ℕ, List, [], ◌∷◌, ⊎_elim, inl, inr, true, refl, sym, subst, arith}
use Rattle.std.specs.List.{AllByRecursion}
use Rattle.fib_core.proofs.Endings.{at_most}
use Rattle.fib_plane_view.proofs.Frames.{buckets_beside}
use Rattle.fib_plane_view.specs.Frames.{Beside, IsQuiet}
use Rattle.fib_plane_view.specs.Promise.{Promise}
use Rattle.fib_plane_view.specs.View.{View, HasRoom, IsPlane, Kinds}
use Rattle.fib_ply.specs.Plies.{IsOne}
use Rattle.fib_ply.specs.Rows.{held}
use Rattle.fib_ply.specs.Tables.{Table, Stands}
use Rattle.fib_ply.proofs.Quiet.{quiet_stands}

module _ (p : Promise) (t : Table) (u : View) (k : ℕ) (kinds : Kinds (record u { spare = k })) where
  beside : Beside u (record u { spare = k })
  beside = record { cells = λ x s b. refl; adjacencies = λ x s o i b e. refl; balances = λ x b. b; fresh = λ x b. b; records = record { users = refl; record_of = refl } }

  quiet : IsQuiet (held t.rows.members) u (record u { spare = k })
  quiet = record { plies = λ x is live. (is, live); cells = λ x s is live. refl; edges = λ x s c g. g; kinds = λ x mine h. (h, refl); held = λ x is h. h; root = refl }

  room_table : Stands p t u → Stands p t (record u { spare = k })
  room_table s = quiet_stands p t u (record u { spare = k }) s quiet kinds
      (let h = s.2.at.kept in record { allowed = h.allowed; newest = h.newest; older = h.older; versions = h.versions; buckets = λ b. buckets_beside u (record u { spare = k }) beside p.versions (held t.rows.members) (h.buckets b); still = λ z x s o i g lt. h.still z x s o i g lt })
      (λ z l c o i e lt. s.2.at.sound.still z l c o i e lt)

pub room_stands : (p : Promise) (t : Table) (u v : View) → HasRoom u v → Kinds v → Stands p t u → Stands p t v
room_stands p t u v room kinds s = subst (Stands p t) (sym room.same) (room_table p t u v.spare (subst Kinds room.same kinds) s)

all_of : (P : ℕ → Type 0) (xs : List ℕ) → ((x : ℕ) → IsOne xs x → P x) → AllByRecursion P xs
all_of P [] h = tt
all_of P (y ∷ ys) h = (h y (inl refl), all_of P ys (λ x one. h x (inr one)))

-- the plies are different objects
pub few_plies : (p : Promise) (t : Table) (u : View) → IsPlane u → Stands p t u → t.plies ≤ 131072
few_plies p t u plane s = subst (λ (k : ℕ). k ≤ 131072) s.3 (at_most 131072 s.1.all s.2.at.list.apart (all_of (λ x. x < 131072) s.1.all below))
  where
    below : (x : ℕ) → IsOne s.1.all x → x < 131072
    below x one = ⊎_elim (λ (z : x ≡ 0). omega (arith, z)) (λ (k : u.is_held x ≡ true). plane.numbers x k) (s.2.at.fits.held x (s.2.at.list.only x one)).1
