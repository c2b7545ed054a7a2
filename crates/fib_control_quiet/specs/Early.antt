-- Planes and prefix tables before the first change, while nobody is out.
use Rattle.std.specs.Prelude.{◌≡◌, ℕ, ◌<◌, true, List, ◌∷◌}
use Rattle.fib_core.specs.declared.word.Word.{Word}
use Rattle.fib_core.specs.declared.word.Word.TheVariants as words
use Rattle.fib_resolve.specs.declared.types.Tables.{Tables}
use Rattle.fib_plane_view.specs.Promise.{Promise}
use Rattle.fib_plane_view.specs.View.{View, Goes, IsBalance, leads}
use Rattle.fib_ply.specs.Tables.{Table, Stands}

pub record IsEarly (p : Promise) : Type 0 where
  pub first : p.applied ≡ 0
  pub alone : p.alone ≡ true
  pub versions : (S : Tables) × (J : List Tables) × (p.versions ≡ S ∷ J)

-- there is no edge, and no ply is held
pub record IsEmpty (p : Promise) (u : View) : Type 0 where
  pub early : IsEarly p
  pub root : u.is_ply 0 ≡ true
  pub none : (x : ℕ) → u.is_ply x ≡ true → u.is_held x ≡ true → ⊥
  pub edges : (x s y : ℕ) (w : Word) → leads w y → Goes u x s w → ⊥

-- the control plane holds the balance, and each of its buckets drops
abbrev pub IsDropping : View → ℕ → Type 0
IsDropping u o = IsBalance u o × ((t : ℕ) → t < 16 → u.cell o t ≡ words.Drop)

-- the plies stand for the table
pub record IsTried (p : Promise) (t : Table) (u : View) : Type 0 where
  pub early : IsEarly p
  pub stands : Stands p t u
