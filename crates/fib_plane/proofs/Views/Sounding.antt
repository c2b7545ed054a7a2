-- What holds of every plane, as the view shows it.
use Rattle.std.proofs.Common.{arith, ◌≡◌, ◌≢◌, ℕ, zero, suc, ◌<◌, Bool, true, false, not, ◌&&◌, ◌||◌, eqb, ne_eqb, Option, Some, None, refl, sym, ◌∙◌, ap, subst}
use Rattle.std.specs.Prelude.{option_map}
use Rattle.fib_base_interned.specs.Interned.{Kept, users_in}
use Rattle.fib_base_interned.proofs.Finding.{find_place, some_is, contains_at}
use Rattle.fib_resolve.specs.declared.types.End.TheVariants as answers
use Rattle.fib_core.specs.declared.word.Word.{Word}
use Rattle.fib_core.specs.Words.{value_of}
use Rattle.fib_core.specs.Union.{IsBucketWord}
use Rattle.fib_core.specs.Walk.{hop_of, mac_in}
use Rattle.fib_core.specs.StandsFor.{mac_word}
use Rattle.fib_pool.specs.declared.object.AdjacencyRecord.{AdjacencyRecord}
use Rattle.fib_pool.specs.Objects.{at}
use Rattle.fib_pool.proofs.Pools.{free_few, live_in}
use Rattle.fib_plane.specs.Planes.{Plane}
use Rattle.fib_plane.specs.Sound as plane
use Rattle.fib_plane.specs.Sound.{record_word}
use Rattle.fib_plane_view.specs.View.{View, HasRoom, IsPlane, Kinds, IsBalance, adjacency_end, leads}
use Rattle.fib_plane.specs.Views.{is_adjacency_at, is_ply_at, kept_as, record_in, view_of}
use Rattle.fib_plane.proofs.Views.Seeing.{cell_is, cell_down, goes_down, held_down, record_down}

mac_no_edge : (m : Option ℕ) (y : ℕ) → leads (mac_word m) y → ⊥
mac_no_edge None y l = l
mac_no_edge (Some m) y l = l

-- a record's words are no edges
pub record_no_edge : (r : AdjacencyRecord) (s y : ℕ) → leads (record_word r s) y → ⊥
record_no_edge r zero y l = l
record_no_edge r (suc zero) y l = l
record_no_edge r (suc (suc zero)) y l = mac_no_edge r.mac y l
record_no_edge r (suc (suc (suc s))) y l = l

mac_said : (m : Option ℕ) → mac_in (value_of (mac_word m)) ≡ m
mac_said None = refl
mac_said (Some m) = refl

-- and say it
record_said : (r : AdjacencyRecord) (a b c : Word) → a ≡ record_word r 0 → b ≡ record_word r 1 → c ≡ record_word r 2 → hop_of a b c ≡ answers.Hop r.interface r.next_hop r.mac
record_said r a b c e f g =
    ap (λ (w : Word). hop_of w b c) e
    ∙ (ap (λ (w : Word). hop_of (record_word r 0) w c) f
    ∙ (ap (λ (w : Word). hop_of (record_word r 0) (record_word r 1) w) g
    ∙ ap (λ (m : Option ℕ). answers.Hop r.interface r.next_hop m) (mac_said r.mac)))

or_false : (a b : Bool) → a ≡ false → b ≡ false → (a || b) ≡ false
or_false true b e f = e
or_false false b e f = f

eqb_not : (x : ℕ) → x ≢ 0 → eqb x 0 ≡ false
eqb_not x ne = ne_eqb x 0 ne

pub adjacency_not_held : (root counted adjacency : Bool) → adjacency ≡ true → (not root && (counted && not adjacency)) ≡ false
adjacency_not_held true counted adjacency e = refl
adjacency_not_held false true adjacency e = ap not e
adjacency_not_held false false adjacency e = refl

module _ (p : Plane) (told : plane.IsPlane p) where
  abbrev u : View
  u = view_of p

  -- a record's object is neither held nor a ply
  pub record_apart : (m : AdjacencyRecord) (x : ℕ) → record_in p.records m ≡ Some x → (u.is_held x ≡ false) × (u.is_ply x ≡ false)
  record_apart m x e =
      let k = record_down p.records told.interned m x e in
      let a = told.records.adjacencies x k.0 k.1 in
      let other = told.records.other x k.0 k.1 in (
        adjacency_not_held (eqb x 0) _ (is_adjacency_at (at p.objects x)) (ap is_adjacency_at a.taken),
        or_false (eqb x 0) (is_ply_at (at p.objects x)) (eqb_not x other) (ap is_ply_at a.taken),
      )

  record_written : (m : AdjacencyRecord) (x : ℕ) → record_in p.records m ≡ Some x → adjacency_end u x ≡ answers.Hop m.interface m.next_hop m.mac
  record_written m x e =
      let k = record_down p.records told.interned m x e in
      let word : (s : ℕ) → s < 16 → u.cell x s ≡ record_word k.0.content s = (λ s lt. cell_is p.board x s lt ∙ told.records.words x s k.0 k.1 lt) in
      record_said k.0.content (u.cell x 0) (u.cell x 1) (u.cell x 2) (word 0 (omega arith)) (word 1 (omega arith)) (word 2 (omega arith))
      ∙ ap (λ (r : AdjacencyRecord). answers.Hop r.interface r.next_hop r.mac) k.2

  used : (m : AdjacencyRecord) (o : Option (Kept AdjacencyRecord)) → kept_as p.records m ≡ o → 0 < users_in o → (x : ℕ) × (option_map (λ k. k.id) o ≡ Some x)
  used m None is lt = absurd (let bad : ⊥ = omega arith in bad)
  used m (Some k) is lt = (k.id, refl)

  unused : (m : AdjacencyRecord) (o : Option (Kept AdjacencyRecord)) → kept_as p.records m ≡ o → users_in o ≡ 0 → option_map (λ k. k.id) o ≡ None
  unused m None is z = refl
  unused m (Some k) is z =
      let f = find_place _ p.records k is in
      let lt = told.interned.used k (contains_at p.records f.0 k f.1) in
      absurd (let bad : ⊥ = omega arith in bad)

  pub sound_of : Kinds u → ((x s : ℕ) → IsBalance u x → s < 16 → IsBucketWord (u.cell x s)) → IsPlane u
  sound_of kinds buckets = record {
    kinds = kinds;
    slots = λ x s y w l g. (goes_down p x s w y l g).0;
    root = (refl, refl);
    buckets = buckets;
    recorded = λ m lt. used m (kept_as p.records m) refl lt;
    forgotten = λ m z. unused m (kept_as p.records m) refl z;
    apart = λ m n x e f. (
        let k = record_down p.records told.interned m x e in
        let l = record_down p.records told.interned n x f in
        let same : k.0 ≡ l.0 = some_is k.0 l.0 (sym k.1 ∙ l.1) in
        sym k.2 ∙ (ap (λ (j : Kept AdjacencyRecord). j.content) same ∙ l.2));
    records = record_apart;
    plain = λ m x s y e l. (
        let k = record_down p.records told.interned m x e in
        let c = cell_down p.board x s (u.cell x s) y l refl in
        record_no_edge k.0.content s y (subst (λ (w : Word). leads w y) (sym c.1 ∙ told.records.words x s k.0 k.1 c.0) l));
    written = record_written;
    few = (let f = free_few p.objects in let s = told.size in let m = told.board.limits.most in omega arith);
    numbers = λ x h.
        (let is = (held_down p.board p.objects x h).1 in
        let below = live_in p.objects x (omega (arith, is)) in
        let s = told.size in let m = told.board.limits.most in omega (arith, below, s, m));
  }

-- room alone changes
with_spare : (u : View) (n : ℕ) → IsPlane u → IsPlane (record u { spare = n })
with_spare u n was = record {
  kinds = record { ply = was.kinds.ply; balance = was.kinds.balance; adjacency = was.kinds.adjacency };
  slots = was.slots;
  root = was.root;
  buckets = was.buckets;
  recorded = was.recorded;
  forgotten = was.forgotten;
  apart = was.apart;
  records = was.records;
  plain = was.plain;
  written = was.written;
  few = was.few;
  numbers = was.numbers;
}

pub room_sound : (u v : View) → HasRoom u v → IsPlane u → IsPlane v
room_sound u v room was = subst IsPlane (sym room.same) (with_spare u v.spare was)
