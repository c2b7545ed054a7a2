-- Growing step by step.
use Rattle.std.proofs.Common.{◌≡◌, ℕ, ◌+◌, ◌*◌, ◌-◌, ◌/◌, ◌^◌, ◌<◌, ◌≤◌, inl, inr, ⊎_elim, Bool, true, sym, ap, ◌∙◌, subst, arith}
use native.Mathlib.Decide.{ℕ_discrete}
use mathlib.Core.Logic.{dite}
use Rattle.fib_plane_view.specs.Promise.{Promise}
use Rattle.fib_plane_view.specs.View.{View}
use Rattle.fib_ply.specs.Prefixes.{Look}
use Rattle.fib_ply.specs.inner.Change.{IsPaid, plus, IsCellOf, IsGrown, GrowsTo, Grows, IsUnderWay, IsUnderWayAt, WereBare}
use Rattle.fib_ply.specs.Plies.{Mixed, Has, IsAt}
use Rattle.fib_ply.specs.Served.{Watch, Paths}
use Rattle.fib_core.specs.declared.word.Word.{Word}
use Rattle.fib_ply.specs.Fitting.{IsFilled}
use Rattle.fib_ply.specs.inner.Trie.{IsTrie}
use Rattle.fib_core_steady.specs.Names.{IsBelow}
use Rattle.fib_ply.proofs.Fitting.{place_above}
use Rattle.fib_ply.proofs.Paths.{fits_trie}
use Rattle.fib_ply.proofs.Sprouts.{plus_more, plus_new, plus_only}

-- at the start
pub grown_none : (wants : Watch) (there : ℕ → ℕ → Bool) (old new : Look) (pos : ℕ) (n : Paths) (u : View) (a goal x d s : ℕ) → IsAt wants there old new pos n u → IsCellOf n u a x d s → IsGrown there there a goal d
grown_none wants there old new pos n u a goal x d s at cell = record {
  more = λ e w h. h;
  only = λ e w h. inl h;
  down = λ e le.
      let k : ℕ = d - (e + 1) in
      let f : e + 1 + k ≡ n.depth x = omega (arith, cell.path.1) in
      let le' : e + 1 + k ≤ 7 = omega (arith, cell.few.1) in
      let here : there (n.depth x) (n.value x) ≡ true = ⊎_elim (λ (z : x ≡ 0). absurd (let q : n.depth x ≡ 0 = ap n.depth z ∙ at.fits.root.1 in omega arith)) (λ (h : there (n.depth x) (n.value x) ≡ true). h) (at.fits.needed x cell.path.0).1 in
      let below : IsBelow a (n.depth x) (n.value x) = subst (λ (i : ℕ). IsBelow a i (n.value x)) (sym cell.path.1) cell.path.2 in
      place_above (Has there) at.fits.upward a k e (n.value x) le' (subst (λ (i : ℕ). there i (n.value x) ≡ true) (sym f) here) (subst (λ (i : ℕ). IsBelow a i (n.value x)) (sym f) below);
}

-- one ply more
pub grown_more : (there after : ℕ → ℕ → Bool) (a goal d : ℕ) → d < goal → IsGrown there after a goal d → IsGrown there (plus after (d + 1) (a / 2 ^ (28 - 4 * d))) a goal (d + 1)
grown_more there after a goal d lt g =
    let shift : 28 - 4 * d ≡ 32 - 4 * (d + 1) = omega arith in
    let w : ℕ = a / 2 ^ (28 - 4 * d) in
    record {
      more = λ e v h. plus_more after (d + 1) w e v (g.more e v h);
      only = λ e v h. ⊎_elim (λ (q : after e v ≡ true). g.only e v q) (λ (q : (e ≡ d + 1) × (v ≡ w)). inr (omega (arith, q.0), omega (arith, q.0), ap (λ i. a / 2 ^ (32 - 4 * i)) q.0 ∙ ap (λ i. a / 2 ^ i) (sym shift) ∙ sym q.1)) (plus_only after (d + 1) w e v h);
      down = λ e le. dite (ℕ_discrete e d)
          (λ same. subst (λ (i : ℕ). plus after (d + 1) w (i + 1) (a / 2 ^ (32 - 4 * (i + 1))) ≡ true) (sym same) (subst (λ (i : ℕ). plus after (d + 1) w (d + 1) (a / 2 ^ i) ≡ true) shift (plus_new after (d + 1) w)))
          (λ ne. plus_more after (d + 1) w (e + 1) (a / 2 ^ (32 - 4 * (e + 1))) (g.down e (omega arith)));
    }

pub grown_all : (there after : ℕ → ℕ → Bool) (a goal d : ℕ) → goal ≤ d → IsGrown there after a goal d → IsGrown there after a goal goal
grown_all there after a goal d le g = record { more = g.more; only = g.only; down = λ e lt. g.down e (omega arith) }

-- the cell that `find` answers
pub found_at : (p : Promise) (u : View) (a x d s : ℕ) → IsUnderWay p u → ((m : Paths) → IsTrie m u → IsCellOf m u a x d s) → IsUnderWayAt p u a x d s
found_at p u a x d s q found = (q.0, q.1, q.2, q.3, q.4, q.5, q.6, found q.5 (fits_trie (Mixed q.2 q.3 q.4) (Has q.1) q.5 u q.6.fits), q.7)

pub paid_none : (n : Paths) (u : View) → IsPaid n n u u 0
paid_none n u = record { plies = omega arith; spare = omega arith; stored = omega arith; more = omega arith; mine = λ m. m }

pub paid_then : (n m k : Paths) (u v w : View) (i : ℕ) → IsPaid n m u v i → IsPaid m k v w 1 → IsPaid n k u w (i + 1)
paid_then n m k u v w i f g = record { plies = omega (arith, f.plies, g.plies); spare = omega (arith, f.spare, g.spare); stored = omega (arith, f.stored, g.stored); more = omega (arith, f.more, g.more); mine = λ h. g.mine (f.mine h) }

pub grows_none : (u : View) (a goal x d s : ℕ) → ((m : Paths) → IsTrie m u → IsCellOf m u a x d s) → GrowsTo u u a goal x d s 0
grows_none u a goal x d s found = λ wants there old new pos n at. (let cell = found n (fits_trie (Mixed old new pos) (Has there) n u at.fits) in (there, n, at, cell, grown_none wants there old new pos n u a goal x d s at cell, paid_none n u))

-- what one step does
abbrev pub SproutsTo : View → View → ℕ → ℕ → ℕ → ℕ → ℕ → ℕ → ℕ → Type 0
SproutsTo u v a x d s y e t =
    (wants : Watch) (there : ℕ → ℕ → Bool) (old new : Look) (pos : ℕ) (n : Paths) → IsAt wants there old new pos n u → IsCellOf n u a x d s
    → (m : Paths) × IsAt wants (plus there (d + 1) (a / 2 ^ (28 - 4 * d))) old new pos m v × IsCellOf m v a y e t × IsPaid n m u v 1

pub grows_more : (u0 u1 u2 : View) (a goal x d s y e t i : ℕ) → d < goal → e ≡ d + 1 → GrowsTo u0 u1 a goal x d s i → SproutsTo u1 u2 a x d s y e t → GrowsTo u0 u2 a goal y e t (i + 1)
grows_more u0 u1 u2 a goal x d s y e t i lt is before step = λ wants there old new pos n at.
    (let h = before wants there old new pos n at in
    let k = step wants h.0 old new pos h.1 h.2 h.3 in (
      plus h.0 (d + 1) (a / 2 ^ (28 - 4 * d)),
      k.0,
      k.1,
      k.2,
      subst (λ (j : ℕ). IsGrown there (plus h.0 (d + 1) (a / 2 ^ (28 - 4 * d))) a goal j) (sym is) (grown_more there h.0 a goal d lt h.4),
      paid_then n h.1 k.0 u0 u1 u2 i h.5 k.3,
    ))

pub ready_more : (p r : Promise) (u1 u2 : View) (a x d s y e t : ℕ) → r ≡ p → IsUnderWayAt p u1 a x d s → SproutsTo u1 u2 a x d s y e t → IsUnderWayAt r u2 a y e t
ready_more p r u1 u2 a x d s y e t same q step = let k = step q.0 q.1 q.2 q.3 q.4 q.5 q.6 q.7 in (q.0, plus q.1 (d + 1) (a / 2 ^ (28 - 4 * d)), q.2, q.3, q.4, k.0, k.1, k.2, q.8 ∙ sym same)

pub grows_all : (u0 u1 : View) (a goal x d s i : ℕ) → goal ≤ d → GrowsTo u0 u1 a goal x d s i → Grows u0 u1 a goal i
grows_all u0 u1 a goal x d s i le h = λ wants there old new pos n at. (let k = h wants there old new pos n at in (k.0, k.1, k.2, grown_all there k.0 a goal d le k.4, k.5))

-- the depths at which plies came had none
pub bare_none : (u : View) (a d : ℕ) → WereBare u a d 0
bare_none u a d = λ wants there old new pos n at e lt le h. absurd (omega (arith, lt, le))

-- below a cell that leads to a balance there is no ply
below_leaf : (wants : Watch) (there : ℕ → ℕ → Bool) (old new : Look) (pos : ℕ) (n : Paths) (u : View) (a x d s : ℕ) → IsAt wants there old new pos n u → IsCellOf n u a x d s → there (d + 1) (a / 2 ^ (32 - 4 * (d + 1))) ≡ true → ⊥
below_leaf wants there old new pos n u a x d s at cell h =
    let filled = subst (λ (w : Word). IsFilled (Mixed old new pos) (Has there) n x s w) cell.leaf.1 (at.fits.cells x s cell.path.0 cell.few.0) in
    filled.0 (subst (λ (i : ℕ). there (i + 1) (16 * n.value x + s) ≡ true) (sym cell.path.1) (ap (there (d + 1)) (sym cell.below) ∙ h))

pub bare_more : (u0 u1 : View) (a goal x d s i : ℕ) → GrowsTo u0 u1 a goal x d s i → WereBare u0 a d i → WereBare u0 a (d + 1) (i + 1)
bare_more u0 u1 a goal x d s i grows bare = λ wants there old new pos n at e lt le h.
    (let k = grows wants there old new pos n at in
    dite (ℕ_discrete e (d + 1))
    (λ is. below_leaf wants k.0 old new pos k.1 u1 a x d s k.2 k.3 (k.4.more (d + 1) (a / 2 ^ (32 - 4 * (d + 1))) (subst (λ (j : ℕ). there j (a / 2 ^ (32 - 4 * j)) ≡ true) is h)))
    (λ ne. bare wants there old new pos n at e (omega (arith, lt)) (omega (arith, le, ne)) h))

pub bare_all : (u : View) (a goal d i : ℕ) → goal ≤ d → (0 < i → d ≤ goal) → WereBare u a d i → WereBare u a goal i
bare_all u a goal d i over within bare = λ wants there old new pos n at e lt le h.
    (let same : d ≤ goal = within (omega (arith, lt, le)) in
    bare wants there old new pos n at e (omega (arith, lt, over, same)) (omega (arith, le, over)) h)
