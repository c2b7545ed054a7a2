-- The places at which one list passes a test and another doesn't, each as an object and a cell of it.
use Rattle.std.proofs.Common.{arith, ◌≡◌, ◌⊎◌, ℕ, zero, suc, ◌+◌, ◌*◌, ◌/◌, ◌%◌, ◌<◌, inl, inr, Bool, true, false, not, ◌&&◌, List, [], ◌∷◌, length, refl, sym, ◌∙◌, ap, subst}
use Rattle.std.specs.Prelude.{count_by, slice_index, if◌then◌else◌}
use Rattle.std.proofs.lemmas.Bool.{false≢true}
use Rattle.fib_base_list.proofs.Booleans.{count_by-cons, unit_of}
use Rattle.fib_plane_view.specs.Stores.{AreOnce, Has}

-- from the place i on
pub lost : (ℕ → Bool) → ℕ → List ℕ → List ℕ → List (ℕ × ℕ)
lost f i [] cs = []
lost f i (b ∷ bs) [] = []
lost f i (b ∷ bs) (c ∷ cs) = if f b && not (f c) then (i / 16, i % 16) ∷ lost f (suc i) bs cs else lost f (suc i) bs cs

both : (b c : Bool) → b && not c ≡ true → (b ≡ true) × (c ≡ false)
both true true e = absurd (false≢true e)
both true false e = (refl, refl)
both false c e = absurd (false≢true e)

module _ (f : ℕ → Bool) where
  pub lost_long : (i : ℕ) (bs cs : List ℕ) → length cs ≡ length bs → ((k : ℕ) → k < length bs → f (slice_index cs k) ≡ true → f (slice_index bs k) ≡ true)
      → length (lost f i bs cs) + count_by f cs ≡ count_by f bs
  unfolding lost
  lost_long i [] [] e h = refl
  lost_long i [] (c ∷ cs) e h = absurd (let bad : ⊥ = omega arith in bad)
  lost_long i (b ∷ bs) [] e h = absurd (let bad : ⊥ = omega arith in bad)
  lost_long i (b ∷ bs) (c ∷ cs) e h =
      let x = count_by-cons f b bs in
      let y = count_by-cons f c cs in
      let rest = lost_long (suc i) bs cs (omega arith) (λ k lt. h (suc k) (omega arith)) in
      let here = by_case (f b) (f c) (lost f (suc i) bs cs) (h 0 (omega arith)) in
      omega arith
    where
      by_case : (p q : Bool) (rest : List (ℕ × ℕ)) → (q ≡ true → p ≡ true) → length (if p && not q then (i / 16, i % 16) ∷ rest else rest) + unit_of q ≡ unit_of p + length rest
      by_case true true rest h = omega arith
      by_case true false rest h = omega arith
      by_case false true rest h = absurd (false≢true (h refl))
      by_case false false rest h = omega arith

  pub lost_has : (i : ℕ) (bs cs : List ℕ) (x s : ℕ) → Has (lost f i bs cs) x s → (k : ℕ) × (i + k ≡ 16 * x + s) × (s < 16) × (f (slice_index bs k) ≡ true) × (f (slice_index cs k) ≡ false)
  unfolding lost
  lost_has i [] cs x s h = absurd h
  lost_has i (b ∷ bs) [] x s h = absurd h
  lost_has i (b ∷ bs) (c ∷ cs) x s h = by_test (f b && not (f c)) refl h (λ g. let r = lost_has (suc i) bs cs x s g in (suc r.0, omega (arith, r.1), r.2, r.3, r.4))
    where
      by_test : (t : Bool) → f b && not (f c) ≡ t → Has (if t then (i / 16, i % 16) ∷ lost f (suc i) bs cs else lost f (suc i) bs cs) x s
          → (Has (lost f (suc i) bs cs) x s → (k : ℕ) × (i + k ≡ 16 * x + s) × (s < 16) × (f (slice_index (b ∷ bs) k) ≡ true) × (f (slice_index (c ∷ cs) k) ≡ false))
          → (k : ℕ) × (i + k ≡ 16 * x + s) × (s < 16) × (f (slice_index (b ∷ bs) k) ≡ true) × (f (slice_index (c ∷ cs) k) ≡ false)
      by_test true is (inl e) rest = (let r = both (f b) (f c) is in (0, omega (arith, e.0, e.1), omega (arith, e.1), r.0, r.1))
      by_test true is (inr g) rest = rest g
      by_test false is g rest = rest g

  pub has_lost : (i : ℕ) (bs cs : List ℕ) (k x s : ℕ) → k < length bs → length cs ≡ length bs → i + k ≡ 16 * x + s → s < 16 → f (slice_index bs k) ≡ true → f (slice_index cs k) ≡ false → Has (lost f i bs cs) x s
  unfolding lost
  has_lost i [] cs k x s lt e is few p q = absurd (let bad : ⊥ = omega arith in bad)
  has_lost i (b ∷ bs) [] k x s lt e is few p q = absurd (let bad : ⊥ = omega arith in bad)
  has_lost i (b ∷ bs) (c ∷ cs) zero x s lt e is few p q =
      subst (λ (t : Bool). Has (if t then (i / 16, i % 16) ∷ lost f (suc i) bs cs else lost f (suc i) bs cs) x s) (sym (ap (λ (t : Bool). t && not (f c)) p ∙ ap not q)) (inl (omega arith, omega arith))
  has_lost i (b ∷ bs) (c ∷ cs) (suc k) x s lt e is few p q = later (f b && not (f c)) (has_lost (suc i) bs cs k x s (omega arith) (omega arith) (omega arith) few p q)
    where
      later : (t : Bool) → Has (lost f (suc i) bs cs) x s → Has (if t then (i / 16, i % 16) ∷ lost f (suc i) bs cs else lost f (suc i) bs cs) x s
      later true h = inr h
      later false h = h

  pub lost_once : (i : ℕ) (bs cs : List ℕ) → AreOnce (lost f i bs cs)
  unfolding lost
  lost_once i [] cs = tt
  lost_once i (b ∷ bs) [] = tt
  lost_once i (b ∷ bs) (c ∷ cs) = by_test (f b && not (f c)) (lost_once (suc i) bs cs) (λ h. (let r = lost_has (suc i) bs cs (i / 16) (i % 16) h in let at = r.1 in absurd (let bad : ⊥ = omega arith in bad)))
    where
      by_test : (t : Bool) → AreOnce (lost f (suc i) bs cs) → (Has (lost f (suc i) bs cs) (i / 16) (i % 16) → ⊥) → AreOnce (if t then (i / 16, i % 16) ∷ lost f (suc i) bs cs else lost f (suc i) bs cs)
      by_test true rest none = (none, rest)
      by_test false rest none = rest
