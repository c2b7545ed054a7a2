-- Cells of plies are counted.
use Rattle.std.proofs.Common.{arith, ◌≡◌, ◌≢◌, ℕ, zero, suc, ◌+◌, ◌*◌, ◌<◌, ◌≤◌, ◌⊎◌, inl, inr, Bool, true, false, true≢false, not, cond, eq-eqb, ne_eqb, List, [], ◌∷◌, length, refl, sym, ap, ◌∙◌, subst}
use Rattle.std.specs.Prelude.{filter, ◌==◌}
use Rattle.std.specs.List.{AllByRecursion}
use native.Mathlib.Decide.{ℕ_discrete}
use mathlib.Core.Logic.{dite}
use Rattle.fib_reach.specs.Walks.{AllDiffer}
use Rattle.fib_ply.specs.inner.Change.{slots, count_cells}
use Rattle.fib_ply.specs.Plies.{IsOne}

unit : Bool → ℕ
unit b = cond b 1 0

unit_le : (a b : Bool) → (a ≡ true → b ≡ true) → cond a 1 0 ≤ cond b 1 0
unit_le true true h = omega arith
unit_le true false h = absurd (true≢false (sym (h refl)))
unit_le false true h = omega arith
unit_le false false h = omega arith

unit_two : (a b : Bool) → (a ≡ true → b ≡ true → ⊥) → cond a 1 0 + cond b 1 0 ≤ 1
unit_two true true h = absurd (h refl refl)
unit_two true false h = omega arith
unit_two false true h = omega arith
unit_two false false h = omega arith

pub slots_le : (f g : ℕ → Bool) (k : ℕ) → ((s : ℕ) → s < k → f s ≡ true → g s ≡ true) → slots f k ≤ slots g k
unfolding slots
slots_le f g zero h = omega arith
slots_le f g (suc k) h = let a = unit_le (f k) (g k) (h k (omega arith)) in let b = slots_le f g k (λ s lt. h s (omega arith)) in omega (arith, a, b)

pub slots_lt : (f g : ℕ → Bool) (k i : ℕ) → ((s : ℕ) → s < k → f s ≡ true → g s ≡ true) → i < k → f i ≡ false → g i ≡ true → slots f k + 1 ≤ slots g k
unfolding slots
slots_lt f g zero i h lt not_so is = absurd (omega arith)
slots_lt f g (suc k) i h lt not_so is = dite (ℕ_discrete i k)
    (λ e. let p : f k ≡ false = ap f (sym e) ∙ not_so in let q : g k ≡ true = ap g (sym e) ∙ is in let b = slots_le f g k (λ s l. h s (omega arith)) in rw (p, q) (omega (arith, b)))
    (λ ne. let a = unit_le (f k) (g k) (h k (omega arith)) in let b = slots_lt f g k i (λ s l. h s (omega arith)) (omega arith) not_so is in omega (arith, a, b))

pub slots_two : (f g : ℕ → Bool) (k : ℕ) → ((s : ℕ) → s < k → f s ≡ true → g s ≡ true → ⊥) → slots f k + slots g k ≤ k
unfolding slots
slots_two f g zero h = omega arith
slots_two f g (suc k) h = let a = unit_two (f k) (g k) (h k (omega arith)) in let b = slots_two f g k (λ s lt. h s (omega arith)) in omega (arith, a, b)

pub cells_le : (f g : ℕ → ℕ → Bool) (xs : List ℕ) → ((x s : ℕ) → IsOne xs x → s < 16 → f x s ≡ true → g x s ≡ true) → count_cells f xs ≤ count_cells g xs
cells_le f g [] h = omega arith
cells_le f g (x ∷ xs) h = let a = slots_le (f x) (g x) 16 (λ s. h x s (inl refl)) in let b = cells_le f g xs (λ y s one. h y s (inr one)) in omega (arith, a, b)

pub cells_lt : (f g : ℕ → ℕ → Bool) (xs : List ℕ) (x s : ℕ) → ((y t : ℕ) → IsOne xs y → t < 16 → f y t ≡ true → g y t ≡ true) → IsOne xs x → s < 16 → f x s ≡ false → g x s ≡ true → count_cells f xs + 1 ≤ count_cells g xs
cells_lt f g [] x s h one lt not_so is = absurd one
cells_lt f g (y ∷ ys) x s h (inl e) lt not_so is =
    let a = slots_lt (f y) (g y) 16 s (λ t. h y t (inl refl)) lt (subst (λ (z : ℕ). f z s ≡ false) (sym e) not_so) (subst (λ (z : ℕ). g z s ≡ true) (sym e) is) in
    let b = cells_le f g ys (λ z t one. h z t (inr one)) in omega (arith, a, b)
cells_lt f g (y ∷ ys) x s h (inr one) lt not_so is =
    let a = slots_le (f y) (g y) 16 (λ t. h y t (inl refl)) in
    let b = cells_lt f g ys x s (λ z t one. h z t (inr one)) one lt not_so is in omega (arith, a, b)

pub cells_two : (f g : ℕ → ℕ → Bool) (xs : List ℕ) → ((x s : ℕ) → f x s ≡ true → g x s ≡ true → ⊥) → count_cells f xs + count_cells g xs ≤ 16 * length xs
cells_two f g [] h = omega arith
cells_two f g (x ∷ xs) h = let a = slots_two (f x) (g x) 16 (λ s _. h x s) in let b = cells_two f g xs h in omega (arith, a, b)

-- the list without an element

is_not : ℕ → ℕ → Bool
is_not c x = not (x == c)

pub cells_filter : (f : ℕ → ℕ → Bool) (c : ℕ) (xs : List ℕ) → count_cells f (filter (λ x. not (x == c)) xs) ≤ count_cells f xs
cells_filter f c [] = omega arith
cells_filter f c (x ∷ xs) = by_bool (not (x == c)) (cells_filter f c xs)
  where
    by_bool : (b : Bool) → count_cells f (filter (λ x. not (x == c)) xs) ≤ count_cells f xs → count_cells f (cond b (x ∷ filter (λ x. not (x == c)) xs) (filter (λ x. not (x == c)) xs)) ≤ slots (f x) 16 + count_cells f xs
    by_bool true h = omega (arith, h)
    by_bool false h = omega (arith, h)

passes : (c x : ℕ) → x ≢ c → not (x == c) ≡ true
passes c x ne = ap not (ne_eqb x c ne)

fails : (c x : ℕ) → x ≡ c → not (x == c) ≡ false
fails c x e = ap not (eq-eqb x c e)

pub one_filter : (c x : ℕ) (xs : List ℕ) → IsOne xs x → x ≢ c → IsOne (filter (λ y. not (y == c)) xs) x
one_filter c x [] one ne = one
one_filter c x (y ∷ ys) (inl e) ne = let p : not (y == c) ≡ true = passes c y (λ f. ne (sym e ∙ f)) in rw p (inl e)
one_filter c x (y ∷ ys) (inr one) ne = by_bool (not (y == c)) (one_filter c x ys one ne)
  where
    by_bool : (b : Bool) → IsOne (filter (λ y. not (y == c)) ys) x → IsOne (cond b (y ∷ filter (λ y. not (y == c)) ys) (filter (λ y. not (y == c)) ys)) x
    by_bool true h = inr h
    by_bool false h = h

pub filter_one : (c x : ℕ) (xs : List ℕ) → IsOne (filter (λ y. not (y == c)) xs) x → IsOne xs x × (x ≢ c)
filter_one c x [] h = absurd h
filter_one c x (y ∷ ys) h = dite (ℕ_discrete y c)
    (λ e. let p : not (y == c) ≡ false = fails c y e in let r = filter_one c x ys (rw p at h) in (inr r.0, r.1))
    (λ ne. let p : not (y == c) ≡ true = passes c y ne in there ne (filter_one c x ys) (rw p at h))
  where
    there : (y ≢ c) → (IsOne (filter (λ y. not (y == c)) ys) x → IsOne ys x × (x ≢ c)) → (y ≡ x) ⊎ IsOne (filter (λ y. not (y == c)) ys) x → IsOne (y ∷ ys) x × (x ≢ c)
    there ne further (inl e) = (inl e, λ f. ne (e ∙ f))
    there ne further (inr k) = let r = further k in (inr r.0, r.1)

each_one : (y : ℕ) (xs : List ℕ) → AllByRecursion (λ x. y ≢ x) xs → IsOne xs y → ⊥
each_one y [] h one = one
each_one y (x ∷ xs) h (inl e) = h.0 (sym e)
each_one y (x ∷ xs) h (inr one) = each_one y xs h.1 one

pub apart_cons : (y : ℕ) (xs : List ℕ) → (IsOne xs y → ⊥) → AllByRecursion (λ x. y ≢ x) xs
apart_cons y [] h = tt
apart_cons y (x ∷ xs) h = (λ e. h (inl (sym e)), apart_cons y xs (λ one. h (inr one)))

each_filter : (y c : ℕ) (xs : List ℕ) → AllByRecursion (λ x. y ≢ x) xs → AllByRecursion (λ x. y ≢ x) (filter (λ x. not (x == c)) xs)
each_filter y c xs h = apart_cons y (filter (λ x. not (x == c)) xs) (λ one. each_one y xs h (filter_one c y xs one).0)

pub apart_filter : (c : ℕ) (xs : List ℕ) → AllDiffer xs → AllDiffer (filter (λ x. not (x == c)) xs)
apart_filter c [] h = tt
apart_filter c (x ∷ xs) h = by_bool (not (x == c)) (apart_filter c xs h.1)
  where
    by_bool : (b : Bool) → AllDiffer (filter (λ x. not (x == c)) xs) → AllDiffer (cond b (x ∷ filter (λ x. not (x == c)) xs) (filter (λ x. not (x == c)) xs))
    by_bool true k = (each_filter x c xs h.0, k)
    by_bool false k = k

none_less : (c : ℕ) (xs : List ℕ) → (IsOne xs c → ⊥) → filter (λ x. not (x == c)) xs ≡ xs
none_less c [] h = refl
none_less c (x ∷ xs) h = let p : not (x == c) ≡ true = passes c x (λ e. h (inl e)) in rw p (ap (λ l. x ∷ l) (none_less c xs (λ one. h (inr one))))

pub one_less : (c : ℕ) (xs : List ℕ) → IsOne xs c → AllDiffer xs → length (filter (λ x. not (x == c)) xs) + 1 ≡ length xs
one_less c [] one h = absurd one
one_less c (x ∷ xs) one h = dite (ℕ_discrete x c)
    (λ e. let p : not (x == c) ≡ false = fails c x e in
    let gone : filter (λ x. not (x == c)) xs ≡ xs = none_less c xs (λ other. each_one x xs h.0 (subst (IsOne xs) (sym e) other)) in
    rw (p, gone) (omega arith))
    (λ ne. let p : not (x == c) ≡ true = passes c x ne in rw p (let r = one_less c xs (later ne one) h.1 in omega (arith, r)))
  where
    later : (x ≢ c) → (x ≡ c) ⊎ IsOne xs c → IsOne xs c
    later ne (inl e) = absurd (ne e)
    later ne (inr k) = k
