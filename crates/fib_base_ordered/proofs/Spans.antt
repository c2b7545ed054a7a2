-- For how many members blocks are enough.
use Rattle.std.proofs.Common.{arith, ◌≡◌, ℕ, zero, suc, ◌+◌, ◌-◌, ◌*◌, ◌/◌, ◌<◌, ◌≤◌, ◌⊎◌, inl, inr, get_or, length, take, drop, set, List, [], ◌∷◌, ◌++◌, sym, ◌∙◌, ap, subst}
use Rattle.std.specs.Prelude.{insert, remove}
use Rattle.std.specs.List.{AllByRecursion}
use Rattle.std.proofs.lemmas.List.{take-append-drop}
use Rattle.fib_base_ordered.specs.declared.block.Block.{Block}
use Rattle.fib_base_ordered.specs.inner.Blocks.{items_of, weight, span, cost, Covers, IsFilled}

module _ {T : Type 0} where
  pub span_least : (xs : List (Block T)) → 32 * length xs ≤ span xs
  span_least [] = omega arith
  span_least (x ∷ xs) = let h = span_least xs in omega (arith, h)

  pub span_most : (xs : List (Block T)) → AllByRecursion IsFilled xs → span xs ≤ 64 * length xs
  span_most [] h = omega arith
  span_most (x ∷ xs) h = let k = span_most xs h.1 in let few = h.0.few in omega (arith, k, few)

  span_join : (xs ys : List (Block T)) → span (xs ++ ys) ≡ span xs + span ys
  span_join [] ys = omega arith
  span_join (x ∷ xs) ys = let h = span_join xs ys in omega (arith, h)

  span_parts : (xs : List (Block T)) (i : ℕ) → span (take i xs) + span (drop i xs) ≡ span xs
  span_parts xs i = sym (span_join (take i xs) (drop i xs)) ∙ ap span (take-append-drop i xs)

  span_set : (xs : List (Block T)) (i : ℕ) (y d : Block T) → i < length xs → span (set xs i y) + weight (get_or xs i d) ≡ span xs + weight y
  span_set [] i y d lt = absurd (omega (arith, lt))
  span_set (x ∷ xs) zero y d lt = omega arith
  span_set (x ∷ xs) (suc i) y d lt = let h = span_set xs i y d (omega (arith, lt)) in omega (arith, h)

  span_insert : (xs : List (Block T)) (i : ℕ) (y : Block T) → span (insert xs i y) ≡ span xs + weight y
  span_insert xs i y = let e = span_join (take i xs) (y ∷ drop i xs) in let f = span_parts xs i in omega (arith, e, f)

  span_remove : (xs : List (Block T)) (i : ℕ) → span (remove xs i) ≤ span xs
  span_remove [] zero = omega arith
  span_remove [] (suc i) = omega arith
  span_remove (x ∷ xs) zero = omega arith
  span_remove (x ∷ xs) (suc i) = let h = span_remove xs i in omega (arith, h)

  module _ (xs : List (Block T)) (i : ℕ) (y d : Block T) (lt : i < length xs) (is : d ≡ get_or xs i d) where
    changed : span (set xs i y) + weight d ≡ span xs + weight y
    changed = ap (λ b. span (set xs i y) + weight b) is ∙ span_set xs i y d lt

    pub put_cost : length (items_of y) ≡ length (items_of d) + 1 → cost (set xs i y) ≤ cost xs + 1
    put_cost long = let h = changed in omega (arith, h, long)

    pub out_cost : length (items_of y) ≤ length (items_of d) → cost (set xs i y) ≤ cost xs
    out_cost short = let h = changed in omega (arith, h, short)

    pub remove_cost : length (items_of y) ≤ length (items_of d) → cost (remove (set xs i y) i) ≤ cost xs
    remove_cost short = let h = changed in let r = span_remove (set xs i y) i in omega (arith, h, r, short)

    pub split_cost : (z : Block T) → 64 < length (items_of d) → length (items_of y) ≡ 32 → length (items_of z) ≡ length (items_of d) - 32 → cost (insert (set xs i y) (i + 1) z) ≤ cost xs
    split_cost z long low high = let h = changed in let r = span_insert (set xs i y) (i + 1) z in omega (arith, h, r, long, low, high)

  -- where there is room, a block is idle
  pub some_idle : (s : ℕ) (blocks idle : List (Block T)) → 0 < s → Covers s blocks idle → 0 < length idle
  some_idle s blocks idle pos h = let l = span_least blocks in omega (arith, pos, h, l)

  pub covers_more : (more wanted : ℕ) (blocks idle : List (Block T)) → AllByRecursion IsFilled blocks → (more ≤ wanted) ⊎ (length blocks + more / 32 + 2 ≤ wanted) → wanted ≤ length idle → Covers more blocks idle
  covers_more more wanted blocks idle filled (inl le) enough = omega (arith, le, enough)
  covers_more more wanted blocks idle filled (inr le) enough = let m = span_most blocks filled in omega (arith, le, enough, m)

  -- one member more, or less
  pub covers_put : (s : ℕ) (bs is bs' is' : List (Block T)) → 0 < s → Covers s bs is → length bs' + length is' ≡ length bs + length is → length is ≤ length is' + 1 → cost bs' ≤ cost bs + 1 → Covers (s - 1) bs' is'
  covers_put s bs is bs' is' pos h all fewer more = let l = span_least bs in omega (arith, pos, h, all, fewer, more, l)

  pub covers_out : (s : ℕ) (bs is bs' is' : List (Block T)) → Covers s bs is → length bs' + length is' ≡ length bs + length is → length is ≤ length is' → cost bs' ≤ cost bs → Covers s bs' is'
  covers_out s bs is bs' is' h all more less = omega (arith, h, all, more, less)

  pub covers_grown : (s : ℕ) (bs is bs' is' : List (Block T)) → Covers s bs is → bs' ≡ bs → length is ≤ length is' → Covers s bs' is'
  covers_grown s bs is bs' is' h same more = subst (λ b. Covers s b is') (sym same) (omega (arith, h, more))
