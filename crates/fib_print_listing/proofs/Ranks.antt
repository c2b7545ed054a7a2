-- Prefixes with their ranks, sorted.
use Rattle.std.proofs.Common.{arith, ◌≡◌, ℕ, zero, suc, ◌+◌, ◌-◌, ◌≤◌, false, List, [], ◌∷◌, ◌++◌, take, map, Some, sym, ◌∙◌, ap, subst, slice_get}
use Rattle.std.specs.Prelude.{Contains, slice_index_or}
use Rattle.std.specs.List.Sorted.{IsPermutation, IsSorted}
use Rattle.std.specs.declared.cmp.Ordering.{Ordering}
use Rattle.std.specs.Ordering.{is_lt, nat_cmp, ordering_then}
use Rattle.std.proofs.lemmas.Bool.Decides.{nat_tests}
use Rattle.std.proofs.lemmas.List.Sorted.{Contains-permutation, IsPermutation-sym}
use Rattle.std.proofs.lemmas.Option.{slice_get_within, slice_get-get_or, get_or_from_slice_get}
use Rattle.fib_addr.specs.Prefixes.{Prefix}
use Rattle.fib_cover.specs.Covers.{prefix_cmp}
use Rattle.fib_base_interned.proofs.Finding.{some_is}
use Rattle.fib_entries_rows.specs.Rows.{Row}
use Rattle.fib_entries_rows.specs.Known.{prefix_of, rank_of}
use Rattle.fib_print_listing.specs.inner.Forwards.{ranked_in, AreRanked, AreRising}
use Rattle.fib_print_listing.proofs.Taking.{map_at}

abbrev ranked_cmp : ℕ × Prefix → ℕ × Prefix → Ordering
ranked_cmp x y = ordering_then (nat_cmp x.0 y.0) (prefix_cmp x.1 y.1)

weak : (x y : ℕ × Prefix) → is_lt (ranked_cmp y x) ≡ false → x.0 ≤ y.0
weak x y h = grind (arith, nat_tests)

module _ (xs : List (ℕ × Prefix)) (s : IsSorted ranked_cmp xs) where
  step : (i : ℕ) (x y : ℕ × Prefix) → slice_get xs i ≡ Some x → slice_get xs (i + 1) ≡ Some y → x.0 ≤ y.0
  step i x y a b =
      weak x y (ap (λ u. is_lt (ranked_cmp u x)) (sym (get_or_from_slice_get xs (i + 1) y x b))
      ∙ ap (λ w. is_lt (ranked_cmp (slice_index_or xs (i + 1) x) w)) (sym (get_or_from_slice_get xs i x x a)) ∙ s i x (omega arith) (omega (arith, slice_get_within xs (i + 1) y b)))

  along : (d i j : ℕ) → j ≡ i + d → (x y : ℕ × Prefix) → slice_get xs i ≡ Some x → slice_get xs j ≡ Some y → x.0 ≤ y.0
  along zero i j e x y a b =
      let same : j ≡ i = omega (arith, e) in
      subst (λ (z : ℕ × Prefix). x.0 ≤ z.0) (some_is x y (sym a ∙ ap (slice_get xs) (sym same) ∙ b)) (omega arith)
  along (suc d) i j e x y a b =
      let within = slice_get_within xs j y b in
      let at = slice_get-get_or xs (i + 1) x (omega (arith, e, within)) in
      let first = step i x _ a at in
      let rest = along d (i + 1) j (omega (arith, e)) _ y at b in
      omega (arith, first, rest)

  rising : AreRising xs
  rising i j x y le a b = along (j - i) i j (omega (arith, le)) x y a b

pub ranks_sorted : (rows : List Row) (xs ys : List (ℕ × Prefix)) → xs ≡ map (ranked_in rows) (map prefix_of rows) → IsPermutation xs ys → IsSorted (λ x y. ordering_then (nat_cmp x.0 y.0) (prefix_cmp x.1 y.1)) ys → AreRanked rows ys
ranks_sorted rows xs ys is moved s = record {
  members = λ x. (
    λ c. subst (λ l. Contains l x) is (Contains-permutation ys xs x (IsPermutation-sym xs ys moved) c),
    λ c. Contains-permutation xs ys x moved (subst (λ l. Contains l x) (sym is) c),
  );
  rising = rising ys s;
}

-- the ranks of one prefix more
pub ranked_more : (rows : List Row) (n rank : ℕ) (e : Prefix) (old new : List (ℕ × Prefix)) → slice_get (map prefix_of rows) n ≡ Some e → rank ≡ rank_of rows e → old ≡ map (ranked_in rows) (take n (map prefix_of rows)) → new ≡ old ++ (rank, e) ∷ [] → new ≡ map (ranked_in rows) (take (n + 1) (map prefix_of rows))
ranked_more rows n rank e old new at is so pushed =
    let ps = map prefix_of rows in
    pushed
    ∙ ap (λ (l : List (ℕ × Prefix)). l ++ (rank, e) ∷ []) so
    ∙ ap (λ (r : ℕ). map (ranked_in rows) (take n ps) ++ (r, e) ∷ []) is
    ∙ sym (map_at (ranked_in rows) ps n e at)
