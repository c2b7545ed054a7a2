-- Where a prefix belongs among rows in order, and how its row comes and goes again.
use Rattle.std.proofs.Common.{arith, ◌≡◌, ℕ, zero, suc, ◌≤◌, List, [], ◌∷◌, map, length, Some, refl, ◌∙◌, ap, subst, slice_get}
use Rattle.std.specs.List.{insert, remove}
use Rattle.std.specs.List.Sorted.{IsNonDecreasingBy, IsPartitionPoint}
use Rattle.std.specs.Ordering.{ordering_index, ordering_reverse}
use Rattle.std.specs.declared.cmp.Ordering.TheVariants.{Less, Greater}
use Rattle.std.proofs.lemmas.Option.{slice_get_within}
use Rattle.fib_addr.specs.Prefixes.{Prefix}
use Rattle.fib_cover.specs.Covers.{prefix_cmp, IsAscending}
use Rattle.fib_cover.proofs.Order.{prefix_total}
use Rattle.fib_base_interned.proofs.Finding.{some_is, none_some}
use Rattle.fib_entries_rows.specs.Known.{prefix_of}
use Rattle.fib_entries_rows.specs.inner.Plies.{IsGap}
use Rattle.fib_entries_rows.specs.Rows.{Row}
use Rattle.fib_entries_rows.proofs.Looking.{rising, holds_there}
use Rattle.fib_entries_rows.proofs.Placing.{length_map, insert_back}

pub map_at : (rows : List Row) (k : ℕ) (q : Prefix) → slice_get (map prefix_of rows) k ≡ Some q → (r : Row) × (slice_get rows k ≡ Some r) × (r.prefix ≡ q)
map_at [] k q at = absurd (none_some q at)
map_at (r ∷ rs) zero q at = (r, refl, some_is r.prefix q at)
map_at (r ∷ rs) (suc k) q at = map_at rs k q at

-- where a search ends without a row, the prefix belongs
pub gap_from : (rows : List Row) (p : Prefix) (i : ℕ) → IsAscending (map prefix_of rows) → i ≤ length rows
    → (IsNonDecreasingBy (λ (r : Row). ordering_index (prefix_cmp r.prefix p)) rows → IsPartitionPoint (λ (r : Row). prefix_cmp r.prefix p ≡ Less) (λ (r : Row). prefix_cmp r.prefix p ≡ Greater) rows i) → IsGap (map prefix_of rows) i p
gap_from rows p i asc le part =
    let both = part (rising prefix_of rows p asc) in
    let e = length_map prefix_of rows in
    record {
      inside = omega (arith, le, e);
      before = λ j q at low. (let r = map_at rows j q at in
          subst (λ z. prefix_cmp z p ≡ Less) r.2 (holds_there prefix_of (λ (z : Row). prefix_cmp z.prefix p ≡ Less) rows j r.0 (λ d. both.0 j d (omega arith) low) r.1));
      after = λ j q at high. (let r = map_at rows j q at in
          let within = slice_get_within rows j r.0 r.1 in
          let more = holds_there prefix_of (λ (z : Row). prefix_cmp z.prefix p ≡ Greater) rows j r.0 (λ d. both.1 j d high within) r.1 in
          subst (λ z. prefix_cmp p z ≡ Less) r.2 (prefix_total.antisymm p r.0.prefix ∙ ap ordering_reverse more));
    }

-- a row that was put in is taken out
pub taken_back : (rows mid new : List Row) (place : ℕ) (row : Row) → place ≤ length rows → mid ≡ insert rows place row → new ≡ remove mid place → new ≡ rows
taken_back rows mid new place row le is gone = gone ∙ (ap (λ l. remove l place) is ∙ insert_back rows place row le)
