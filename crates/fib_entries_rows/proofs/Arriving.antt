-- Rows in order, as one comes or goes.
use Rattle.std.proofs.Common.{arith, ◌≡◌, ◌≢◌, ℕ, ◌≤◌, List, map, length, ◌⊎◌, inl, inr, sym, subst, ◌↔◌}
use Rattle.std.specs.Prelude.{Contains}
use Rattle.std.specs.List.{insert}
use Rattle.fib_addr.specs.Prefixes.{Prefix}
use Rattle.fib_cover.specs.Covers.{IsAscending}
use Rattle.fib_entries_rows.specs.Known.{prefix_of}
use Rattle.fib_entries_rows.specs.inner.Plies.{IsGap}
use Rattle.fib_entries_rows.specs.Rows.{Row}
use Rattle.fib_entries_rows.proofs.Placing.{inserted_map, inserted_ascending, length_map, same_order}

-- what belongs among the prefixes belongs among the rows
pub gap_inside : (rows : List Row) (place : ℕ) (p : Prefix) → IsGap (map prefix_of rows) place p → place ≤ length rows
gap_inside rows place p gap = let le = gap.inside in let e = length_map prefix_of rows in omega (arith, le, e)

pub ordered_with : (rows : List Row) (place : ℕ) (row : Row) → IsGap (map prefix_of rows) place row.prefix → IsAscending (map prefix_of rows) → IsAscending (map prefix_of (insert rows place row))
ordered_with rows place row gap asc = subst IsAscending (sym (inserted_map prefix_of rows place row (gap_inside rows place row.prefix gap))) (inserted_ascending (map prefix_of rows) place row.prefix gap asc)

-- what came and went again is as it was
pub set_back : (order mid later : List Prefix) (p : Prefix) → IsAscending order → IsAscending later → (Contains order p → ⊥) → ((e : Prefix) → Contains mid e ↔ Contains order e ⊎ (e ≡ p)) → ((e : Prefix) → Contains later e ↔ Contains mid e × (e ≢ p)) → later ≡ order
set_back order mid later p asc later_asc none came went = same_order later order later_asc asc (λ e. (
  λ c. (let g = (went e).0 c in elim ((came e).0 g.0) [ inl was ↦ was | inr is ↦ absurd (g.1 is) ]),
  λ c. (went e).1 ((came e).1 (inl c), λ is. none (subst (Contains order) is c)),
))
