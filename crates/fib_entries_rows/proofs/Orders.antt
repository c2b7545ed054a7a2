-- The plies of entries in order.
use Rattle.std.proofs.Common.{◌≡◌, false, List, [], ◌∷◌, length, inl, inr, sym, subst, ◌↔◌}
use Rattle.std.specs.Prelude.{Contains}
use Rattle.std.specs.List.{IsDistinct}
use Rattle.std.specs.List.Sorted.{IsStrictlySortedBy}
use Rattle.std.specs.declared.cmp.Ordering.TheVariants.{Less}
use Rattle.fib_base_list.proofs.Lists.{either, each-weaker}
use Rattle.fib_addr.specs.Prefixes.{Prefix, same_prefix}
use Rattle.fib_addr.proofs.PrefixLaws.{same_prefix-Decides}
use Rattle.fib_cover.specs.Covers.{prefix_cmp, IsAscending}
use Rattle.fib_resolve.specs.Pairs.{entries}
use Rattle.fib_resolve.specs.Sizes.{plies}
use Rattle.fib_resolve.specs.declared.types.Tables.{Tables}
use Rattle.fib_entries_rows.proofs.LeafSizes.{ply_count, plies_alike}
use Rattle.fib_entries_rows.proofs.Looking.{never}

-- the plies of the entries, in whatever order
pub plies_in : (S : Tables) (order : List Prefix) → ((e : Prefix) → Contains order e ↔ Contains (entries S) e) → ply_count order ≡ length (plies S)
unfolding plies
plies_in S order same = plies_alike order (entries S) same

-- what ascends has no repeats
pub ascending_distinct : (order : List Prefix) → IsAscending order → IsDistinct same_prefix order
unfolding IsDistinct IsStrictlySortedBy
ascending_distinct [] asc = tt
ascending_distinct (x ∷ xs) asc = (each-weaker (λ z. prefix_cmp x z ≡ Less) (λ z. same_prefix x z ≡ false) (λ z less. other x z less) xs asc.0, ascending_distinct xs asc.1)
  where
    other : (x z : Prefix) → prefix_cmp x z ≡ Less → same_prefix x z ≡ false
    other x z less = elim (either (same_prefix x z)) [
      | inr isnt ↦ isnt
      | inl is ↦ absurd (never x (subst (λ q. prefix_cmp x q ≡ Less) (sym ((same_prefix-Decides x z).0 is)) less))
    ]
