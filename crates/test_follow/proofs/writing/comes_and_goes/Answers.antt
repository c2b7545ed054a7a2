use Rattle.std.proofs.Common.{arith, ◌≡◌, [], List, Some, None, refl, sym, subst}
use Rattle.std.specs.List.Sorted.{IsStrictlySortedBy}
use Rattle.fib_base_list.proofs.Lists.{Contains-nil}
use Rattle.fib_addr.specs.Prefixes.{Prefix}
use Rattle.fib_entries_rows.specs.Known.{PathKept}
use Rattle.fib_entries_rows.specs.Rows.{Row}
use Rattle.fib_entries_rows.specs.inner.Used.{AreUsed}
use Rattle.fib_follow_write.specs.Plans.{IsPlan}
use Rattle.test_follow.proofs.writing.comes_and_goes.Goals as goal

none_used : AreUsed [] [] []
unfolding IsStrictlySortedBy
none_used = record {
  held = λ r q c d. absurd (Contains-nil r c);
  used = record {
    apart = record {
      used = λ k c. absurd (Contains-nil k c);
      numbers_apart = λ i j k l a b same. absurd (none_there k a);
      contents_apart = λ i j k l a b same. absurd (none_there k a);
    };
    users = λ k c. absurd (Contains-nil k c);
    found = λ paths pos. absurd (omega (arith, pos));
  };
  ordered = tt;
  same = refl;
}
  where
    none_there : (k : PathKept) → None ≡ Some k → ⊥
    none_there k a = (cc)

used_as : (rows : List Row) (lists : List PathKept) (order : List Prefix) → rows ≡ [] → lists ≡ [] → order ≡ [] → AreUsed rows lists order
used_as rows lists order r l o =
    subst (λ z. AreUsed z lists order) (sym r) (subst (λ z. AreUsed [] z order) (sym l) (subst (AreUsed [] []) (sym o) none_used))

pub write-requires-clause-used : goal.write-requires-clause-used
write-requires-clause-used c =
    used_as c.new-rows.result c.new-lists.result c.new-order.result c.new-rows.ensures c.new-lists.ensures c.new-order.ensures

pub write-requires-clause-plan : goal.write-requires-clause-plan
write-requires-clause-plan c = subst (λ z. IsPlan z c.in_ok-first.first) (sym c.new-rows.ensures) c.in_ok-first.ensures
