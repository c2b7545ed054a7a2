use Rattle.std.proofs.Common.{◌≡◌, [], inr, sym, ◌∙◌, subst}
use Rattle.std.specs.Prelude.{Contains}
use Rattle.fib_base_list.proofs.Lists.{Contains-nil}
use Rattle.fib_reach.specs.Walks.{AllDiffer}
use Rattle.test_follow.proofs.writing.coming.Goals as goal

pub returns : goal.returns
returns c = record {
  came_once = subst AllDiffer (sym c.in_ok-came.ensures) (tt, tt);
  came_new = λ p d none. Contains-nil p none;
  paired_once = subst AllDiffer (sym c.in_ok-paired.ensures) (tt, tt);
  paired_there = λ p d. inr (subst (λ l. Contains l p) (c.in_ok-paired.ensures ∙ sym c.in_ok-came.ensures) d);
  paired_stay = λ p d none. Contains-nil p (subst (λ l. Contains l p) c.new-gone.ensures none);
  gone_once = subst AllDiffer (sym c.new-gone.ensures) tt;
  edges_new = record { once = c.in_ok-edges_in.ensures; absent = λ e r d none own own_too. Contains-nil r none };
}
