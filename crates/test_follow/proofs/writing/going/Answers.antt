use Rattle.std.proofs.Common.{◌≡◌, [], map, sym, ap, subst}
use Rattle.std.specs.Prelude.{Contains}
use Rattle.fib_base_list.proofs.Lists.{Contains-nil}
use Rattle.fib_reach.specs.Walks.{AllDiffer}
use Rattle.fib_follow_write.specs.Written.{paired_prefix}
use Rattle.test_follow.proofs.writing.going.Goals as goal

pub returns : goal.returns
returns c = λ rows.
    (let none = ap (map paired_prefix) c.new-paired.ensures in
    record {
      came_once = subst AllDiffer (sym c.new-came.ensures) tt;
      came_new = λ p d own. Contains-nil p (subst (λ l. Contains l p) c.new-came.ensures d);
      paired_once = subst AllDiffer (sym none) tt;
      paired_there = λ p d. absurd (Contains-nil p (subst (λ l. Contains l p) none d));
      paired_stay = λ p d own. Contains-nil p (subst (λ l. Contains l p) none d);
      gone_once = subst AllDiffer (sym c.in_ok-gone.ensures) (tt, tt);
      edges_new = record {
        once = subst AllDiffer (sym c.new-edges_in.ensures) tt;
        absent = λ e r d there own led. Contains-nil e (subst (λ l. Contains l e) c.new-edges_in.ensures d);
      };
    })
