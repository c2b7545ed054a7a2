use Rattle.std.proofs.Common.{◌∙◌}
use Rattle.std.proofs.lemmas.Result.{on_ok_weaker}
use Rattle.fib_follow_part.proofs.Searching.{sees_both, sees_two}
use Rattle.fib_follow_part.proofs.seen.see_both.Goals as goal

pub returns-clause-more : goal.returns-clause-more
returns-clause-more c = on_ok_weaker c.see_each-2.result
    (λ is. sees_two c.as_slice.result.now c.as_slice-2.result.now c.args.seen.now c.see_each.new.seen c.see_each-2.new.seen c.in_ok-see_each.ensures is) c.see_each-2.ensures

pub returns-clause-both : goal.returns-clause-both
returns-clause-both c =
    on_ok_weaker c.see_each-2.result
    (λ is. sees_both c.args.view.now c.args.e c.as_slice.result.now c.as_slice-2.result.now c.args.seen.now c.see_each.new.seen c.see_each-2.new.seen
    (c.as_slice.ensures.value ∙ c.in_ok-after.ensures) (c.as_slice-2.ensures.value ∙ c.in_ok-before.ensures) c.in_ok-see_each.ensures is) c.see_each-2.ensures
