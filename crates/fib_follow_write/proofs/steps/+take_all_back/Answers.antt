use Rattle.std.proofs.Common.{arith, sym, subst}
use Rattle.fib_follow_write.specs.Steps.{AreTaken}
use Rattle.fib_follow_write.proofs.Halves.{parted, whole}
use Rattle.fib_follow_write.proofs.steps.+take_all_back.Goals as goal

pub take_all_back-requires : goal.take_all_back-requires
take_all_back-requires g t c κs within =
    let makes = g.S.Step.makes in
    let l = c.split_at.result.0.now in
    let r = c.split_at.result.1.now in
    let is = whole _ c.args.steps.now l r c.split_at.ensures.front c.split_at.ensures.back in
    let q = c.requires in
    let p = parted makes l r q.0 c.args.state.now (subst (λ z. AreTaken makes z q.0 c.args.state.now) is q.1) in (
      omega (arith, c.decreases, c.split_at.ensures.front_len, c.split_at.ensures.back_len, c.in_default.len_at_least),
      (within.0, (within.1, (p.0, p.2))),
    )

pub take_all_back-requires-in_default : goal.take_all_back-requires-in_default
take_all_back-requires-in_default g t c κs within =
    let makes = g.S.Step.makes in
    let l = c.split_at.result.0.now in
    let r = c.split_at.result.1.now in
    let is = whole _ c.args.steps.now l r c.split_at.ensures.front c.split_at.ensures.back in
    let q = c.requires in
    let p = parted makes l r q.0 c.args.state.now (subst (λ z. AreTaken makes z q.0 c.args.state.now) is q.1) in (
      omega (arith, c.decreases, c.split_at.ensures.front_len, c.split_at.ensures.back_len, c.in_default.len_at_least),
      (within.0, (within.1, (q.0, subst (AreTaken makes l q.0) (sym (c.take_all_back.ensures p.0 p.2)) p.1))),
    )

pub returns-in_default : goal.returns-in_default
returns-in_default g t c = λ before taken.
    (let makes = g.S.Step.makes in
    let l = c.split_at.result.0.now in
    let r = c.split_at.result.1.now in
    let is = whole _ c.args.steps.now l r c.split_at.ensures.front c.split_at.ensures.back in
    let p = parted makes l r before c.args.state.now (subst (λ z. AreTaken makes z before c.args.state.now) is taken) in
    c.take_all_back-in_default.ensures before (subst (AreTaken makes l before) (sym (c.take_all_back.ensures p.0 p.2)) p.1))
