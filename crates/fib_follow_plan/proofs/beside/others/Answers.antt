use Rattle.std.proofs.Common.{◌++◌, ap₂, ◌∙◌}
use Rattle.fib_follow_plan.proofs.Othering.{are_others}
use Rattle.fib_follow_plan.proofs.beside.others.Goals as goal

pub returns : goal.returns
returns c = λ k S T h noted d.
    are_others k S T c.args.features.now h noted c.args.changes.now d c.args.changed.now c.extend_from_slice.new.self.items
    (c.in_ok-extend_from_slice.ensures.items ∙ ap₂ (λ xs ys. xs ++ ys) c.in_ok-out.ensures (c.as_slice.ensures.value ∙ c.in_ok-ends.ensures))
