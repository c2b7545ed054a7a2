use Rattle.std.proofs.Common.{◌≡◌, ap, length, subst, sym, ◌∙◌}
use Rattle.std.proofs.lemmas.Result.{IfOk-weaker}
use Rattle.fib_follow_part.specs.inner.Searched.{FallsAlong}
use Rattle.fib_follow_part.proofs.Numbering.{filter_whole}
use Rattle.fib_follow_part.proofs.numbers.numbers.Goals as goal

pub returns-then-left-edges-clause-falls : goal.returns-then-left-edges-clause-falls
returns-then-left-edges-clause-falls c =
    let edges = c.args.edges.now in
    let left = c.args.left.now in
    let is = c.requires.left.1 in
    let same : left ≡ edges = is ∙ filter_whole c.requires.left.0 edges (sym (ap length is) ∙ c.if-left-edges.true) in
    IfOk-weaker c.numbered.result _ (λ v. FallsAlong left v.items)
    (λ v falls. subst (λ l. FallsAlong l v.items) (sym same) (falls edges c.requires.marks)) c.numbered.ensures.falls
