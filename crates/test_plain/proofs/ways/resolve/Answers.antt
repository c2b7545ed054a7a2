use Rattle.std.proofs.Common.{◌+◌, ◌-◌, ◌∙◌, ap, subst, length}
use Rattle.fib_addr.specs.Prefixes.{Prefix}
use Rattle.fib_resolve.specs.Pairs.{entries}
use Rattle.fib_resolve.specs.Resolution.{follow}
use Rattle.test_plain.specs.inner.Steps.{Steps}
use Rattle.test_plain.specs.declared.ways.NextStep.{NextStep}
use Rattle.test_plain.proofs.Following.{resolve_start, resolve_stop, resolve_end, resolve_on}
use Rattle.test_plain.proofs.ways.resolve.Goals as goal

pub loop-n-init : goal.loop-n-init
loop-n-init c =
    let S = c.args.view.now in
    let m = length c.entries.result.now in
    ap (λ (e : Prefix). (follow S (m + 1 - 0) e c.args.hash).end) c.best-e.ensures ∙ resolve_start S c.args.addr c.args.hash m (ap length (c.entries.ensures.entries ∙ ap entries c.known.ensures))

pub loop-n-preserved : goal.loop-n-preserved
loop-n-preserved c =
    let S = c.args.view.now in
    resolve_on S c.loop-n.e c.in-GoesOn.next c.loop-n.left c.loop-n._n _ _ c.loop-n-test.true c.loop-n.invariant (subst (λ (o : NextStep). Steps S c.loop-n.e c.loop-n.left o) c.in-GoesOn.is c.in_ok-end.ensures)

pub returns-in-Ends : goal.returns-in-Ends
returns-in-Ends c =
    let S = c.args.view.now in
    resolve_end S c.loop-n.e c.loop-n.left c.loop-n._n _ c.in-Ends.end _ c.loop-n-test.true c.loop-n.invariant (subst (λ (o : NextStep). Steps S c.loop-n.e c.loop-n.left o) c.in-Ends.is c.in_ok-end.ensures)

pub returns : goal.returns
returns c = resolve_stop c.args.view.now c.loop-n.e c.loop-n.left c.loop-n._n _ _ c.loop-n-test.false c.loop-n.invariant
