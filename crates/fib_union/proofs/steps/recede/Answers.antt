use Rattle.std.proofs.Common.{arith, ◌≤◌, sym, subst}
use Rattle.fib_union.specs.declared.retired.Progress.{Progress}
use Rattle.fib_union.specs.inner.Fields.{receded}
use Rattle.fib_union.proofs.Marks.{changed_all}
use Rattle.fib_union.proofs.steps.recede.Goals as goal

pub overflow_sub-worker-in-loop-worker : goal.overflow_sub-worker-in-loop-worker
overflow_sub-worker-in-loop-worker c =
    let d : Progress = record { passed = 0; met = 0; word = 0 } in
    let e = c.loop-worker.invariant.rest c.loop-worker.worker-index d (omega arith) in
    let r = c.requires c.loop-worker.worker-index d c.loop-worker-test.true in
    subst (λ (p : Progress). c.args.gone ≤ p.met) (sym e) (omega (arith, r.0, r.1))

pub returns : goal.returns
returns c = changed_all (receded c.args.gone) c.args.progress.now c.loop-worker.worker-items c.loop-worker.worker-index c.loop-worker.auto.worker-items c.loop-worker-test.false c.loop-worker.invariant.done
