use Rattle.std.proofs.Common.{arith, [], ◌<◌, refl, sym, subst, take}
use Rattle.std.proofs.lemmas.Option.{slice_get_read}
use Rattle.fib_follow_looked.specs.inner.Adding.{AddsEach}
use Rattle.fib_follow_looked.proofs.Growth.{adds_none, adds_step, adds_whole}
use Rattle.fib_follow_plan.specs.inner.Telling.{has_so}
use Rattle.fib_follow_plan.proofs.covers.those.Goals as goal

pub changed-init : goal.changed-init
changed-init c = subst (AddsEach (has_so c.args.is) (take 0 c.args.changed.now) []) (sym c.new-set.ensures)
    (adds_none (has_so c.args.is) c.args.changed.now [])

pub changed-preserved : goal.changed-preserved
changed-preserved c =
    let xs = c.args.changed.now in
    let inside = subst (λ n. c.changed.place < n) c.len-place-end.ensures c.changed-test.true in
    adds_step (has_so c.args.is) xs c.changed.place c.index.result.now [] c.changed.set c.add_so.new.set
    (slice_get_read xs _ c.changed.place c.index.result.now refl inside c.index.ensures) c.changed.invariant c.in_ok-add_so.ensures

pub returns-clause-each : goal.returns-clause-each
returns-clause-each c =
    let over = c.changed-test.false in
    let n = c.len-place-end.ensures in
    adds_whole (has_so c.args.is) c.args.changed.now c.changed.place [] c.changed.set (omega (arith, over, n)) c.changed.invariant
