use Rattle.std.proofs.Common.{◌≡◌, ℕ, ◌+◌, ◌<◌, ◌≤◌, refl, sym, subst, arith}
use Rattle.fib_core.specs.Walk.{after, end_at, root}
use Rattle.fib_core.specs.Stages.{StandsAt}
use Rattle.fib_control.proofs.Lookups.{after_one, all_objects, readable, walk_by, walk_early}
use Rattle.fib_control.proofs.looking.look_up.Goals as goal

pub overflow_add-steps-2 : goal.overflow_add-steps-2
overflow_add-steps-2 g c =
    let all = all_objects c.args.plane.now.plane c.tells.ensures.told c.used.result c.free.result c.used.ensures c.free.ensures in
    let most = c.tells.ensures.told.board.limits.most in
    omega (arith, all, most)

pub step-stage-requires : goal.step-stage-requires
step-stage-requires g c = readable c.args.plane.now.plane c.tells.ensures.told c.args.addr c.args.hash c.loop-hop._hop c.loop-hop.stage c.loop-hop.invariant

pub loop-hop-init : goal.loop-hop-init
loop-hop-init g c = c.first-stage.ensures c.args.hash

pub returns-in-Ended : goal.returns-in-Ended
returns-in-Ended g c =
    let at : StandsAt c.args.hash (after c.args.plane.now.plane.board.union.cells c.args.addr c.args.hash c.loop-hop._hop root) c.loop-hop.stage = c.loop-hop.invariant in
    let all = all_objects c.args.plane.now.plane c.tells.ensures.told c.used.result c.free.result c.used.ensures c.free.ensures in
    let lt = c.loop-hop-test.true in
    walk_early c.args.plane.now.plane c.tells.ensures.told c.args.addr c.args.hash c.loop-hop._hop c.in-Ended.end (omega (arith, all, lt)) (subst (StandsAt c.args.hash (after c.args.plane.now.plane.board.union.cells c.args.addr c.args.hash c.loop-hop._hop root)) c.in-Ended.is at)

pub loop-hop-preserved : goal.loop-hop-preserved
loop-hop-preserved g c =
    let n = c.loop-hop._hop in
    let cells = c.args.plane.now.plane.board.union.cells in
    subst (λ p. StandsAt c.args.hash p c.step-stage.result) (sym (after_one cells c.args.addr c.args.hash n root))
    (c.step-stage.ensures (after cells c.args.addr c.args.hash n root) c.loop-hop.invariant)

pub returns : goal.returns
returns g c =
    let cells = c.args.plane.now.plane.board.union.cells in
    let all = all_objects c.args.plane.now.plane c.tells.ensures.told c.used.result c.free.result c.used.ensures c.free.ensures in
    let most = c.loop-hop.auto._hop-end in
    let past = c.loop-hop-test.false in
    let last : c.loop-hop._hop ≡ c.args.plane.now.plane.board.objects + 1 = omega (arith, all, most, past) in
    walk_by c.args.plane.now.plane c.tells.ensures.told c.args.addr c.args.hash c.end_of.result
    (subst (λ k. c.end_of.result ≡ end_at (after cells c.args.addr c.args.hash k root)) last
    (c.end_of.ensures c.args.hash (after cells c.args.addr c.args.hash c.loop-hop._hop root) c.loop-hop.invariant))
