use Rattle.std.proofs.Common.{arith, ◌<◌, vec_capacity, vec_len}
use Rattle.std.proofs.lemmas.Grind.{common_steps}
use Rattle.fib_reach.proofs.Visits.{seen_fits, visit_push}
use Rattle.fib_reach.proofs.visit.note.Goals as goal

pub unreachable-requires : goal.unreachable-requires
unreachable-requires c =
    let fits = seen_fits c.requires.visit c.args.node c.requires.node c.if-marks-node.false in
    let room : vec_len c.args.seen.now < vec_capacity c.args.seen.now = omega (arith, fits, c.args.seen.now.ok.0) in
    let done = c.push.ensures.succeeds room in
    grind (arith, common_steps, done)

pub returns-clause-visit : goal.returns-clause-visit
returns-clause-visit c =
    let pushed = visit_push c.requires.visit c.args.node c.requires.node c.if-marks-node.false (vec_capacity c.push.new.self) c.push.ensures.capacity in
    rw (c.push.ensures.items, c.if-is_err.ensures.negation) pushed
