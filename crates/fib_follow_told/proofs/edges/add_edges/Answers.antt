use Rattle.std.proofs.Common.{arith, length, refl}
use Rattle.std.proofs.lemmas.Option.{slice_get_read}
use Rattle.fib_entries_rows.proofs.Loopings.{flat_step, flat_whole}
use Rattle.fib_follow_told.specs.inner.Gathered.{edge_beside}
use Rattle.fib_follow_told.proofs.edges.add_edges.Goals as goal

pub targets-preserved : goal.targets-preserved
targets-preserved c =
    let targets = c.args.targets.now in
    flat_step (edge_beside c.args.e c.args.others.now) targets c.targets.place c.index-targets-place.result c.args.out.now c.targets.out
    c.add_edge.new.out
    (slice_get_read targets (length targets) c.targets.place c.index-targets-place.result refl c.targets-test.true c.index-targets-place.is)
    c.targets.invariant c.in_ok-add_edge.ensures

pub returns : goal.returns
returns c = let over = c.targets-test.false in
    flat_whole (edge_beside c.args.e c.args.others.now) c.args.targets.now c.targets.place c.args.out.now c.targets.out (omega (arith, over))
    c.targets.invariant
