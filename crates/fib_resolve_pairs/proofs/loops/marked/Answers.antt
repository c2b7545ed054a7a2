use Rattle.std.proofs.Common.{arith}
use Rattle.std.proofs.lemmas.Option.{slice_get-get_or}
use Rattle.fib_resolve_pairs.proofs.Cycles.{marked_step, none_marked}
use Rattle.fib_resolve_pairs.proofs.loops.marked.Goals as goal

pub loop-k-preserved : goal.loop-k-preserved
loop-k-preserved c =
    let edges = c.args.edges.now in
    marked_step edges c.args.marks.now.looped c.loop-k.k _ (slice_get-get_or edges c.loop-k.k _ (omega (arith, c.loop-k-test.true, c.requires.edges))) c.loop-k.looped.keys c.add_if.new.looped.keys c.loop-k.invariant
    c.looped.result c.looped.ensures c.in_ok-add_if.ensures

pub loop-k-init : goal.loop-k-init
loop-k-init c = none_marked c.args.edges.now c.args.marks.now.looped c.new-looped.result.keys c.new-looped.ensures.empty
