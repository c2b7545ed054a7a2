use Rattle.std.proofs.Common.{◌∙◌}
use Rattle.fib_union.proofs.Noting.{cells_more, noted_more}
use Rattle.fib_union.proofs.reach.note_cells.Goals as goal

pub loop-slot-preserved : goal.loop-slot-preserved
loop-slot-preserved c = record {
  nodes = c.note_edge.ensures.nodes ∙ c.loop-slot.invariant.nodes;
  done = c.note_edge.ensures.done ∙ c.loop-slot.invariant.done;
  grown = cells_more c.args.edges.now c.args.node c.args.to c.args.search.now.seen c.loop-slot.search.seen c.note_edge.new.search.seen c.loop-slot.slot c.loop-slot-test.true c.loop-slot.invariant.grown c.note_edge.ensures.grown;
  noted = noted_more c.args.edges.now c.args.node c.args.to c.loop-slot.search.seen c.note_edge.new.search.seen c.loop-slot.slot c.note_edge.ensures.grown c.loop-slot.invariant.noted c.if-note_edge.ensures.missed;
}

pub returns-then-note_edge-clause-grown : goal.returns-then-note_edge-clause-grown
returns-then-note_edge-clause-grown c = cells_more c.args.edges.now c.args.node c.args.to c.args.search.now.seen c.loop-slot.search.seen c.note_edge.new.search.seen c.loop-slot.slot c.loop-slot-test.true c.loop-slot.invariant.grown c.note_edge.ensures.grown
