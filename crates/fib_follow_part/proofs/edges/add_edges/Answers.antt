use Rattle.std.proofs.Common.{arith, ◌≡◌, Some, length, refl, slice_get}
use Rattle.std.proofs.lemmas.Option.{slice_get_read}
use Rattle.fib_entries_rows.proofs.Loopings.{edges_step, edges_whole}
use Rattle.fib_follow_part.proofs.Leaving.{outs_step, outs_whole}
use Rattle.fib_follow_part.proofs.edges.add_edges.Goals as goal

pub targets-preserved : goal.targets-preserved
targets-preserved c =
    let targets = c.args.targets.now in
    let t = c.index-targets-place.result in
    let here : slice_get targets c.targets.place ≡ Some t =
    slice_get_read targets (length targets) c.targets.place t refl c.targets-test.true c.index-targets-place.is in (
      edges_step c.args.seen.now c.args.from targets c.targets.place t c.args.edges.now.items c.targets.edges.items c.add_edge.new.edges.items
          here c.targets.invariant.0 c.in_ok-add_edge.ensures.edges,
      outs_step c.args.seen.now c.args.from targets c.targets.place t c.args.out.now.items c.targets.out.items c.add_edge.new.out.items
          here c.targets.invariant.1 c.in_ok-add_edge.ensures.out,
    )

pub returns-clause-edges : goal.returns-clause-edges
returns-clause-edges c = let over = c.targets-test.false
    in edges_whole c.args.seen.now c.args.from c.args.targets.now c.targets.place c.args.edges.now.items c.targets.edges.items
    (omega (arith, over)) c.targets.invariant.0

pub returns-clause-out : goal.returns-clause-out
returns-clause-out c = let over = c.targets-test.false
    in outs_whole c.args.seen.now c.args.from c.args.targets.now c.targets.place c.args.out.now.items c.targets.out.items
    (omega (arith, over)) c.targets.invariant.1
