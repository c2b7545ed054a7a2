use Rattle.std.proofs.Common.{arith, ◌∙◌}
use Rattle.std.proofs.lemmas.List.Elements.{Contains-get_or}
use Rattle.fib_reach.proofs.Steps.{grows_more, passed_more, passed_all}
use Rattle.fib_reach.proofs.reach.note_all.Goals as goal

pub note-requires : goal.note-requires
note-requires c =
    let here = Contains-get_or c.args.targets.now c.loop-target.target-index 0 c.loop-target-test.true in
    omega (arith, c.requires _ here, c.loop-target.invariant.nodes)

pub loop-target-preserved : goal.loop-target-preserved
loop-target-preserved c =
    let here = Contains-get_or c.args.targets.now c.loop-target.target-index 0 c.loop-target-test.true in
    record {
      nodes = c.note.ensures.nodes ∙ c.loop-target.invariant.nodes;
      done = c.note.ensures.done ∙ c.loop-target.invariant.done;
      grown = grows_more c.args.search.now.seen c.args.targets.now c.loop-target.search.seen c.note.new.self.seen _ c.loop-target.invariant.grown here c.note.ensures.grown;
      passed = passed_more c.args.targets.now c.loop-target.search.seen c.note.new.self.seen c.args.to c.loop-target.target-index c.loop-target.invariant.passed c.note.ensures.grown c.if-target-to.false c.note.ensures.has;
    }

pub returns-clause-missed : goal.returns-clause-missed
returns-clause-missed c = passed_all c.args.targets.now c.loop-target.search.seen c.args.to c.loop-target.target-index c.loop-target-test.false c.loop-target.invariant.passed
