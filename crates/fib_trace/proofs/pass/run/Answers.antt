use Rattle.std.proofs.Common.{arith, ◌∙◌}
use Rattle.fib_worker.proofs.Runs.{comes_to, few_hops, fewer, hop_keeps, on_unless, trail_trans}
use Rattle.fib_trace.proofs.Telling.{way_on}
use Rattle.fib_trace.proofs.pass.run.Goals as goal

pub hop-stage-requires-clause-room : goal.hop-stage-requires-clause-room
hop-stage-requires-clause-room c =
    let few = few_hops _ _ _ _ _ _ c.loop-stage.invariant.way in
    let all = c.loop-stage.invariant.known.objects in
    let same = c.loop-stage.invariant.same in
    omega (arith, c.requires.room)

pub returns-in-Ended-clause-end : goal.returns-in-Ended-clause-end
returns-in-Ended-clause-end c =
    let hop = c.hop-stage.ensures in
    (_, comes_to _ _ _ _ _ c.hop-stage.result _ _ c.loop-stage.invariant.way hop.hopped hop.at hop.sound hop.nears _ c.in-Ended.is)

pub loop-stage-smaller : goal.loop-stage-smaller
loop-stage-smaller c =
    let hop = c.hop-stage.ensures in
    fewer _ _ _ _ _ c.hop-stage.result _ _ c.loop-stage.invariant.way hop.hopped hop.at hop.sound hop.nears (on_unless c.hop-stage.result c.in_default.not-Ended)

pub loop-stage-preserved : goal.loop-stage-preserved
loop-stage-preserved c =
    let inv = c.loop-stage.invariant in
    let hop = c.hop-stage.ensures in
    let on = on_unless c.hop-stage.result c.in_default.not-Ended in
    record {
      id = hop.words ∙ inv.id;
      known = trail_trans _ _ _ inv.known (hop_keeps _ _ _ _ _ inv.way.running hop.hopped);
      way = way_on _ _ _ _ _ c.hop-stage.result _ _ _ inv.way hop.hopped hop.at hop.sound hop.nears on (hop.one on);
      told = hop.told.loads inv.told;
      same = hop.told.objects ∙ inv.same;
    }
