use Rattle.std.proofs.Common.{◌∙◌}
use Rattle.fib_worker.proofs.Runs.{hop_keeps, on_unless, rest_falls, running_on, trail_trans}
use Rattle.fib_worker.proofs.walk.walk.Goals as goal

pub loop-stage-smaller : goal.loop-stage-smaller
loop-stage-smaller c =
    rest_falls _ _ _ _ c.loop-stage.stage c.hop_on-stage.result c.loop-stage.invariant.2 (on_unless c.loop-stage.stage c.in_default.not-Ended) c.hop_on-stage.ensures.hopped
    c.hop_on-stage.ensures.sound c.hop_on-stage.ensures.nears

pub loop-stage-preserved : goal.loop-stage-preserved
loop-stage-preserved c = (
  c.hop_on-stage.ensures.words ∙ c.loop-stage.invariant.0,
  trail_trans _ _ _ c.loop-stage.invariant.1
      (hop_keeps _ _ _ _ c.loop-stage.stage (running_on _ _ _ _ c.loop-stage.invariant.2 (on_unless c.loop-stage.stage c.in_default.not-Ended)) c.hop_on-stage.ensures.hopped),
  record { follows = c.hop_on-stage.ensures.hopped.follows; at = c.hop_on-stage.ensures.at; sound = c.hop_on-stage.ensures.sound },
)
