use Rattle.std.proofs.Common.{◌≡◌}
use Rattle.trial_live.specs.Crewed.{SameCrew}
use Rattle.trial_live.proofs.held.held_for.Given as goal

abbrev pub invariant-loop-count : goal.invariant-loop-count
invariant-loop-count l = record {
  same : l.pass.seat.id ≡ l.fn.worker.id;
  crew : SameCrew l.fn.control.plane.board l.control.plane.board;
}
