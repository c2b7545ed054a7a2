use Rattle.std.proofs.Common.{◌<◌, length}
use Rattle.std.specs.Prelude.{All}
use Rattle.test_workers.specs.Homes.{IsOf}
use Rattle.test_live.specs.declared.beside.Job.{Job}
use Rattle.test_live.proofs.beside.take_home.Given as goal

abbrev pub invariant-loop-place : goal.invariant-loop-place
invariant-loop-place l = record {
  of : All (λ (j : Job). IsOf l.control.plane.board.id j.worker) l.jobs;
  long : 3 < length l.jobs;
}
