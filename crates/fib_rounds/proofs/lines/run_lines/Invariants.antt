use Rattle.std.proofs.Common.{◌≡◌, ◌-◌, ◌≤◌, length}
use Rattle.fib_rounds_turns.specs.Routers.{KeepsCrew, applied_in}
use Rattle.fib_rounds.specs.Stages.{IsHistory}
use Rattle.fib_rounds.specs.Rounds.{GoesOn, stage_of}
use Rattle.fib_rounds.proofs.lines.run_lines.Given as goal

abbrev pub invariant-lines : goal.invariant-lines
invariant-lines g l = record {
  on : GoesOn l.script l.fn.from (stage_of l.fn.control l.fn.progress) l.fn.text.items l.place (stage_of l.control l.progress) l.text.items;
  later : l.fn.from ≤ l.place;
  inside : l.place ≤ length l.script;
  lines : l.progress.lines ≡ l.place;
  few : applied_in l.control ≤ l.place;
  history : IsHistory (stage_of l.fn.control l.fn.progress) → IsHistory (stage_of l.control l.progress);
  keeps : KeepsCrew l.fn.control l.control;
}

abbrev pub decreases-lines : goal.decreases-lines
decreases-lines g l = length l.script - l.place
