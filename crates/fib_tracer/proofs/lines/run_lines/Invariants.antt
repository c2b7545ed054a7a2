use Rattle.std.proofs.Common.{◌≡◌, ◌≤◌, ◌-◌, take}
use Rattle.std.specs.Prelude.{None}
use Rattle.fib_rounds_turns.specs.Routers.{KeepsCrew, applied_in}
use Rattle.fib_rounds.specs.Rounds.{stage_of}
use Rattle.fib_tracer.specs.inner.Going.{HasGone}
use Rattle.fib_tracer.proofs.lines.run_lines.Given as goal

abbrev pub invariant-lines : goal.invariant-lines
invariant-lines g l = record {
  gone : HasGone (take l.to l.task.script.now) l.from (stage_of l.fn.control l.fn.reading.progress) l.fn.reading.text.items l.place (stage_of l.control l.reading.progress) l.reading.text.items;
  inside : l.place ≤ l.to;
  lines : l.reading.progress.lines ≡ l.place;
  few : applied_in l.control ≤ l.place;
  alone : l.reading.progress.batch ≡ None;
  keeps : KeepsCrew l.fn.control l.control;
}

abbrev pub decreases-lines : goal.decreases-lines
decreases-lines g l = l.to - l.place
