use Rattle.std.proofs.Common.{◌≡◌, ◌≤◌, ◌+◌, ◌-◌, ◌++◌, length, drop}
use Rattle.std.specs.Prelude.{None}
use Rattle.fib_rounds_turns.specs.Routers.{KeepsCrew, applied_in, router_of}
use Rattle.fib_rounds.specs.Stages.{IsHistory}
use Rattle.fib_rounds.specs.Rounds.{stage_of}
use Rattle.fib_counter.specs.CountOutput.{lines_turn}
use Rattle.fib_counter.proofs.lines.run_script.Given as goal

-- the lines that are left give the same from where they stand
abbrev pub invariant-lines : goal.invariant-lines
invariant-lines g l = record {
  router : (lines_turn (l.place + 1) (router_of l.control l.progress) (drop l.place l.script)).0 ≡ (lines_turn 1 (router_of l.fn.control l.fn.progress) l.script).0;
  text : l.text.items ++ (lines_turn (l.place + 1) (router_of l.control l.progress) (drop l.place l.script)).1
      ≡ l.fn.text.items ++ (lines_turn 1 (router_of l.fn.control l.fn.progress) l.script).1;
  inside : l.place ≤ length l.script;
  lines : l.progress.lines ≡ l.place;
  alone : l.progress.batch ≡ None;
  few : applied_in l.control ≤ l.place;
  history : IsHistory (stage_of l.fn.control l.fn.progress) → IsHistory (stage_of l.control l.progress);
  keeps : KeepsCrew l.fn.control l.control;
}

abbrev pub decreases-lines : goal.decreases-lines
decreases-lines g l = length l.script - l.place
