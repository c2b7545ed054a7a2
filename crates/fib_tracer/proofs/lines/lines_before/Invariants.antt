use Rattle.std.proofs.Common.{◌≡◌, ◌≤◌, ◌-◌, ◌++◌, drop, take, length}
use Rattle.fib_tracer.specs.Lines.{after_trace, before_trace}
use Rattle.fib_tracer.proofs.lines.lines_before.Given as goal

abbrev pub invariant-lines : goal.invariant-lines
invariant-lines l = record {
  before : before_trace l.script ≡ take l.place l.script ++ before_trace (drop l.place l.script);
  after : after_trace l.script ≡ after_trace (drop l.place l.script);
  inside : l.place ≤ length l.script;
}

abbrev pub decreases-lines : goal.decreases-lines
decreases-lines l = length l.script - l.place
