use Rattle.std.proofs.Common.{◌≡◌, ◌≤◌, ◌++◌, length}
use Rattle.fib_base_lines.specs.Lines.{lines_of}
use Rattle.fib_commands.proofs.script.read_lines.Given as goal

abbrev pub decreases-lines : goal.decreases-lines
decreases-lines l = length l.rest

abbrev pub invariant-lines : goal.invariant-lines
invariant-lines l = record {
  whole : l.held ++ lines_of l.rest ≡ lines_of l.bytes;
  few : length l.held ≤ 65535;
}
