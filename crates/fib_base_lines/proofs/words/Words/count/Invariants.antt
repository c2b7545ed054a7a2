use Rattle.std.proofs.Common.{◌≡◌, ◌+◌, ◌≤◌, length}
use Rattle.fib_base_lines.specs.LineWords.{words_of}
use Rattle.fib_base_lines.proofs.words.Words.count.Given as goal

abbrev pub invariant-loop-after : goal.invariant-loop-after
invariant-loop-after l = record {
  counted : l.count + length (words_of l.rest) ≡ length (words_of l.initial.rest);
  fits : l.count + length l.rest ≤ length l.initial.rest;
}

abbrev pub decreases-loop-after : goal.decreases-loop-after
decreases-loop-after l = length l.rest
