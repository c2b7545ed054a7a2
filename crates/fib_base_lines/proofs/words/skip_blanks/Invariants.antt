use Rattle.std.proofs.Common.{◌≡◌, drop}
use Rattle.fib_base_lines.specs.LineWords.{words_of}
use Rattle.fib_base_lines.proofs.words.skip_blanks.Given as goal

abbrev pub invariant-loop-i : goal.invariant-loop-i
invariant-loop-i l = words_of (drop l.i l.text) ≡ words_of l.text
