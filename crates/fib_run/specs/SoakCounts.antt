-- The counts of a generated run.
use Rattle.std.specs.Prelude.{ℕ, ◌≡◌, ◌+◌, length}
use Rattle.fib_rounds.specs.declared.summary.Summary.{Summary}
use Rattle.fib_rounds.specs.Summaries.{summary_of}
use Rattle.fib_rounds.specs.Closed.{all_ends}
use Rattle.fib_run.specs.Output.{soak_file, soak_capture}

-- 80 of the 2,988 lines ask for 500 packets each, and each other is accepted or refused; half of the rounds have no line, and each of
-- their packets ends in one of five ways
pub record AddUp (n : ℕ) (s : Summary) : Type 0 where
  pub lines : n ≡ 2988
  pub changes : s.accepted + s.refused ≡ 2908
  pub packets : s.packets ≡ 40000
  pub quiet : s.quiet ≡ 20000
  pub ends : all_ends s ≡ 20000

abbrev pub SoakCountsAddUp : Type 0
SoakCountsAddUp = (room seed : ℕ) → AddUp (length (soak_file seed)) (summary_of room (soak_file seed) (soak_capture seed))
