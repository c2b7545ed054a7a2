-- Lines that are run one by one.
use Rattle.std.specs.Prelude.{ℕ, ◌≡◌, ◌+◌, ◌++◌, List, drop}
use Rattle.fib_rounds.specs.Stages.{Stage}
use Rattle.fib_tracer.specs.Lines.{stage_from, text_from}

-- between two places of lines: what is left to print at the first is what was said and then what is left at the second, and the end is the same
pub record HasGone (lines : List (List ℕ)) (from : ℕ) (before : Stage) (old : List ℕ) (to : ℕ) (after : Stage) (new : List ℕ) : Type 0 where
  pub said : List ℕ
  pub text : new ≡ old ++ said
  pub rest : text_from (from + 1) before (drop from lines) ≡ said ++ text_from (to + 1) after (drop to lines)
  pub last : stage_from (from + 1) before (drop from lines) ≡ stage_from (to + 1) after (drop to lines)
