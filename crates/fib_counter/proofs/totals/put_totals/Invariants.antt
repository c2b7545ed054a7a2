use Rattle.std.proofs.Common.{◌≡◌, ◌+◌, ◌++◌, ℕ}
use Rattle.fib_core_lawful.specs.Claims.{times}
use Rattle.fib_counter.specs.CountOutput.{all_totals, totals_text}
use Rattle.fib_counter.proofs.totals.put_totals.Given as goal

-- the lines of the words that are left give the same
abbrev pub invariant-loop-word : goal.invariant-loop-word
invariant-loop-word l = record {
  text : (more : ℕ) → l.word + more ≡ 770 → l.out.items ++ totals_text l.tables (λ w. times w l.fn.keeper.tally) l.word more ≡ l.fn.out.items ++ all_totals l.tables (λ w. times w l.fn.keeper.tally);
  same : l.keeper ≡ l.fn.keeper;
}
