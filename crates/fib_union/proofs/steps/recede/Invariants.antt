use Rattle.std.proofs.Common.{◌≡◌, ◌≤◌, ◌<◌, ℕ, get_or}
use Rattle.fib_union.specs.inner.Fields.{receded}
use Rattle.fib_union.specs.declared.retired.Progress.{Progress}
use Rattle.fib_union.proofs.steps.recede.Given as goal

abbrev pub invariant-loop-worker : goal.invariant-loop-worker
invariant-loop-worker l = record {
  done : (k : ℕ) (d : Progress) → k < l.worker-index → get_or l.worker-items k d ≡ receded l.gone (get_or l.fn.progress k d);
  rest : (k : ℕ) (d : Progress) → l.worker-index ≤ k → get_or l.worker-items k d ≡ get_or l.fn.progress k d;
}
