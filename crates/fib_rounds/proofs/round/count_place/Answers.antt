use Rattle.std.proofs.Common.{◌+◌, sym, ◌∙◌, ap, subst, length}
use Rattle.fib_worker_crew.specs.Results.{results_of}
use Rattle.fib_rounds_homing.specs.Places.{results_at}
use Rattle.fib_rounds.specs.Counts.{IsSmall}
use Rattle.fib_rounds.specs.Summaries.{with_ends}
use Rattle.fib_rounds.proofs.Counting.{with_no_ends}
use Rattle.fib_rounds.proofs.round.count_place.Goals as goal

pub returns-in-Some-clause-small : goal.returns-in-Some-clause-small
returns-in-Some-clause-small c = λ n h.
    subst (λ s. IsSmall (n + length (results_at s)) c.count_ends.new.counts) (sym c.in-Some.is) (subst (λ xs. IsSmall (n + length (results_of xs)) c.count_ends.new.counts) c.list.ensures (c.count_ends.ensures.small n h))

pub returns-in_default-clause-counts : goal.returns-in_default-clause-counts
returns-in_default-clause-counts c = sym (ap (λ s. with_ends c.args.counts.now (results_at s)) c.in_default.is ∙ with_no_ends c.args.counts.now)
