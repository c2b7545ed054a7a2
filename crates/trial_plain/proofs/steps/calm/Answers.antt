use Rattle.std.proofs.Common.{◌∙◌}
use Rattle.trial_plain.proofs.Seating.{kept_then}
use Rattle.trial_plain.proofs.steps.calm.Goals as goal

pub returns-clause-seats : goal.returns-clause-seats
returns-clause-seats c = c.settle-settled.ensures.seats ∙ c.retry-deferred.ensures.seats ∙ c.scan-retired.ensures.seats

pub returns-clause-kept : goal.returns-clause-kept
returns-clause-kept c = kept_then _ _ _ (kept_then _ _ _ c.scan-retired.ensures.kept c.retry-deferred.ensures.kept) c.settle-settled.ensures.kept

pub returns-clause-calm : goal.returns-clause-calm
returns-clause-calm c = λ home none.
    let scanned = c.scan-retired.ensures.alone home in
    let retried = c.retry-deferred.ensures.calm (c.scan-retired.ensures.kept.queue ∙ none) scanned.1 in
    (record { retired = scanned.0; deferred = retried.0; settled = c.settle-settled.ensures.settles retried.1 }, c.settle-settled.ensures.quiet retried.1)
