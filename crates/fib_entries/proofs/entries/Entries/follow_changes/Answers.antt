use Rattle.std.proofs.Common.{◌≤◌, Option, subst}
use Rattle.std.specs.Prelude.{IfSome}
use Rattle.std.proofs.lemmas.Result.{IfOk-weaker}
use Rattle.fib_entries.specs.declared.steps.Planned.{Planned}
use Rattle.fib_entries.proofs.entries.Entries.follow_changes.Goals as goal

pub returns-in-Some-clause-followed : goal.returns-in-Some-clause-followed
returns-in-Some-clause-followed c =
    let low = subst (λ (o : Option Planned). IfSome o (λ x. x.objects ≤ c.args.most)) c.in-Some.is c.in_ok-planned.ensures.fits in
    IfOk-weaker c.carry_out.result _ _ (λ f h. h c.args.most low c.requires) c.carry_out.ensures.followed
