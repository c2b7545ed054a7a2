use Rattle.std.proofs.lemmas.Result.{IfOk-weaker}
use Rattle.fib_follow_looked.specs.Looks.{IsBefore}
use Rattle.fib_entries.proofs.steps.changed_by.Goals as goal

pub returns-clause-after : goal.returns-clause-after
returns-clause-after c =
    let k = c.args.course.now in
    let T = k.after.now.tables in
    let list = k.changes.now in
    IfOk-weaker c.changed.result _ _ (λ x f. λ S h.
    let around = c.in_ok-found.ensures.around S h in
    let b : IsBefore k.before list S T = record { stands = h.stands; differ = h.differ; near = c.in_ok-found.ensures.near } in
    f list S b around.shorts around.hops around.all) c.changed.ensures.after
