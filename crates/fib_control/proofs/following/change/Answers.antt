use Rattle.std.proofs.Common.{ap, ◌≡◌, ◌∙◌, ◌||◌, ◌≤◌, ℕ, None, arith, min, subst, sym, List}
use Rattle.fib_resolve.specs.Refusals.{refused}
use Rattle.fib_resolve.specs.Sizes.{size}
use Rattle.fib_core_promise.specs.Stack.{is_some}
use Rattle.fib_stack_queue.specs.Queues.{rank_in}
use Rattle.fib_stack_queue.specs.declared.order.Queued.{Queued}
use Rattle.fib_stack_waking.specs.Waking.{is_among}
use Rattle.fib_stack_waking.proofs.Woken.{among_touched}
use Rattle.fib_entries.specs.Following.{TellsChange}
use Rattle.fib_control.proofs.Few.{moved_few, touched_few}
use Rattle.fib_control.proofs.Telling.{accepted}
use Rattle.fib_control.proofs.following.change.Goals as goal

pub queue_all-requires : goal.queue_all-requires
queue_all-requires c =
    let S = c.args.config.now.tables in
    let T = c.change_tables.new.config.tables in
    let e = c.in-Ok-change_tables.ensures.followed in
    let least = c.least_of.ensures in
    let small = e.fits in
    let fits : size T ≤ c.args.limits.room = omega (arith, least, small) in
    let t = touched_few S T c.args.limits.room c.in-Ok-change_tables.followed.touched c.requires.fits fits e.touched in
    let m = moved_few c.args.entries.now c.change_tables.new.entries S T c.args.limits.room c.in-Ok-change_tables.followed.moved c.requires.fits fits c.requires.stands e.stands e.moved in
    let room = c.in-Ok.ensures.room in
    record { room = omega (arith, t, m, room) }

pub returns-in-Ok-change_tables-clause-accepted : goal.returns-in-Ok-change_tables-clause-accepted
returns-in-Ok-change_tables-clause-accepted c =
    accepted c.args.config.now.tables c.args.limits c.args.edit.now
    (subst (λ (n : ℕ). refused c.args.config.now.tables n c.args.edit.now ≡ None) c.least_of.ensures c.in-Ok-change_tables.ensures.accepted)

pub returns-in-Ok-change_tables-clause-queued : goal.returns-in-Ok-change_tables-clause-queued
returns-in-Ok-change_tables-clause-queued c = λ d.
    c.queue_all.ensures.queued d
    ∙ ap (λ b. b || is_among c.in-Ok-change_tables.followed.touched d) (ap (λ (q : List Queued). is_some (rank_in q d)) c.reserve.ensures.members)
    ∙ ap (λ b. is_some (rank_in c.args.queue.now.members d) || b)
    (among_touched c.args.config.now.tables c.change_tables.new.config.tables c.in-Ok-change_tables.followed.touched d c.in-Ok-change_tables.ensures.followed.touched)

pub returns-in-Ok-change_tables-clause-ranks : goal.returns-in-Ok-change_tables-clause-ranks
returns-in-Ok-change_tables-clause-ranks c = λ ranked.
    c.queue_all.ensures.ranks c.args.entries.now.rows c.in-Ok-change_tables.ensures.followed.moved
    (λ d r at. ranked d r (ap (λ (q : List Queued). rank_in q d) (sym c.reserve.ensures.members) ∙ at))

pub returns-in-Err-clause-why : goal.returns-in-Err-clause-why
returns-in-Err-clause-why c = c.fault_of.ensures c.args.config.now.tables c.args.edit.now
    (subst (λ (n : ℕ). TellsChange c.args.config.now.tables n c.args.edit.now c.in-Err.error) c.least_of.ensures c.in-Err.ensures.why)
