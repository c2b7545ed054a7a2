use Rattle.std.proofs.Common.{ap, ◌∙◌, ◌||◌, ◌≤◌, arith, subst, sym, List}
use Rattle.fib_resolve.specs.Sizes.{size}
use Rattle.fib_core_promise.specs.Stack.{is_some}
use Rattle.fib_stack_queue.specs.Queues.{rank_in}
use Rattle.fib_stack_queue.specs.declared.order.Queued.{Queued}
use Rattle.fib_stack_waking.specs.Waking.{is_among}
use Rattle.fib_control.proofs.Few.{moved_few, touched_few}
use Rattle.fib_stack_waking.proofs.Woken.{among_touched}
use Rattle.fib_control.proofs.following.follow_all.Goals as goal

pub queue_all-requires : goal.queue_all-requires
queue_all-requires c =
    let before = c.requires.before in
    let e = c.in_ok-followed.ensures in
    let f = e.followed before.0 before.1 before.2 in
    let least = f.fits in
    let fits : size c.args.config.now.tables ≤ c.args.limits.room = omega (arith, least) in
    let t = touched_few before.0 c.args.config.now.tables c.args.limits.room c.in_ok-followed.followed.touched before.3 fits f.touched in
    let m = moved_few c.args.entries.now c.follow.new.entries before.0 c.args.config.now.tables c.args.limits.room c.in_ok-followed.followed.moved before.3 fits before.1 f.stands f.moved in
    let room = e.space in
    record { room = omega (arith, t, m, room) }

pub returns-clause-stands : goal.returns-clause-stands
returns-clause-stands c =
    let before = c.requires.before in
    (c.in_ok-followed.ensures.followed before.0 before.1 before.2).stands

pub returns-clause-fits : goal.returns-clause-fits
returns-clause-fits c =
    let before = c.requires.before in
    let least = (c.in_ok-followed.ensures.followed before.0 before.1 before.2).fits in
    (omega (arith, least), omega (arith, least))

pub returns-clause-queued : goal.returns-clause-queued
returns-clause-queued c = λ S stands differ d.
    let e = c.in_ok-followed.ensures in
    c.queue_all.ensures.queued d
    ∙ ap (λ b. b || is_among c.in_ok-followed.followed.touched d) (ap (λ (q : List Queued). is_some (rank_in q d)) e.queue)
    ∙ ap (λ b. is_some (rank_in c.args.queue.now.members d) || b) (among_touched S c.args.config.now.tables c.in_ok-followed.followed.touched d (e.followed S stands differ).touched)

pub returns-clause-ranks : goal.returns-clause-ranks
returns-clause-ranks c = λ ranked.
    let before = c.requires.before in
    let e = c.in_ok-followed.ensures in
    c.queue_all.ensures.ranks c.args.entries.now.rows (e.followed before.0 before.1 before.2).moved
    (λ d r at. ranked d r (ap (λ (q : List Queued). rank_in q d) (sym e.queue) ∙ at))
