use Rattle.std.proofs.Common.{◌⊎◌, ◌≡◌, ℕ, List, Some, false, refl, sym, ap, ◌∙◌, subst}
use Rattle.std.specs.Prelude.{is_some}
use Rattle.fib_addr.specs.Prefixes.{Prefix}
use Rattle.fib_entries_rows.specs.Changes.{AreTouched}
use Rattle.fib_entries_rows.specs.Known.{rank_of}
use Rattle.fib_stack_queue.specs.Queues.{rank_in}
use Rattle.fib_stack_queue.specs.declared.order.Queued.{Queued}
use Rattle.fib_stack_waking.specs.Waking.{are_among}
use Rattle.fib_urpf.specs.Kept.{Kept, state_of}
use Rattle.fib_urpf.specs.States.{Followed}
use Rattle.fib_urpf.specs.contracts.urpf.Urpf as urpf
use Rattle.fib_urpf.proofs.Following.{followed, stands_followed}
use Rattle.fib_urpf.proofs.Requeued.{ranked_anew}
use Rattle.fib_urpf.proofs.urpf.Urpf.follow.Goals as goal

pub returns-clause-followed : goal.returns-clause-followed
returns-clause-followed c = λ S are.
    let v = urpf.the_view c.self.inside in
    let w = urpf.the_view (record { queue = c.enqueue.new.queue; sets = c.self.inside.sets; members = c.self.inside.members; done = c.clear.new.self; alloc = c.self.inside.alloc }) in
    let touched : AreTouched S c.args.tables.now c.list-touched.result.now = subst (λ (l : List Prefix). AreTouched S c.args.tables.now l) (sym c.list-touched.ensures) are in
    subst (λ (k : Kept). Followed S c.args.tables.now (state_of k) (state_of w)) c.self.view_is
    (followed S c.args.tables.now v w c.rekey.new.queue.members c.list-touched.result.now touched
    (λ d. c.rekey.ensures.queued d ∙ ap (λ l. is_some (rank_in l d)) c.in_ok-reserve.ensures.members)
    c.enqueue.ensures.queued refl refl c.clear.ensures.items)

pub returns-clause-stands : goal.returns-clause-stands
returns-clause-stands c =
    let rank = rank_of c.args.entries.now.rows in
    let w = urpf.the_view (record { queue = c.enqueue.new.queue; sets = c.self.inside.sets; members = c.self.inside.members; done = c.clear.new.self; alloc = c.self.inside.alloc }) in
    let b = c.requires.before in
    let listed = c.deref.result.now in
    let keyed = subst (λ (l : List Queued). (d : Prefix) (r : ℕ) → rank_in c.rekey.new.queue.members d ≡ Some r → (r ≡ rank d) ⊎ ((rank_in l d ≡ Some r) × (are_among listed d ≡ false))) c.in_ok-reserve.ensures.members c.rekey.ensures.ranks in
    stands_followed b.0 c.args.tables.now b.1 rank c.args.self.now w b.2 c.requires.stands.sound c.requires.stands.falls (returns-clause-followed c b.0 b.3)
    (ranked_anew rank c.self.inside.queue.members listed c.rekey.new.queue.members c.enqueue.new.queue.members (c.deref.ensures.value ∙ c.in_ok-queued.ensures) keyed c.enqueue.ensures.ranks)
