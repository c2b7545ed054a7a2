use Rattle.std.proofs.Common.{◌∙◌}
use Rattle.fib_entries_rows.specs.Known.{rank_of}
use Rattle.fib_urpf.specs.contracts.urpf.Urpf as urpf
use Rattle.fib_urpf.proofs.Following.{queued_first, ranked_first, stands_first}
use Rattle.fib_urpf.proofs.urpf.Urpf.new.Goals as goal

pub returns-clause-queued : goal.returns-clause-queued
returns-clause-queued c = queued_first c.new-queue.result.members c.reserve.new.self.members c.enqueue.new.queue.members c.new-queue.ensures.members c.reserve.ensures.members c.args.tables.now c.deref.result.now _ (c.deref.ensures.value ∙ c.in_ok-all.ensures) c.requires.stands.entries c.enqueue.ensures.queued

pub returns-clause-stands : goal.returns-clause-stands
returns-clause-stands c =
    let rank = rank_of c.args.entries.now.rows in
    stands_first c.args.tables.now rank (urpf.the_view (record { queue = c.enqueue.new.queue; sets = c.new.result; members = c.new-2.result; done = c.new-3.result; alloc = c.args.alloc })) c.requires.stands.sound c.requires.stands.falls
    (ranked_first c.new-queue.result.members c.reserve.new.self.members c.enqueue.new.queue.members c.new-queue.ensures.members c.reserve.ensures.members rank c.enqueue.ensures.ranks)
    (queued_first c.new-queue.result.members c.reserve.new.self.members c.enqueue.new.queue.members c.new-queue.ensures.members c.reserve.ensures.members c.args.tables.now c.deref.result.now _ (c.deref.ensures.value ∙ c.in_ok-all.ensures) c.requires.stands.entries c.enqueue.ensures.queued)
    c.new.ensures c.new-2.ensures c.new-3.ensures.items
