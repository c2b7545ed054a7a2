use Rattle.std.proofs.Common.{◌++◌, ◌∷◌, [], List, None, sym, ap, ◌∙◌, subst}
use Rattle.std.specs.Prelude.{if◌then◌else◌}
use Rattle.fib_addr.specs.Prefixes.{same_prefix}
use Rattle.fib_entries_rows.specs.Known.{rank_of}
use Rattle.fib_stack_queue.specs.Queues.{IsLeast, rank_in}
use Rattle.fib_stack_queue.specs.declared.order.Queued.{Queued}
use Rattle.fib_stack_waking.specs.Waking.{AreRanked, are_among, have_ranks}
use Rattle.fib_urpf.specs.Kept.{Kept, state_of}
use Rattle.fib_urpf.specs.Marks.{marks_lead}
use Rattle.fib_urpf.specs.Sets.{kept_in}
use Rattle.fib_urpf.specs.States.{Turned}
use Rattle.fib_urpf.specs.contracts.urpf.Urpf as urpf
use Rattle.fib_urpf.proofs.Turning.{turned, ranked_after}
use Rattle.fib_urpf.proofs.urpf.Urpf.take.Goals as goal

pub returns-clause-turned : goal.returns-clause-turned
returns-clause-turned c = λ S stands ranks.
    let rank = rank_of c.args.entries.now.rows in
    let e = c.args.next.prefix in
    let v = urpf.the_view c.self.inside in
    let w = urpf.the_view (record { queue = c.wake_all.new.queue; sets = c.keep.new.self; members = c.know.new.members; done = c.note.new.done; alloc = c.self.inside.alloc }) in
    let room = c.in_ok-make_room.ensures in
    subst (λ (k : Kept). Turned S rank e (state_of k) (state_of w)) c.self.view_is
    (turned S rank v w c.args.next c.gathered-set.result c.of.result c.is_same-same.result c.deref.result.now c.remove.new.self.members
    (subst (λ (k : Kept). AreRanked rank k.queue) (sym c.self.view_is) ranks)
    (subst (λ (k : Kept). IsLeast k.queue c.args.next) (sym c.self.view_is) c.requires)
    (c.in_ok-know.ensures.here ∙ c.is_entry.ensures S stands)
    c.in_ok-know.ensures.others
    (λ i few. c.gathered-set.ensures i few ∙ ap (marks_lead i (kept_in v.rows i)) (c.marked.ensures S stands))
    c.of.ensures
    c.keep.ensures.here
    (λ d ne. c.keep.ensures.others d ne ∙ ap (λ f. f d) room.sets)
    c.is_same-same.ensures.same
    c.is_same-same.ensures.other
    (λ d. c.remove.ensures.ranks d ∙ ap (λ (l : List Queued). if same_prefix e d then None else rank_in l d) room.queue)
    c.wake_all.ensures.queued
    (λ d. ap (λ l. are_among l d) c.deref.ensures.value ∙ c.in_ok-woken.ensures.among S d stands)
    (c.note.ensures ∙ ap (λ l. l ++ e ∷ []) room.done))

pub returns-clause-ranked : goal.returns-clause-ranked
returns-clause-ranked c = λ ranks.
    let rank = rank_of c.args.entries.now.rows in
    let e = c.args.next.prefix in
    let v = urpf.the_view c.self.inside in
    ranked_after rank e v.queue c.remove.new.self.members c.wake_all.new.queue.members
    (subst (λ (k : Kept). AreRanked rank k.queue) (sym c.self.view_is) ranks)
    (λ d. c.remove.ensures.ranks d ∙ ap (λ (l : List Queued). if same_prefix e d then None else rank_in l d) c.in_ok-make_room.ensures.queue)
    (c.wake_all.ensures.ranks rank (subst (λ (l : List Queued). have_ranks rank l) (sym c.deref.ensures.value) c.in_ok-woken.ensures.ranks))
