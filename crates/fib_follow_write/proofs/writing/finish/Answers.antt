use Rattle.std.proofs.Common.{ℕ, List, map, sym, ap, ◌∙◌, subst}
use Rattle.std.specs.Prelude.{flat_map}
use Rattle.fib_cover.specs.Covers.{IsAscending}
use Rattle.fib_resolve.specs.declared.types.Path.{Path}
use Rattle.fib_entries_rows.specs.Known.{prefix_of}
use Rattle.fib_follow_write.specs.Steps.{AreTaken}
use Rattle.fib_follow_write.specs.Written.{AreKept, AreUnled, GivesPairs, HaveGone, HaveLeft, IsSpent, changed, marked, paired_prefix, pairs_at}
use Rattle.fib_follow_write.specs.inner.Stepped.{HasGone}
use Rattle.fib_follow_write.proofs.Going.{unled_names}
use Rattle.fib_follow_write.proofs.Joining.{all_given, first_kept, first_spent, marked_names, next_ordered, ready_ordered, second_kept, second_spent, written}
use Rattle.fib_follow_write.proofs.Upon.{mapped_ordered}
use Rattle.fib_follow_write.proofs.writing.finish.Goals as goal

pub give_paired-requires-clause-ordered : goal.give_paired-requires-clause-ordered
give_paired-requires-clause-ordered c = let q = c.requires
    in ready_ordered c.args.plan c.args.entries.items q.old c.args.rows.now q.before c.args.lists.now q.members c.args.order.now q.suits q.ready q.used

pub give_paired-requires-clause-kept : goal.give_paired-requires-clause-kept
give_paired-requires-clause-kept c = let q = c.requires in
    subst (λ l. AreKept c.args.lists.now (flat_map (pairs_at c.args.rows.now) (map paired_prefix l))) (sym c.as_slice.ensures)
    (first_kept c.args.plan c.args.entries.items q.old c.args.rows.now q.before c.args.lists.now q.members c.args.order.now q.suits q.ready q.used)

pub give_paired-requires-clause-counted : goal.give_paired-requires-clause-counted
give_paired-requires-clause-counted c = let q = c.requires in
    subst (λ l. (g : List Path → ℕ) × IsSpent g c.args.lists.now (flat_map (pairs_at c.args.rows.now) (map paired_prefix l))) (sym c.as_slice.ensures)
    (first_spent c.args.plan c.args.entries.items q.old c.args.rows.now q.before c.args.lists.now q.members c.args.order.now q.suits q.ready q.used)

pub give_rows-requires-clause-ordered : goal.give_rows-requires-clause-ordered
give_rows-requires-clause-ordered c = let q = c.requires
    in ready_ordered c.args.plan c.args.entries.items q.old c.args.rows.now q.before c.args.lists.now q.members c.args.order.now q.suits q.ready q.used

pub give_rows-requires-clause-kept : goal.give_rows-requires-clause-kept
give_rows-requires-clause-kept c = let q = c.requires in
    subst (λ l. AreKept c.give_paired.new.lists (flat_map (pairs_at c.args.rows.now) l)) (sym c.as_slice-2.ensures)
    (second_kept c.args.plan c.args.entries.items q.old c.args.rows.now q.before c.args.lists.now q.members c.args.order.now q.suits q.ready q.used
    c.give_paired.new.lists
    (subst (λ l. (g : List Path → ℕ) → IsSpent g c.args.lists.now (flat_map (pairs_at c.args.rows.now) (map paired_prefix l))
    → GivesPairs g c.args.lists.now c.give_paired.new.lists)
    c.as_slice.ensures c.give_paired.ensures))

pub give_rows-requires-clause-counted : goal.give_rows-requires-clause-counted
give_rows-requires-clause-counted c = let q = c.requires in
    subst (λ l. (g : List Path → ℕ) × IsSpent g c.give_paired.new.lists (flat_map (pairs_at c.args.rows.now) l)) (sym c.as_slice-2.ensures)
    (second_spent c.args.plan c.args.entries.items q.old c.args.rows.now q.before c.args.lists.now q.members c.args.order.now q.suits q.ready q.used
    c.give_paired.new.lists
    (subst (λ l. (g : List Path → ℕ) → IsSpent g c.args.lists.now (flat_map (pairs_at c.args.rows.now) (map paired_prefix l))
    → GivesPairs g c.args.lists.now c.give_paired.new.lists)
    c.as_slice.ensures c.give_paired.ensures))

pub pair_all-requires : goal.pair_all-requires
pair_all-requires c = let q = c.requires
    in ready_ordered c.args.plan c.args.entries.items q.old c.args.rows.now q.before c.args.lists.now q.members c.args.order.now q.suits q.ready q.used

pub mark_all-requires : goal.mark_all-requires
mark_all-requires c = let q = c.requires
    in subst (λ l. IsAscending (map prefix_of l)) (sym c.pair_all.ensures)
    (next_ordered c.args.plan c.args.entries.items q.old c.args.rows.now q.before c.args.lists.now q.members c.args.order.now q.suits q.ready q.used)

pub unlead_all-requires : goal.unlead_all-requires
unlead_all-requires c = let q = c.requires in
    subst (λ l. IsAscending (map prefix_of l)) (sym c.mark_all.ensures)
    (mapped_ordered (changed marked c.into_vec.result.items) (marked_names c.into_vec.result.items) c.pair_all.new.rows
    (subst (λ l. IsAscending (map prefix_of l)) (sym c.pair_all.ensures)
    (next_ordered c.args.plan c.args.entries.items q.old c.args.rows.now q.before c.args.lists.now q.members c.args.order.now q.suits q.ready q.used)))

pub go_all-requires : goal.go_all-requires
go_all-requires c = let q = c.requires in
    subst IsAscending (sym (unled_names c.as_slice-3.result.now c.mark_all.new.rows c.unlead_all.new.rows c.unlead_all.ensures))
    (subst (λ l. IsAscending (map prefix_of l)) (sym c.mark_all.ensures)
    (mapped_ordered (changed marked c.into_vec.result.items) (marked_names c.into_vec.result.items) c.pair_all.new.rows
    (subst (λ l. IsAscending (map prefix_of l)) (sym c.pair_all.ensures)
    (next_ordered c.args.plan c.args.entries.items q.old c.args.rows.now q.before c.args.lists.now q.members c.args.order.now q.suits q.ready q.used))))

pub returns : goal.returns
returns c = λ old before members suits ready used.
    written c.args.plan c.args.entries.items old c.args.rows.now before c.args.lists.now members c.args.order.now suits ready used c.give_paired.new.lists
    (subst (λ l. (g : List Path → ℕ) → IsSpent g c.args.lists.now (flat_map (pairs_at c.args.rows.now) (map paired_prefix l))
    → GivesPairs g c.args.lists.now c.give_paired.new.lists) c.as_slice.ensures c.give_paired.ensures) c.give_rows.new.lists
    (all_given c.args.plan c.args.entries.items old c.args.rows.now before c.args.lists.now members c.args.order.now suits ready used c.give_paired.new.lists
    (subst (λ l. (g : List Path → ℕ) → IsSpent g c.args.lists.now (flat_map (pairs_at c.args.rows.now) (map paired_prefix l))
    → GivesPairs g c.args.lists.now c.give_paired.new.lists) c.as_slice.ensures c.give_paired.ensures) c.give_rows.new.lists
    (subst (λ l. (g : List Path → ℕ) → IsSpent g c.give_paired.new.lists (flat_map (pairs_at c.args.rows.now) l)
    → GivesPairs g c.give_paired.new.lists c.give_rows.new.lists) c.as_slice-2.ensures c.give_rows.ensures))
    c.mark_all.new.rows c.unlead_all.new.rows c.go_all.new.rows c.leave_all.new.order
    (c.mark_all.ensures ∙ (ap (λ l. map (changed marked l) c.pair_all.new.rows) c.into_vec.ensures ∙ ap (map
    (changed marked c.args.plan.marks)) c.pair_all.ensures))
    (subst (λ l. AreUnled l c.mark_all.new.rows c.unlead_all.new.rows) c.as_slice-3.ensures c.unlead_all.ensures)
    (subst (λ l. AreTaken HasGone l c.unlead_all.new.rows c.go_all.new.rows) c.as_slice-4.ensures c.go_all.ensures.steps)
    (subst (λ l. HaveGone l c.unlead_all.new.rows c.go_all.new.rows) c.as_slice-4.ensures c.go_all.ensures.gone)
    (subst (λ l. HaveLeft l c.args.order.now c.leave_all.new.order) c.as_slice-5.ensures c.leave_all.ensures)
    (subst IsAscending (sym used.same) used.ordered)
