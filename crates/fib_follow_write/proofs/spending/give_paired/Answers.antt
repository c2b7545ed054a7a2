use Rattle.std.proofs.Common.{ℕ, List, ◌+◌, drop, map, sym, ap, subst}
use Rattle.std.specs.Prelude.{flat_map}
use Rattle.std.proofs.lemmas.List.{drop_all}
use Rattle.fib_base_list.proofs.Lists.{Contains-flat_map}
use Rattle.fib_resolve_changes.proofs.SamePairs.{map_in}
use Rattle.fib_resolve.specs.declared.types.Path.{Path}
use Rattle.fib_follow_write.specs.declared.plan.Paired.{Paired}
use Rattle.fib_follow_write.specs.Written.{paired_prefix}
use Rattle.fib_follow_write.specs.Written.{AreKept, GivesPairs, IsSpent, pairs_at}
use Rattle.fib_follow_write.specs.inner.Spent.{IsLeft}
use Rattle.fib_follow_write.proofs.Chunks.{chunk_given, chunk_kept, chunk_some}
use Rattle.fib_follow_write.proofs.Listing.{spent_end, spent_start}
use Rattle.fib_follow_write.proofs.Upon.{drop_next, there_next}
use Rattle.fib_follow_write.proofs.spending.give_paired.Goals as goal

pub rows-init : goal.rows-init
rows-init c = λ g s. spent_start g c.args.lists.now (flat_map (pairs_at c.args.rows.now) (map paired_prefix c.args.paired.now)) s

pub give_row-requires-clause-kept : goal.give_row-requires-clause-kept
give_row-requires-clause-kept c =
    let q = c.index-paired-place.result in
    let g = c.requires.counted in
    subst (λ (z : Paired). AreKept c.rows.lists (pairs_at c.args.rows.now z.prefix)) c.index-paired-place.is
    (chunk_kept g.0 c.args.lists.now c.rows.lists (pairs_at c.args.rows.now q.prefix)
    (flat_map (pairs_at c.args.rows.now) (map paired_prefix (drop (c.rows.place + 1) c.args.paired.now)))
    (subst (λ l. IsLeft g.0 c.args.lists.now c.rows.lists (flat_map (pairs_at c.args.rows.now) (map paired_prefix l)))
    (drop_next c.args.paired.now c.rows.place q c.rows-test.true c.index-paired-place.is) (c.rows.invariant g.0 g.1))
    (λ x d. c.requires.kept x (Contains-flat_map (pairs_at c.args.rows.now) (map paired_prefix c.args.paired.now) q.prefix x
    (map_in paired_prefix c.args.paired.now q (there_next c.args.paired.now c.rows.place q c.rows-test.true c.index-paired-place.is)) d)))

pub give_row-requires-clause-counted : goal.give_row-requires-clause-counted
give_row-requires-clause-counted c =
    let q = c.index-paired-place.result in
    let g = c.requires.counted in
    subst (λ (z : Paired). (f : List Path → ℕ) × IsSpent f c.rows.lists (pairs_at c.args.rows.now z.prefix)) c.index-paired-place.is
    (chunk_some g.0 c.args.lists.now c.rows.lists (pairs_at c.args.rows.now q.prefix)
    (flat_map (pairs_at c.args.rows.now) (map paired_prefix (drop (c.rows.place + 1) c.args.paired.now)))
    (subst (λ l. IsLeft g.0 c.args.lists.now c.rows.lists (flat_map (pairs_at c.args.rows.now) (map paired_prefix l)))
    (drop_next c.args.paired.now c.rows.place q c.rows-test.true c.index-paired-place.is) (c.rows.invariant g.0 g.1))
    (λ x d. c.requires.kept x (Contains-flat_map (pairs_at c.args.rows.now) (map paired_prefix c.args.paired.now) q.prefix x
    (map_in paired_prefix c.args.paired.now q (there_next c.args.paired.now c.rows.place q c.rows-test.true c.index-paired-place.is)) d)))

pub rows-preserved : goal.rows-preserved
rows-preserved c = λ g s.
    (let q = c.index-paired-place.result in
    chunk_given g c.args.lists.now c.rows.lists (pairs_at c.args.rows.now q.prefix)
    (flat_map (pairs_at c.args.rows.now) (map paired_prefix (drop (c.rows.place + 1) c.args.paired.now)))
    (subst (λ l. IsLeft g c.args.lists.now c.rows.lists (flat_map (pairs_at c.args.rows.now) (map paired_prefix l)))
    (drop_next c.args.paired.now c.rows.place q c.rows-test.true c.index-paired-place.is) (c.rows.invariant g s))
    (λ x d. c.requires.kept x (Contains-flat_map (pairs_at c.args.rows.now) (map paired_prefix c.args.paired.now) q.prefix x
    (map_in paired_prefix c.args.paired.now q
    (there_next c.args.paired.now c.rows.place q c.rows-test.true c.index-paired-place.is)) d)) c.give_row.new.lists
    (subst (λ (z : Paired). (f : List Path → ℕ) → IsSpent f c.rows.lists (pairs_at c.args.rows.now z.prefix) → GivesPairs f c.rows.lists c.give_row.new.lists)
    (sym c.index-paired-place.is) c.give_row.ensures))

pub returns : goal.returns
returns c = λ g s. spent_end g c.args.lists.now c.rows.lists (flat_map (pairs_at c.args.rows.now) (map paired_prefix (drop c.rows.place c.args.paired.now)))
    (ap (λ l. flat_map (pairs_at c.args.rows.now) (map paired_prefix l)) (drop_all c.rows.place c.args.paired.now c.rows-test.false)) (c.rows.invariant g s)
