use Rattle.std.proofs.Common.{◌+◌, drop, ap, subst}
use Rattle.std.specs.Prelude.{flat_map}
use Rattle.std.proofs.lemmas.List.{drop_all}
use Rattle.fib_base_list.proofs.Lists.{Contains-flat_map}
use Rattle.fib_follow_write.specs.Written.{pairs_at}
use Rattle.fib_follow_write.specs.inner.Spent.{IsLeft}
use Rattle.fib_follow_write.proofs.Chunks.{chunk_given, chunk_kept, chunk_some}
use Rattle.fib_follow_write.proofs.Listing.{spent_end, spent_start}
use Rattle.fib_follow_write.proofs.Upon.{drop_next, there_next}
use Rattle.fib_follow_write.proofs.spending.give_rows.Goals as goal

pub rows-init : goal.rows-init
rows-init c = λ g s. spent_start g c.args.lists.now (flat_map (pairs_at c.args.rows.now) c.args.prefixes.now) s

pub give_row-requires-clause-kept : goal.give_row-requires-clause-kept
give_row-requires-clause-kept c =
    let q = c.index-prefixes-place.result in
    let g = c.requires.counted in
    chunk_kept g.0 c.args.lists.now c.rows.lists (pairs_at c.args.rows.now q)
    (flat_map (pairs_at c.args.rows.now) (drop (c.rows.place + 1) c.args.prefixes.now))
    (subst (λ l. IsLeft g.0 c.args.lists.now c.rows.lists (flat_map (pairs_at c.args.rows.now) l))
    (drop_next c.args.prefixes.now c.rows.place q c.rows-test.true c.index-prefixes-place.is) (c.rows.invariant g.0 g.1))
    (λ x d. c.requires.kept x (Contains-flat_map (pairs_at c.args.rows.now) c.args.prefixes.now q x
    (there_next c.args.prefixes.now c.rows.place q c.rows-test.true c.index-prefixes-place.is) d))

pub give_row-requires-clause-counted : goal.give_row-requires-clause-counted
give_row-requires-clause-counted c =
    let q = c.index-prefixes-place.result in
    let g = c.requires.counted in
    chunk_some g.0 c.args.lists.now c.rows.lists (pairs_at c.args.rows.now q)
    (flat_map (pairs_at c.args.rows.now) (drop (c.rows.place + 1) c.args.prefixes.now))
    (subst (λ l. IsLeft g.0 c.args.lists.now c.rows.lists (flat_map (pairs_at c.args.rows.now) l))
    (drop_next c.args.prefixes.now c.rows.place q c.rows-test.true c.index-prefixes-place.is) (c.rows.invariant g.0 g.1))
    (λ x d. c.requires.kept x (Contains-flat_map (pairs_at c.args.rows.now) c.args.prefixes.now q x
    (there_next c.args.prefixes.now c.rows.place q c.rows-test.true c.index-prefixes-place.is) d))

pub rows-preserved : goal.rows-preserved
rows-preserved c = λ g s.
    (let q = c.index-prefixes-place.result in
    chunk_given g c.args.lists.now c.rows.lists (pairs_at c.args.rows.now q) (flat_map (pairs_at c.args.rows.now) (drop
    (c.rows.place + 1) c.args.prefixes.now))
    (subst (λ l. IsLeft g c.args.lists.now c.rows.lists (flat_map (pairs_at c.args.rows.now) l))
    (drop_next c.args.prefixes.now c.rows.place q c.rows-test.true c.index-prefixes-place.is) (c.rows.invariant g s))
    (λ x d. c.requires.kept x (Contains-flat_map (pairs_at c.args.rows.now) c.args.prefixes.now q x
    (there_next c.args.prefixes.now c.rows.place q c.rows-test.true c.index-prefixes-place.is) d)) c.give_row.new.lists c.give_row.ensures)

pub returns : goal.returns
returns c = λ g s. spent_end g c.args.lists.now c.rows.lists (flat_map (pairs_at c.args.rows.now) (drop c.rows.place c.args.prefixes.now))
    (ap (λ l. flat_map (pairs_at c.args.rows.now) l) (drop_all c.rows.place c.args.prefixes.now c.rows-test.false)) (c.rows.invariant g s)
