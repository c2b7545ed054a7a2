use Rattle.std.proofs.Common.{ℕ, ◌+◌, drop, sym, subst}
use Rattle.std.specs.Prelude.{IsSome}
use Rattle.std.proofs.lemmas.List.{drop_all}
use Rattle.fib_resolve.specs.declared.types.FibSource.{FibSource}
use Rattle.fib_base_interned.specs.Interned.{Gives, kept_of}
use Rattle.fib_follow_write.specs.inner.Spent.{IsLeft}
use Rattle.fib_follow_write.proofs.Listing.{spent_end, spent_kept, spent_more, spent_start}
use Rattle.fib_follow_write.proofs.Upon.{drop_next, there_next}
use Rattle.fib_follow_write.proofs.lists.give_pairs.Goals as goal

pub pairs-init : goal.pairs-init
pairs-init c = λ g s. spent_start g c.args.lists.now c.args.pairs.now s

pub give-requires : goal.give-requires
give-requires c =
    let q = c.index-pairs-place.result in
    let g = c.requires.counted in
    let next = drop_next c.args.pairs.now c.pairs.place q c.pairs-test.true c.index-pairs-place.is in
    let there = there_next c.args.pairs.now c.pairs.place q c.pairs-test.true c.index-pairs-place.is in
    subst (λ (z : FibSource × ℕ). IsSome (kept_of c.pairs.lists z.1)) c.index-pairs-place.is
    (spent_kept g.0 c.args.lists.now c.pairs.lists q (drop (c.pairs.place + 1) c.args.pairs.now)
    (subst (IsLeft g.0 c.args.lists.now c.pairs.lists) next (c.pairs.invariant g.0 g.1)) (c.requires.kept q there))

pub pairs-preserved : goal.pairs-preserved
pairs-preserved c = λ g s.
    (let q = c.index-pairs-place.result in
    let next = drop_next c.args.pairs.now c.pairs.place q c.pairs-test.true c.index-pairs-place.is in
    let there = there_next c.args.pairs.now c.pairs.place q c.pairs-test.true c.index-pairs-place.is in
    spent_more g c.args.lists.now c.pairs.lists q (drop (c.pairs.place + 1) c.args.pairs.now)
    (subst (IsLeft g c.args.lists.now c.pairs.lists) next (c.pairs.invariant g s)) (c.requires.kept q there)
    c.give.new.self (subst (λ (z : FibSource × ℕ). Gives c.pairs.lists c.give.new.self z.1)
    (sym c.index-pairs-place.is) c.give.ensures.given) c.give.ensures.interned)

pub returns : goal.returns
returns c = λ g s. spent_end g c.args.lists.now c.pairs.lists (drop c.pairs.place c.args.pairs.now)
    (drop_all c.pairs.place c.args.pairs.now c.pairs-test.false)
    (c.pairs.invariant g s)
