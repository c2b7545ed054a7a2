use Rattle.std.proofs.Common.{filter, subst, sym, ◌∙◌}
use Rattle.std.proofs.lemmas.Bool.{false≢true}
use Rattle.fib_cover.specs.Covers.{IsLongestMatch}
use Rattle.fib_follow_looked.specs.inner.Turning.{is_beside}
use Rattle.fib_follow_looked.proofs.Above.{passed_over, stays_best, stays_none}
use Rattle.fib_follow_looked.proofs.shorts.+longest_beside.Goals as goal

pub returns-then-contains : goal.returns-then-contains
returns-then-contains t c =
    passed_over c.args.order.now c.args.others.now c.args.limit c.args.addr c.in-Some.q
    (subst (IsLongestMatch c.args.order.now c.args.limit c.args.addr) c.in-Some.is c.longest.ensures)
    (c.contains.ensures.0 c.if-contains.true) c.longest_beside.result
    (subst (λ n. IsLongestMatch (filter (is_beside c.args.others.now) c.args.order.now) n c.args.addr c.longest_beside.result) c.len.ensures.value
    c.longest_beside.ensures)

pub returns-else-contains : goal.returns-else-contains
returns-else-contains t c =
    stays_best c.args.order.now c.args.others.now c.args.limit c.args.addr c.in-Some.q
    (subst (IsLongestMatch c.args.order.now c.args.limit c.args.addr) c.in-Some.is c.longest.ensures)
    (λ k. false≢true (sym c.if-contains.false ∙ c.contains.ensures.1 k))

pub returns-in-None : goal.returns-in-None
returns-in-None t c =
    stays_none c.args.order.now c.args.others.now c.args.limit c.args.addr
    (subst (IsLongestMatch c.args.order.now c.args.limit c.args.addr) c.in-None.is c.longest.ensures)
