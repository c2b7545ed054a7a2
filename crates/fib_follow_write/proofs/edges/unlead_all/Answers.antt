use Rattle.std.proofs.Common.{arith, ◌+◌, take, sym, subst}
use Rattle.std.proofs.lemmas.List.{take_all}
use Rattle.fib_cover.specs.Covers.{IsAscending}
use Rattle.fib_follow_write.specs.Written.{AreUnled}
use Rattle.fib_follow_write.proofs.Going.{edges_more, edges_stay, unled_names}
use Rattle.fib_follow_write.proofs.Upon.{take_next}
use Rattle.fib_follow_write.proofs.edges.unlead_all.Goals as goal

pub edges-init : goal.edges-init
edges-init c = edges_stay c.args.rows.now

pub unlead-requires : goal.unlead-requires
unlead-requires c = subst IsAscending (sym (unled_names _ c.args.rows.now c.edges.rows c.edges.invariant)) c.requires

pub edges-preserved : goal.edges-preserved
edges-preserved c =
    let x = c.index-edges-place.result in
    edges_more (take c.edges.place c.args.edges.now) (take (c.edges.place + 1) c.args.edges.now) x c.args.rows.now c.edges.rows c.unlead.new.rows
    (take_next c.args.edges.now c.edges.place x c.edges-test.true c.index-edges-place.is) c.edges.invariant c.unlead.ensures

pub returns : goal.returns
returns c = let over = c.edges-test.false
    in subst (λ l. AreUnled l c.args.rows.now c.edges.rows) (take_all c.edges.place c.args.edges.now (omega (arith, over))) c.edges.invariant
