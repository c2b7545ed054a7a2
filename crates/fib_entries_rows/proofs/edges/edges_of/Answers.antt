use Rattle.std.proofs.Common.{arith, ◌≡◌, length, subst}
use Rattle.fib_addr.specs.Prefixes.{Prefix}
use Rattle.fib_entries_rows.specs.inner.Edges.{AreEdgesOf}
use Rattle.fib_entries_rows.proofs.Looking.{at_place}
use Rattle.fib_entries_rows.proofs.Edging.{more_edges_of}
use Rattle.fib_entries_rows.proofs.edges.edges_of.Goals as goal

pub loop-from-preserved : goal.loop-from-preserved
loop-from-preserved c =
    let e = at_place (λ (q : Prefix). q) c.args.order.now c.loop-from.from c.loop-from-test.true in
    more_edges_of c.args.meaning.now c.args.order.now c.loop-from.from e.0 c.loop-from.out.items c.add_paths.new.out.items c.loop-from.invariant e.1 (c.in_ok-add_paths.ensures e.0 e.1)

pub returns : goal.returns
returns c =
    let done : c.loop-from.from ≡ length c.args.order.now = (let a = c.loop-from-test.false in let b = c.loop-from.auto.from-end in omega (arith, a, b)) in
    subst (λ n. AreEdgesOf c.args.meaning.now c.args.order.now n c.loop-from.out.items) done c.loop-from.invariant
