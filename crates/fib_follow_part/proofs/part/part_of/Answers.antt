use Rattle.std.proofs.Common.{arith, ◌≡◌, ℕ, List, length, ap, subst, sym}
use Rattle.fib_addr.specs.Prefixes.{Prefix}
use Rattle.fib_loops.specs.Loops.{AreEdges}
use Rattle.fib_entries_rows.proofs.Loopings.{among_join}
use Rattle.fib_follow_view.specs.inner.Told.{next_in}
use Rattle.fib_follow_part.specs.inner.Searched.{IsOrdered}
use Rattle.fib_follow_part.proofs.part.part_of.Goals as goal

order_found : {seen order : List Prefix} {edges es : List (ℕ × ℕ)} {loops : List (Prefix × Prefix)} {left : List (ℕ × ℕ)} {numbers : List ℕ}
    → order ≡ seen → es ≡ edges → IsOrdered order es loops left numbers → IsOrdered seen edges loops left numbers
order_found {seen} {order} {edges} {es} {loops} {left} {numbers} a b h =
    subst (λ s. IsOrdered s edges loops left numbers) a (subst (λ x. IsOrdered order x loops left numbers) b h)

pub order_of-requires-clause-edges : goal.order_of-requires-clause-edges
order_of-requires-clause-edges c =
    let seen = c.args.found.members in
    subst (λ o. AreEdges (length o) c.as_slice-3.result.now) (sym c.as_slice-2.ensures)
    (subst (λ es. AreEdges (length seen) es) (sym c.as_slice-3.ensures.value)
    (among_join (next_in c.args.view.now) seen (length seen) c.in_ok-edges.edges.items c.in_ok-edges.ensures.edges))

pub invariant_of-result : goal.invariant_of-result
invariant_of-result c =
    let o = order_found c.as_slice-2.ensures c.as_slice-3.ensures.value c.in_ok-loops.ensures in
    record {
      few = (let a = ap length c.as_slice.ensures in let b = c.in-Ok.ensures in omega (arith, a, b));
      each = o.each;
      below = o.below;
    }

pub returns-clause-ordered : goal.returns-clause-ordered
returns-clause-ordered c = (c.in_ok-edges.edges.items, c.in_ok-edges.ensures.edges, order_found c.as_slice-2.ensures c.as_slice-3.ensures.value c.in_ok-loops.ensures)
