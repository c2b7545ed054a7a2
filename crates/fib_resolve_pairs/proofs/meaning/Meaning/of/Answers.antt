use Rattle.std.proofs.Common.{sym, subst, List, ◌↔◌}
use Rattle.std.specs.Prelude.{Contains}
use Rattle.fib_addr.specs.Prefixes.{Prefix}
use Rattle.fib_resolve_pairs.specs.inner.Meanings.{AreMacs}
use Rattle.fib_resolve_pairs.proofs.meaning.Meaning.of.Goals as goal

pub invariant_of-result : goal.invariant_of-result
invariant_of-result c =
    let is = sym c.in_ok-known.ensures in
    record {
      order_is = λ p. subst (λ (es : List Prefix). Contains c.in_ok-order.order p ↔ Contains es p) c.entries.ensures.entries (c.in_ok-order.ensures p);
      ordered = c.len-count.ensures.ordered;
      macs_are = subst (λ T. AreMacs T.neighbors c.in_ok-macs.macs) is c.in_ok-macs.ensures;
      loops_are = c.in_ok-on_cycles.ensures;
      starts_are = c.in_ok-starts.ensures;
    }
