use Rattle.std.proofs.Common.{arith, ◌∙◌, sym, ap}
use Rattle.fib_resolve.specs.Pairs.{entries}
use Rattle.fib_resolve_pairs.proofs.Numbers.{number_known}
use Rattle.fib_resolve_pairs.proofs.known.Known.of.Goals as goal

pub invariant_of-result : goal.invariant_of-result
invariant_of-result c =
    let S = c.in_ok-covers.covers in
    let are = c.in_ok-entries.ensures ∙ ap entries (sym c.in_ok-covers.ensures) in
    record {
      pairs_are = c.in_ok-pairs-2.ensures ∙ c.in_ok-pairs.ensures;
      entries_are = are;
      few = omega (arith, c.if-len.false, c.len.ensures);
      numbers_are = λ p. c.in_ok-numbers.ensures p ∙ number_known S p c.as_slice.result.now (c.as_slice.ensures.value ∙ are);
    }
