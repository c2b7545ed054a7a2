use Rattle.std.proofs.Common.{◌∙◌, ap}
use Rattle.std.specs.Prelude.{filter, map}
use Rattle.fib_resolve.specs.Pairs.{is_short, prefix_of}
use Rattle.fib_resolve_pairs.proofs.Covering.{short_same}
use Rattle.fib_resolve_pairs.proofs.covers.Covers.of.Goals as goal

pub invariant_of-result : goal.invariant_of-result
invariant_of-result c = record {
  sound = c.requires;
  base_are = c.in_ok-base.ensures ∙ c.in_ok-pairs.ensures;
  short_are = short_same c.args.tables.now c.in_ok-pairs.pairs.items c.in_ok-prefixes.prefixes.items c.in_ok-short.short c.in_ok-pairs.ensures (c.in_ok-prefixes.ensures ∙ ap (λ xs. filter is_short (map prefix_of xs)) c.as_slice.ensures.value) (rw c.as_slice-2.ensures.value at c.in_ok-short.ensures);
}
