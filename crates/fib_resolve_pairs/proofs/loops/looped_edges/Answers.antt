use Rattle.std.proofs.Common.{◌∙◌, ap, sym, subst, List, ℕ, ◌<◌, length}
use Rattle.std.specs.Prelude.{IfOk, All}
use Rattle.fib_resolve_pairs.specs.inner.Edges.{edges_of, AreLooped}
use Rattle.fib_resolve_pairs.proofs.Cycles.{edges_inside}
use Rattle.fib_resolve_pairs.proofs.loops.looped_edges.Goals as goal

pub on_cycles-requires : goal.on_cycles-requires
on_cycles-requires c =
    let S = c.args.known.now in
    let nodes = sym (ap length c.entries.ensures.entries) in
    let edges = sym (c.as_slice.ensures.value ∙ c.in_ok-edges.ensures) in
    subst (λ (es : List (ℕ × ℕ)). All (λ d. (d.0 < length c.entries.result.now) × (d.1 < length c.entries.result.now)) es) edges
    (subst (λ (n : ℕ). All (λ d. (d.0 < n) × (d.1 < n)) (edges_of S)) nodes (edges_inside S))

pub returns : goal.returns
returns c = subst (λ (es : List (ℕ × ℕ)). IfOk c.on_cycles.result (λ s. AreLooped es s.keys)) (c.as_slice.ensures.value ∙ c.in_ok-edges.ensures) c.on_cycles.ensures
