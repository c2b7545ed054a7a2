use Rattle.std.proofs.Common.{arith, true, ◌<◌, ◌∙◌, ℕ, List, length, sym, ap, subst}
use Rattle.std.specs.List.{AllByRecursion}
use Rattle.std.proofs.lemmas.Bool.{false≢true}
use Rattle.std.proofs.lemmas.List.{length-set}
use Rattle.fib_resolve.specs.Pairs.{entries}
use Rattle.fib_resolve_pairs.specs.inner.Edges.{has_edge}
use Rattle.fib_resolve_pairs.proofs.Cycles.{starts_inside, start_more}
use Rattle.fib_resolve_pairs.proofs.loops.starts.Goals as goal

pub loop-edge-init : goal.loop-edge-init
loop-edge-init c =
    let S = c.args.known.now in
    let all = c.into_iter-edge-iterator.ensures.into_iter_gives ∙ c.iter-edge-items.ensures.rest in
    record {
      many = omega (arith, c.in_ok-starts.ensures.len, ap length c.entries.ensures.entries);
      inside = subst (AllByRecursion (λ d. d.0 < length (entries S))) (sym all) (starts_inside S c.args.on_cycles.now.keys c.requires);
      are = λ d is none. absurd (false≢true (sym none ∙ (ap (λ (es : List (ℕ × ℕ)). has_edge es d) all ∙ is)));
    }

pub index_mut-requires : goal.index_mut-requires
index_mut-requires c =
    let r = subst (AllByRecursion (λ d. d.0 < length (entries c.args.known.now))) c.in-Some.ensures.steps c.loop-edge.invariant.inside in
    omega (arith, r.0, c.loop-edge.invariant.many)

pub loop-edge-preserved : goal.loop-edge-preserved
loop-edge-preserved c =
    let r = subst (AllByRecursion (λ d. d.0 < length (entries c.args.known.now))) c.in-Some.ensures.steps c.loop-edge.invariant.inside in
    record {
      many = length-set c.loop-edge.starts.items c.in-Some.edge.now.0 true ∙ c.loop-edge.invariant.many;
      inside = r.1;
      are = start_more c.args.on_cycles.now.keys c.loop-edge.edge-iterator c.next.new.self c.in-Some.edge.now c.loop-edge.starts.items c.in-Some.ensures.steps (omega (arith, r.0, c.loop-edge.invariant.many)) c.loop-edge.invariant.are;
    }

pub returns : goal.returns
returns c = λ d is. c.loop-edge.invariant.are d is (ap (λ (es : List (ℕ × ℕ)). has_edge es d) c.in-None.ensures.steps.0)
