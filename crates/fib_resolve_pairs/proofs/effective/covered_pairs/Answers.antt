use Rattle.std.proofs.Common.{◌≡◌, ◌==◌, ◌++◌, List, ap, ◌∙◌}
use Rattle.std.specs.Prelude.{flat_map}
use Rattle.std.specs.Set.{unique_keys}
use Rattle.fib_resolve.specs.Pairs.{neighbor_pairs, recursive_hops}
use Rattle.fib_resolve.specs.declared.pairs.Pair.{Pair}
use Rattle.fib_resolve.specs.declared.types.Tables.{Tables}
use Rattle.fib_resolve_pairs.proofs.Once.{made_once}
use Rattle.fib_resolve_pairs.proofs.effective.covered_pairs.Goals as goal

pub returns : goal.returns
returns c =
    let S = c.args.covers.now in
    let hops : c.in_ok-hops.hops.items ≡ flat_map recursive_hops S.routes = c.in_ok-hops.ensures ∙ ap (flat_map recursive_hops) (ap (λ (T : Tables). T.routes) c.tables-tables.ensures.tables) in
    let once : c.as_slice-2.result.now ≡ unique_keys (λ a b. a == b) (flat_map recursive_hops S.routes) = c.as_slice-2.ensures.value ∙ (c.in_ok-hops-2.ensures ∙ ap (unique_keys (λ a b. a == b)) (c.as_slice.ensures.value ∙ hops)) in
    let near : c.add_neighbors.new.out.items ≡ flat_map (neighbor_pairs S) S.neighbors = c.in_ok-add_neighbors.ensures ∙ ap (λ (l : List Pair). l ++ flat_map (neighbor_pairs S) S.neighbors) c.new-out.ensures.items in
    made_once S c.add_neighbors.new.out.items c.add_derived.new.out.items c.as_slice-2.result.now near once c.in_ok-add_derived.ensures
