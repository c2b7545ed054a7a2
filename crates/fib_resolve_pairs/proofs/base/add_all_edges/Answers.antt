use Rattle.std.proofs.Common.{◌∙◌, ap, sym, take, [], ◌∷◌}
use Rattle.std.specs.Prelude.{List, ◌++◌, flat_map}
use Rattle.fib_resolve.specs.Pairs.{edge_pairs}
use Rattle.fib_resolve.specs.declared.pairs.Pair.{Pair}
use Rattle.fib_resolve.specs.declared.types.Address.{Address}
use Rattle.std.proofs.lemmas.List.{take_more, flat_map_more}
use Rattle.fib_resolve_pairs.proofs.base.add_all_edges.Goals as goal

pub loop-a-preserved : goal.loop-a-preserved
loop-a-preserved c =
    let xs = c.args.addresses.now in
    let out = c.args.out.now.items in
    let i = c.loop-a.a-index in
    let a = c.a-item.result in
    c.in_ok-add_edges.ensures xs c.in_ok-own.ensures
    ∙ (ap (λ (ys : List Pair). ys ++ edge_pairs xs a) c.loop-a.invariant
    ∙ (flat_map_more (edge_pairs xs) out (take i xs) a
    ∙ ap (λ (ys : List Address). out ++ flat_map (edge_pairs xs) ys) (sym (take_more xs i a c.loop-a-test.true ∙ ap (λ (b : Address). take i xs ++ b ∷ []) (sym c.a-item.is)))))
