use Rattle.std.proofs.Common.{◌≡◌, ap, sym, ◌∙◌, ◌++◌, ◌∷◌, [], List, ℕ, ◌<◌, length, subst}
use Rattle.fib_reach.specs.Graphs.{next_of}
use Rattle.fib_reach.proofs.Graphs.{graph-with_edge}
use Rattle.fib_reach.proofs.Places.{any_default}
use Rattle.fib_reach.proofs.graph.Graph.add.Goals as goal

pub invariant_of-self-2 : goal.invariant_of-self-2
invariant_of-self-2 c =
    let rows : List (List ℕ) = c.self.inside.rows.items in
    let here : c.args.from < length rows = subst (λ (g : List (List ℕ)). c.args.from < length g) (sym c.self.view_is) c.requires.from_in in
    let there : c.args.to < length rows = subst (λ (g : List (List ℕ)). c.args.to < length g) (sym c.self.view_is) c.requires.to_in in
    let row : c.push.new.self ≡ next_of rows c.args.from ++ c.args.to ∷ [] =
    c.in_ok-push.ensures.ok ∙ ap (λ (l : List ℕ). l ++ c.args.to ∷ []) (c.index_mut-row.ensures.value ∙ any_default rows c.args.from c.index_mut-row.result.now [] here) in
    rw row (graph-with_edge rows c.args.from c.args.to here c.self.inside.search.nodes there c.self.invariant)
