use Rattle.std.proofs.Common.{ℕ, List, ◌<◌, ◌∙◌, subst}
use Rattle.std.proofs.lemmas.Result.{IfOk-weaker}
use Rattle.fib_entries_rows.specs.inner.Edges.{IsTurned, AreSourcesIn}
use Rattle.fib_entries_rows.proofs.Grouping.{sources_once, edges_once, edge_laws}
use Rattle.fib_entries_rows.proofs.groups.backward.Goals as goal

pub turned-requires : goal.turned-requires
turned-requires c =
    edges_once (λ d. (d.0 < c.args.nodes) × (d.1 < c.args.nodes)) c.args.edges.now c.as_slice.result.now edge_laws (c.as_slice.ensures.value ∙ c.in_ok-once.ensures) c.requires

pub returns : goal.returns
returns c =
    let edges = c.args.edges.now in
    IfOk-weaker c.turned.result (λ g. IsTurned c.args.nodes c.as_slice.result.now g) (λ g. AreSourcesIn c.args.nodes edges g)
    (λ g h. sources_once c.args.nodes edges g edge_laws (subst (λ (l : List (ℕ × ℕ)). IsTurned c.args.nodes l g) (c.as_slice.ensures.value ∙ c.in_ok-once.ensures) h)) c.turned.ensures
