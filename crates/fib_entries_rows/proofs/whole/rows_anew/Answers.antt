use Rattle.std.proofs.Common.{◌<◌, ℕ, List, length, sym, subst}
use Rattle.std.specs.Prelude.{Contains, slice_index}
use Rattle.std.proofs.lemmas.Result.{IfOk-weaker}
use Rattle.fib_loops.specs.Loops.{AreEdges, IsLooped}
use Rattle.fib_entries_rows.specs.inner.Building.{AreRows, AreAnew}
use Rattle.fib_entries_rows.specs.inner.Edges.{AreEdgesOf}
use Rattle.fib_entries_rows.proofs.Anew.{falls_by}
use Rattle.fib_entries_rows.proofs.Edging.{edge_places, places_join}
use Rattle.fib_entries_rows.proofs.KeptEdges.{edges_join, none_looped}
use Rattle.fib_entries_rows.proofs.whole.rows_anew.Goals as goal

pub kept_of-requires : goal.kept_of-requires
kept_of-requires c = record {
  edges = subst (λ (l : List (ℕ × ℕ)). AreEdgesOf c.args.meaning.now c.args.order.now (length c.args.order.now) l) (sym c.as_slice-edges.ensures.value) c.in_ok-edges.ensures;
}

pub ranks-requires-clause-edges : goal.ranks-requires-clause-edges
ranks-requires-clause-edges c =
    let join = edges_join c.args.meaning.now c.args.order.now c.in_ok-kept.kept.items c.in_ok-kept.ensures in
    subst (λ l. AreEdges c.in-Ok.nodes l) (sym c.as_slice.ensures.value) (subst (λ n. AreEdges n c.in_ok-kept.kept.items) (sym c.in-Ok.ensures.1) join)

pub ranks-requires-clause-open : goal.ranks-requires-clause-open
ranks-requires-clause-open c =
    subst (λ (l : List (ℕ × ℕ)). (d : ℕ × ℕ) → Contains l d → IsLooped l d → ⊥) (sym c.as_slice.ensures.value)
    (none_looped c.args.meaning.now c.args.order.now c.in_ok-kept.kept.items c.requires.sound c.in_ok-kept.ensures)

pub backward-requires : goal.backward-requires
backward-requires c =
    let edges = c.in_ok-edges.edges.items in
    let join = places_join c.args.order.now edges (edge_places c.args.meaning.now c.args.order.now (length c.args.order.now) edges c.in_ok-edges.ensures) in
    subst (λ l. AreEdges c.in-Ok.nodes l) (sym c.as_slice-edges.ensures.value) (subst (λ n. AreEdges n edges) (sym c.in-Ok.ensures.1) join)

pub rows_of-requires-clause-edges : goal.rows_of-requires-clause-edges
rows_of-requires-clause-edges c =
    subst (λ (l : List (ℕ × ℕ)). AreEdgesOf c.args.meaning.now c.args.order.now (length c.args.order.now) l) (sym c.as_slice-edges.ensures.value) c.in_ok-edges.ensures

pub returns : goal.returns
returns c =
    let S = c.args.meaning.now in
    let order = c.args.order.now in
    let lists = c.args.lists.now in
    let ranks = c.as_slice-3.result.now in
    let kept = c.in_ok-kept.kept.items in
    let fall : (d : ℕ × ℕ) → Contains kept d → slice_index ranks d.1 < slice_index ranks d.0 = λ d k.
    subst (λ (q : List ℕ). slice_index q d.1 < slice_index q d.0) (sym c.as_slice-3.ensures.value) (c.in_ok-ranks.ensures.1 d (subst (λ (l : List (ℕ × ℕ)). Contains l d) (sym c.as_slice.ensures.value) k)) in
    IfOk-weaker c.rows_of.result (λ v. AreRows lists S order ranks (length order) v.items) (λ v. AreAnew lists S order v.items)
    (λ v h. record { ranks = ranks; made = h; falls = falls_by lists S order ranks kept v.items h c.requires.same c.in_ok-kept.ensures fall }) c.rows_of.ensures
