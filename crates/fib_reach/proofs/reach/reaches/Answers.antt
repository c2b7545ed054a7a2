use Rattle.std.proofs.Common.{arith, ◌≡◌, ◌<◌, ℕ, List, length, get_or, sym, ◌∙◌, subst, refl}
use Rattle.std.specs.Prelude.{Contains}
use Rattle.std.proofs.lemmas.Bool.{false≢true}
use Rattle.fib_reach.specs.Graphs.{Edge}
use Rattle.fib_reach.specs.Seen.{Seen, IsNext}
use Rattle.fib_reach.specs.inner.Visits.{GrowsFrom}
use Rattle.fib_reach.proofs.Places.{any_default}
use Rattle.fib_reach.proofs.Searched.{Searched, searched_none}
use Rattle.fib_reach.proofs.Steps.{row_is, step_found, step_more}
use Rattle.fib_reach.proofs.reach.reaches.Goals as goal

-- the node stands where the search has come
stands : {old new : Seen} {node : ℕ} → IsNext old new node → node ≡ get_or old.seen old.done node
stands {old} {new} {node} n = n.node_is ∙ any_default old.seen old.done 0 node n.here

node_below : {old new : Seen} {node : ℕ} (size : ℕ) → IsNext old new node → old.nodes ≡ size → node < size
node_below {old} {new} {node} size n e = subst (λ (k : ℕ). node < k) e n.node_in

pub note_all-requires : goal.note_all-requires
note_all-requires c =
    let n = c.in-Some.ensures.next in
    let node = node_below (length c.args.rows.now) n c.loop-node.invariant.nodes in
    let row = row_is c.args.rows.now c.in-Some.node c.index-rows-node.result c.as_slice-targets.result.now node c.index-rows-node.is c.as_slice-targets.ensures in
    λ y k. omega (arith, c.requires.closed c.in-Some.node y (subst (λ (l : List ℕ). Contains l y) row k), c.loop-node.invariant.nodes, c.in-Some.ensures.nodes)

pub returns-then-note_all-clause-walk : goal.returns-then-note_all-clause-walk
returns-then-note_all-clause-walk c =
    let n = c.in-Some.ensures.next in
    let node = node_below (length c.args.rows.now) n c.loop-node.invariant.nodes in
    let row = row_is c.args.rows.now c.in-Some.node c.index-rows-node.result c.as_slice-targets.result.now node c.index-rows-node.is c.as_slice-targets.ensures in (
      λ t. step_found c.args.rows.now c.args.from c.args.to c.loop-node.search.seen c.loop-node.search.done c.in-Some.node c.loop-node.invariant.searched n.here (stands n)
          c.as_slice-targets.result.now row c.if-note_all.ensures.found,
      λ r. refl,
    )

pub loop-node-preserved : goal.loop-node-preserved
loop-node-preserved c =
    let n = c.in-Some.ensures.next in
    let node = node_below (length c.args.rows.now) n c.loop-node.invariant.nodes in
    let row = row_is c.args.rows.now c.in-Some.node c.index-rows-node.result c.as_slice-targets.result.now node c.index-rows-node.is c.as_slice-targets.ensures in
    let grown : GrowsFrom c.loop-node.search.seen c.as_slice-targets.result.now c.note_all.new.search.seen =
    subst (λ (l : List ℕ). GrowsFrom l c.as_slice-targets.result.now c.note_all.new.search.seen) c.in-Some.ensures.seen c.if-note_all.ensures.grown in
    let step = step_more c.args.rows.now c.args.from c.args.to c.loop-node.search.seen c.loop-node.search.done c.in-Some.node c.loop-node.invariant.searched n.here (stands n)
    c.as_slice-targets.result.now row c.note_all.new.search.seen grown c.if-note_all.ensures.missed in
    record {
      nodes = c.if-note_all.ensures.nodes ∙ (c.in-Some.ensures.nodes ∙ c.loop-node.invariant.nodes);
      searched = subst (λ (k : ℕ). Searched (Edge c.args.rows.now) c.args.from c.args.to c.note_all.new.search.seen k) (sym (c.if-note_all.ensures.done ∙ n.done)) step;
    }

pub returns-clause-walk : goal.returns-clause-walk
returns-clause-walk c = (
  λ t. absurd (false≢true t),
  λ r. absurd (searched_none (Edge c.args.rows.now) c.args.from c.args.to c.loop-node.search.seen c.loop-node.search.done c.in_default.ensures.none.0 c.loop-node.invariant.searched r),
)
