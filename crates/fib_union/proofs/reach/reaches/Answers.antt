use Rattle.std.proofs.Common.{◌≡◌, ◌+◌, ℕ, List, map, sym, subst, refl, ◌∙◌}
use Rattle.std.proofs.lemmas.Bool.{false≢true}
use Rattle.fib_reach.proofs.Searched.{Searched, searched_none}
use Rattle.fib_union.specs.inner.Fields.{Runs, CellRuns, IsGrown, plain}
use Rattle.fib_union.proofs.Noting.{found_cells, found_copies, searched_step}
use Rattle.fib_union.proofs.reach.reaches.Goals as goal

pub returns-then-note_cells-clause-walk : goal.returns-then-note_cells-clause-walk
returns-then-note_cells-clause-walk c =
    let n = c.in-Some.ensures.next in
    (λ t. found_cells c.args.edges.now (map plain c.args.retired.now) c.args.from c.args.to c.loop-node.search.seen c.loop-node.search.done c.in-Some.node c.loop-node.invariant.searched n.here n.node_is c.if-note_cells.ensures.found, λ r. refl)

pub returns-then-note_copies-clause-walk : goal.returns-then-note_copies-clause-walk
returns-then-note_copies-clause-walk c =
    let n = c.in-Some.ensures.next in
    (λ t. found_copies c.args.edges.now (map plain c.args.retired.now) c.args.from c.args.to c.loop-node.search.seen c.loop-node.search.done c.in-Some.node c.loop-node.invariant.searched n.here n.node_is c.if-note_copies.ensures.found, λ r. refl)

pub loop-node-preserved : goal.loop-node-preserved
loop-node-preserved c =
    let n = c.in-Some.ensures.next in
    let cs = map plain c.args.retired.now in
    let x = c.in-Some.node in
    let g : IsGrown (CellRuns c.args.edges.now x) c.loop-node.search.seen c.note_cells.new.search.seen = subst (λ (l : List ℕ). IsGrown (CellRuns c.args.edges.now x) l c.note_cells.new.search.seen) c.in-Some.ensures.seen c.note_cells.ensures.grown in
    let step = searched_step c.args.edges.now cs c.args.from c.args.to c.loop-node.search.seen c.loop-node.search.done x c.loop-node.invariant.searched n.here n.node_is c.note_cells.new.search.seen c.note_copies.new.search.seen g c.if-note_cells.ensures.missed c.note_copies.ensures.grown c.if-note_copies.ensures.missed in
    let done : c.note_copies.new.search.done ≡ c.loop-node.search.done + 1 = c.note_copies.ensures.done ∙ (c.note_cells.ensures.done ∙ n.done) in
    record {
      nodes = c.note_copies.ensures.nodes ∙ (c.note_cells.ensures.nodes ∙ (c.in-Some.ensures.nodes ∙ c.loop-node.invariant.nodes));
      searched = subst (λ (k : ℕ). Searched (Runs c.args.edges.now cs) c.args.from c.args.to c.note_copies.new.search.seen k) (sym done) step;
    }

pub returns-clause-walk : goal.returns-clause-walk
returns-clause-walk c = (λ t. absurd (false≢true t), λ r. absurd (searched_none (Runs c.args.edges.now (map plain c.args.retired.now)) c.args.from c.args.to c.loop-node.search.seen c.loop-node.search.done c.in_default.ensures.none.0 c.loop-node.invariant.searched r))
