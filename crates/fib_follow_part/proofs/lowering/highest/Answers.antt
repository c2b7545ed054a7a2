use Rattle.std.proofs.Common.{arith, ◌≡◌, ℕ, Some, inl, inr, length, refl, slice_get, sym, ap, ◌∙◌}
use Rattle.std.proofs.lemmas.Bool.{cases_lt}
use Rattle.std.proofs.lemmas.Option.{slice_get_read, slice_get_within}
use Rattle.fib_addr.specs.Prefixes.{Prefix}
use Rattle.fib_base_interned.proofs.Finding.{some_is}
use Rattle.fib_entries_rows.specs.Known.{rank_of}
use Rattle.fib_entries_rows.proofs.PlyOrder.{index_of}
use Rattle.fib_follow_part.proofs.lowering.highest.Goals as goal

pub edges-init : goal.edges-init
edges-init c = λ i d lt at. absurd (omega (arith, lt))

pub edges-preserved : goal.edges-preserved
edges-preserved c = λ i d lt at.
    let edges = c.args.edges.now in
    let x = c.index-edges-place.result in
    let here : slice_get edges c.edges.place ≡ Some x = slice_get_read edges (length edges) c.edges.place x refl c.edges-test.true c.index-edges-place.is in
    elim (cases_lt i c.edges.place) [
      | inl early ↦ (let le = c.edges.invariant i d early at in let more = c.greater-found.ensures.first in omega (arith, le, more))
      | inr late ↦ (let is : c.edges.place ≡ i = omega (arith, lt, late) in
          let own = some_is x d (sym here ∙ (ap (slice_get edges) is ∙ at)) in
          let more = c.greater-found.ensures.second in
          let rank = c.rank_had.ensures in
          let same = ap (λ (z : ℕ × Prefix). rank_of c.args.view.now.before.rows z.1) own in
          let read = ap (λ (z : ℕ × Prefix). rank_of c.args.view.now.before.rows z.1) c.index-edges-place.is in
          omega (arith, more, rank, same, read))
    ]

pub returns : goal.returns
returns c = λ d k.
    let g = index_of c.args.edges.now d k in
    let inside = slice_get_within c.args.edges.now g.0 d g.1 in
    let over = c.edges-test.false in
    c.edges.invariant g.0 d (omega (arith, inside, over)) g.1
