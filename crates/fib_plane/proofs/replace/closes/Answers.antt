use Rattle.std.proofs.Common.{◌≡◌, ◌∙◌, ℕ, Some, refl, sym, subst}
use Rattle.std.proofs.lemmas.Bool.{false≢true}
use Rattle.fib_base_interned.proofs.Finding.{some_is}
use Rattle.fib_reach.specs.Walks.{Leads}
use Rattle.fib_union.specs.Unions.{Edge}
use Rattle.fib_union.proofs.Stores.{no_second_way}
use Rattle.fib_core_board.specs.Boards.{edge_of}
use Rattle.fib_plane.proofs.replace.closes.Goals as goal

pub returns-then-has_edge-clause-closes : goal.returns-then-has_edge-clause-closes
returns-then-has_edge-clause-closes c =
    let u = c.args.union.now.union in
    let to : edge_of c.args.word ≡ Some c.in-Some.to = sym c.target.ensures ∙ c.in-Some.is in (
      λ t. absurd (false≢true t),
      λ q. absurd (no_second_way u c.args.object c.in-Some.to c.requires.acyclic (c.if-has_edge.ensures.0 refl) (subst (λ (y : ℕ). Leads (Edge u) y c.args.object) (some_is q.0 c.in-Some.to (sym q.1 ∙ to)) q.2)),
    )

pub returns-then-is_ply-clause-closes : goal.returns-then-is_ply-clause-closes
returns-then-is_ply-clause-closes c = (λ t. absurd (false≢true t), λ q. absurd (c.requires.calm (sym c.if-is_ply.ensures) q.0 q.1 q.2))
