use Rattle.std.proofs.Common.{arith, refl, subst, sym, ap, ◌∙◌}
use Rattle.fib_core_board.specs.Boards.{Board, IsFresh}
use Rattle.test_workers.proofs.plainboard.filled_board.Goals as goal

pub fill-requires-clause-fresh : goal.fill-requires-clause-fresh
fill-requires-clause-fresh c = subst IsFresh (sym c.in_ok-board.ensures) (record { some = omega arith; few = omega arith; fresh = refl })

pub fill-requires-clause-objects : goal.fill-requires-clause-objects
fill-requires-clause-objects c = ap (λ (b : Board). b.objects) c.in_ok-board.ensures

pub fill-requires-clause-workers : goal.fill-requires-clause-workers
fill-requires-clause-workers c = ap (λ (b : Board). b.workers) c.in_ok-board.ensures

pub returns-clause-passes : goal.returns-clause-passes
returns-clause-passes c = ap (λ (b : Board). b.passes) c.fill.ensures.rest ∙ ap (λ (b : Board). b.passes) c.in_ok-board.ensures

pub returns-clause-rests : goal.returns-clause-rests
returns-clause-rests c = ap (λ (b : Board). b.rests) c.fill.ensures.rest ∙ ap (λ (b : Board). b.rests) c.in_ok-board.ensures
