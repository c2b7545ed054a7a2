use Rattle.std.proofs.Common.{◌≡◌, subst, refl, arith, sym, ap}
use Rattle.std.specs.Prelude.{IfOk}
use Rattle.fib_pool.specs.Objects.{fresh_objects}
use Rattle.fib_core_board.specs.Boards.{Board, IsFresh}
use Rattle.fib_core_plainboard.specs.Passes.{fresh_plain}
use Rattle.fib_plane.specs.Views.{Whole}
use Rattle.test_plane.proofs.plane.plane_over.Goals as goal

pub new-requires-2 : goal.new-requires-2
new-requires-2 c = subst IsFresh (sym c.in_ok-board.ensures) (record { some = let l = c.requires.least in omega (arith, l); few = c.requires.eight; fresh = refl })

pub returns-clause-board : goal.returns-clause-board
returns-clause-board c = subst (λ (b : Board). IfOk c.new-2.result (λ (p : Whole). p.plane.board ≡ b)) c.in_ok-board.ensures c.new-2.ensures.board

pub returns-clause-objects : goal.returns-clause-objects
returns-clause-objects c = subst (λ (b : Board). IfOk c.new-2.result (λ (p : Whole). p.plane.objects ≡ fresh_objects b.objects)) c.in_ok-board.ensures c.new-2.ensures.objects

pub returns-clause-records : goal.returns-clause-records
returns-clause-records c = c.new-2.ensures.records
