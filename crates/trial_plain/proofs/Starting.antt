-- A fresh plain board.
use Rattle.std.proofs.Common.{arith, ◌≡◌, ℕ, refl, sym, subst}
use Rattle.fib_core_board.specs.Boards.{Board, IsFresh}
use Rattle.fib_core_board.specs.Told.{IsWithinLimits}
use Rattle.fib_core_plainboard.specs.Passes.{fresh_plain}

pub is_fresh : (n : ℕ) (b : Board) → IsWithinLimits n 1 → b ≡ fresh_plain n 1 → IsFresh b
is_fresh n b limits is = subst IsFresh (sym is) (record { some = (let l = limits.least in omega (arith, l)); few = omega arith; fresh = refl })
