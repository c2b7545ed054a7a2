-- A fresh plain board's worker rests, as long as only the board's words changed.
use Rattle.std.proofs.Common.{◌≡◌, ◌<◌, ◌∙◌, ap, arith, refl, sym, subst}
use Rattle.fib_core_board.specs.Boards.{Board, IsFresh}
use Rattle.fib_plane_view.specs.Promise.{Promise}
use Rattle.fib_core_plainboard.specs.Passes.{fresh_plain}
use Rattle.fib_plane.specs.Views.{but_words, promise_of}
use Rattle.test_control.specs.Rested.{IsRested}

fresh_rested : IsRested (but_words (fresh_plain 200 1))
fresh_rested = record { some = omega arith; rests = refl; left = omega arith }

-- words don't matter
with_words : (b : Board) → IsRested (but_words b) → IsRested b
with_words b r = record { some = r.some; rests = r.rests; left = r.left }

pub rested : (a b : Board) → promise_of a ≡ promise_of b → b ≡ fresh_plain 200 1 → IsRested a
rested a b same is = with_words a (subst IsRested (sym (ap (λ (p : Promise). p.rest) same ∙ ap but_words is)) fresh_rested)

pub is_fresh : (b : Board) → b ≡ fresh_plain 200 1 → IsFresh b
is_fresh b is = subst IsFresh (sym is) (record { some = omega arith; few = omega arith; fresh = refl })
