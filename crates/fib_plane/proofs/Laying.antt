-- A store into an empty cell: nothing leaves.
use Rattle.std.proofs.Common.{◌≡◌, ◌∙◌, ℕ, Bool, true, false, List, Option, None, refl, ap, slice_index}
use Rattle.fib_union.specs.Unions.{edge_at, left_at_once, left_if, must_retire}
use Rattle.fib_core.specs.declared.word.Word.TheVariants as words
use Rattle.fib_pool.specs.declared.object.Object.{Object}
use Rattle.fib_core_board.specs.Boards.{Board, union_of, word_in}
use Rattle.fib_plane.specs.Planes.{leads_from, uncounted}
use Rattle.fib_plane.proofs.Boarding.{edge_at_word, edge_is, edge_word}

module _ (b : Board) (k : ℕ) (empty : word_in b k ≡ words.Drop) where
  pub leads_nowhere : edge_at (union_of b).edges k ≡ None
  leads_nowhere = edge_at_word b k ∙ edge_is (slice_index b.union.cells k) ∙ ap edge_word empty

  pub none_left : left_at_once (union_of b) k ≡ None
  none_left = ap (left_if (must_retire (union_of b) k)) leads_nowhere ∙ by_bool (must_retire (union_of b) k)
    where
      by_bool : (t : Bool) → left_if t None ≡ None
      by_bool true = refl
      by_bool false = refl

  pub none_less : (ys : List (Option Object)) → uncounted (left_at_once (union_of b) k) ys ≡ ys
  none_less ys = ap (λ (e : Option ℕ). uncounted e ys) none_left
