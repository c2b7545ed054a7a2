-- Steady traffic and plies on boards: what the rule keeps, in the words of a board.
use Rattle.std.proofs.Common.{inl, inr, ◌≡◌, ◌≢◌, ℕ, Some, None, sym, ap, ◌∙◌, subst, refl, if◌then◌else◌, Bool, true, false}
use Rattle.fib_union.specs.Unions as edges
use Rattle.fib_union.specs.Unions.{owner, into}
use Rattle.fib_core.specs.declared.word.Word.{Word}
use Rattle.fib_core.specs.declared.word.Word.TheVariants as words
use Rattle.fib_core.specs.Words.{IsRoomy, encoded, decoded, goes, target, is_edge, value_of}
use Rattle.fib_core.specs.Union.{edge_in}
use Rattle.fib_core.proofs.Numbers.{decoded_encoded, goes_of, target_of}
use Rattle.fib_core.proofs.Unions.{none_counted, goes_edges}
use Rattle.fib_core.proofs.Edges.{edges_stored, edges_scanned}
use Rattle.fib_core_steady.specs.Rooted.{PliesHang}
use Rattle.fib_core_steady.proofs.Hanging.{none_leaves_aside}
use Rattle.fib_core_lawful.specs.State.{put}
use Rattle.fib_core_rule.specs.Serving.{HoldsPromise as serving_of}
use Rattle.fib_core_rule.specs.Steady.{MayStoreSteadily}
use Rattle.fib_core_rule.proofs.Serving as serving
use Rattle.fib_core_board.specs.Boards.{Board, as_control, edge_of, union_of, board_stored, board_scanned, HasNoPly}
use Rattle.fib_core_board.specs.May.{IsReached, MayClear, MayEmpty, HoldsPromise}

-- a board's store and look are those of its union between objects
pub union_stored : (b : Board) (k : ℕ) (w : Word) → union_of (board_stored b k w) ≡ edges.stored b.workers (union_of b) k (edge_of w)
union_stored b k w = edges_stored b.workers b.union k (encoded w)

pub union_scanned : (b : Board) (n found : ℕ) → union_of (board_scanned n found b) ≡ edges.scanned n found (union_of b)
union_scanned b n found = edges_scanned b.union n found

-- where words lead
pub drop_zero : encoded words.Drop ≡ 0
unfolding encoded
drop_zero = refl

edge_by : (n : ℕ) (b : Bool) → goes n ≡ b → edge_in n ≡ (if b then Some (target n) else None)
edge_by n b is = ap (λ (c : Bool). if c then Some (target n) else None) is

pub edge_none : (w : Word) → IsRoomy w → is_edge w ≡ false → edge_of w ≡ None
edge_none w roomy is = edge_by (encoded w) false (goes_of (encoded w) w (decoded_encoded w roomy) ∙ is)

pub edge_some : (w : Word) → IsRoomy w → is_edge w ≡ true → edge_of w ≡ Some (value_of w)
edge_some w roomy is = edge_by (encoded w) true (goes_of (encoded w) w (decoded_encoded w roomy) ∙ is) ∙ ap (λ (y : ℕ). Some y) (target_of (encoded w) w (decoded_encoded w roomy))

pub edge_drop : edge_of words.Drop ≡ None
edge_drop = edge_none words.Drop tt refl

-- the word of a cell leads where its code leads
pub edge_at_drop : (n : ℕ) → decoded n ≡ words.Drop → edge_in n ≡ None
edge_at_drop n is = edge_by n false (goes_of n words.Drop is)

-- what isn't held may be cleared
pub serves_clear : (b : Board) (Held : ℕ → Type 0) (o : ℕ) → (Held o → ⊥) → HoldsPromise b Held → MayClear b o
serves_clear b Held o free ok = serving.serves_clear (as_control b) Held o free ok

-- what may be cleared may be emptied
pub clear_empties : (b : Board) (k : ℕ) → (IsReached b (owner k) → ⊥) → MayClear b (owner k) → MayEmpty b k
clear_empties b k far clear =
    subst (MayStoreSteadily (as_control b) k) (sym drop_zero)
    (serving.clear_steadily (as_control b) k (λ z. far (inl z)) (λ j v g to. far (inr (j, subst (edges.Goes (union_of b) j) to (goes_edges b.union j v g)))) clear)

-- a Drop where nothing leads and that isn't held, a look, a change of holds
pub serves_cleared : (b : Board) (Held : ℕ → Type 0) (k : ℕ) → owner k ≢ 0 → into (union_of b) (owner k) ≡ 0 → (Held (owner k) → ⊥) → HoldsPromise b Held → HoldsPromise (board_stored b k words.Drop) Held
serves_cleared b Held k other none free ok =
    subst (λ (n : ℕ). serving_of (put (as_control b) k n) Held) (sym drop_zero)
    (serving.serves_cleared (as_control b) Held k other (none_counted b.union (owner k) none) free ok)

pub serves_scanned : (b : Board) (Held : ℕ → Type 0) (n found : ℕ) → HoldsPromise b Held → HoldsPromise (board_scanned n found b) Held
serves_scanned b Held n found ok = serving.serves_looked (as_control b) Held n found ok

pub serves_held : (b : Board) (Held More : ℕ → Type 0) → ((o : ℕ) → Held o → More o) → HoldsPromise b Held → HoldsPromise b More
serves_held b Held More more ok = serving.serves_held (as_control b) Held More more ok

-- no edge to a ply leaves or enters an object into which no edge leads
pub hangs_aside : (b : Board) (o : ℕ) → o ≢ 0 → into (union_of b) o ≡ 0 → PliesHang b.workers b.union → HasNoPly b o
hangs_aside b o other none hangs k w y g is = (
  none_leaves_aside b.workers b.union o hangs other (none_counted b.union o none) k w y g is,
  λ same. none_counted b.union o none k w g (target_of w (words.ToPly y) is ∙ same),
)
