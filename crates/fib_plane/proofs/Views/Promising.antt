-- What is promised in terms of the view is promised in terms of the board.
use Rattle.std.proofs.Common.{arith, ◌≡◌, ℕ, zero, suc, ◌+◌, ◌*◌, ◌%◌, ◌<◌, inl, inr, Bool, true, false, not, List, [], ◌∷◌, Option, Some, refl, sym, ◌∙◌, ap, subst}
use Rattle.std.specs.Prelude.{slice_index_or}
use Rattle.std.specs.List.{list_any}
use Rattle.std.proofs.lemmas.Bool.{false≢true, true≢false}
use Rattle.fib_addr.specs.Prefixes.{Prefix}
use Rattle.fib_resolve.specs.declared.types.End.{End}
use Rattle.fib_resolve.specs.declared.types.End.TheVariants as answers
use Rattle.fib_resolve.specs.declared.types.Tables.{Tables}
use Rattle.fib_resolve.specs.declared.aims.Aim.{Aim}
use Rattle.fib_resolve.specs.declared.aims.Aim.TheVariants as aims
use Rattle.fib_union.specs.Unions.{owner}
use Rattle.fib_core.specs.declared.word.Word.{Word}
use Rattle.fib_core.specs.Words.{decoded}
use Rattle.fib_core.specs.Walk.{hop_of, word_at}
use Rattle.fib_core.specs.Walk as walks
use Rattle.fib_core.specs.Union as core
use Rattle.fib_core_steady.specs.Aims.{IsLasting}
use Rattle.fib_core_steady.specs.Names as names
use Rattle.fib_core_steady.specs.Names.{Names}
use Rattle.fib_core_steady.specs.Promise as steady
use Rattle.fib_core_steady.proofs.Edges.{ways_by}
use Rattle.fib_core_rule.specs.Steady.{versions}
use Rattle.fib_core_board.specs.Boards.{Board, word_in}
use Rattle.fib_core_board.specs.May as may
use Rattle.fib_plane.specs.Planes.{Plane}
use Rattle.fib_plane_view.specs.View.{View, Goes, adjacency_end}
use Rattle.fib_plane_view.specs.Promise.{HasPaths, IsPromised, IsWalked, Allows, Serves}
use Rattle.fib_plane.specs.Views.{is_alone, promise_of, view_of}
use Rattle.fib_plane.proofs.Views.Seeing.{cell_is, goes_up}

-- a view with the board's cells and edges
module _ (b : Board) (u : View) (cells : (x s : ℕ) → s < 16 → u.cell x s ≡ word_in b (16 * x + s)) (up : (k n : ℕ) → core.Goes b.union k n → Goes u (owner k) (k % 16) (decoded n)) where
  pub adjacency_same : (x : ℕ) → adjacency_end u x ≡ walks.adjacency_end b.union.cells x
  adjacency_same x =
      ap (λ (w : Word). hop_of w (u.cell x 1) (u.cell x 2)) (cells x 0 (omega arith))
      ∙ (ap (λ (w : Word). hop_of (word_in b (16 * x + 0)) w (u.cell x 2)) (cells x 1 (omega arith))
      ∙ ap (λ (w : Word). hop_of (word_in b (16 * x + 0)) (word_in b (16 * x + 1)) w) (cells x 2 (omega arith)))

  end_down : (e : End) (w : Word) → steady.IsEndWord (adjacency_end u) e w → steady.IsEndWord (walks.adjacency_end b.union.cells) e w
  end_down answers.Drop w h = h
  end_down answers.Receive w h = h
  end_down (answers.Glean i) w h = h
  end_down (answers.Hop i a m) w h = (h.0, h.1, sym (adjacency_same h.0) ∙ h.2)

  aimed_down : (balances : Prefix → Option ℕ) (m : Aim) (w : Word) → steady.IsAimed balances (adjacency_end u) m w → steady.IsAimed balances (walks.adjacency_end b.union.cells) m w
  aimed_down balances (aims.Ends e) w h = end_down e w h
  aimed_down balances (aims.On e) w h = h

  walked_up : (x : ℕ) → names.IsWalked b.union x → IsWalked u x
  walked_up x (inl top) = inl top
  walked_up x (inr (y, (k, n, own, is, g))) = inr (owner k, k % 16, subst (λ (w : Word). Goes u (owner k) (k % 16) w) is (up k n g))

  pub promised_down : (J : List Tables) (n : Names) → HasPaths n u → IsPromised J n u → steady.IsPromised J n b.union
  promised_down J n paths h = record {
    buckets = record {
      named = h.buckets.named;
      held = λ e o lasting is. tt;
      aimed = λ e o k m lasting is lt alike. aimed_down n.balance m (word_at b.union.cells o k) (subst (steady.IsAimed n.balance (adjacency_end u) m) (cells o k lt) (h.buckets.aimed e o k m lasting is lt alike));
    };
    plies = record {
      ways = ways_by n b.union paths.root
          (λ k w c g is. paths.paths (owner k) (k % 16) c (subst (λ (z : Word). Goes u (owner k) (k % 16) z) is (up k w g)));
      right = λ x s walked lt. subst (steady.IsRight J n x s) (cells x s lt) (h.plies x s (walked_up x walked) lt);
    };
  }

-- a time at which stores are allowed

all_false : (out : List Bool) → list_any (λ a. a) out ≡ false → (n : ℕ) → slice_index_or out n false ≡ false
all_false [] e n = refl
all_false (true ∷ out) e n = absurd (true≢false e)
all_false (false ∷ out) e zero = refl
all_false (false ∷ out) e (suc n) = all_false out e n

not_true : (b : Bool) → not b ≡ true → b ≡ false
not_true true e = absurd (false≢true e)
not_true false e = refl

pub alone_home : (b : Board) → is_alone b ≡ true → (n : ℕ) → slice_index_or b.out n false ≡ false
alone_home b e n = all_false b.out (not_true (list_any (λ a. a) b.out) e) n

pub allows_down : (b : Board) → Allows (promise_of b) → may.Allows b
allows_down b (inl lt) = inl lt
allows_down b (inr q) = inr (q.0, alone_home b q.1)

-- steady traffic rests on what the control plane holds
pub serves_down : (p : Plane) (n : Names) → Serves (promise_of p.board) n (view_of p) → (Held : ℕ → Type 0)
    → (0 < p.board.log.version.applied → (e : Prefix) (o : ℕ) → IsLasting (versions p.board.log) e → n.balance e ≡ Some o → (view_of p).is_held o ≡ true → Held o)
    → may.HoldsPromise p.board Held
serves_down p n s Held held begun =
    let h = s.promised begun in (
      n,
      promised_down p.board (view_of p) (λ x t lt. cell_is p.board x t lt) (goes_up p) (versions p.board.log) n s.paths h,
      λ e o lasting is. held begun e o lasting is (h.buckets.held e o lasting is).0,
    )
