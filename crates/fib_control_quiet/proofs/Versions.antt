-- The promise of a board on which a version was settled or begun.
use Rattle.std.proofs.Common.{◌≡◌, ℕ, zero, suc, ◌+◌, ◌<◌, ◌≤◌, ◌||◌, true, List, [], ◌∷◌, ◌++◌, length, refl, sym, ap, ap₂, ◌∙◌, arith}
use Rattle.std.specs.Prelude.{Some, drop, slice_get}
use Rattle.fib_addr.specs.Prefixes.{Prefix}
use Rattle.fib_resolve.specs.Tables.{IsSound}
use Rattle.fib_resolve.specs.Touched.{is_touched}
use Rattle.fib_resolve.specs.declared.types.Tables.{Tables}
use Rattle.fib_core_steady.proofs.Lists.{drop_at}
use Rattle.fib_core_board.specs.Boards.{board_begun, board_settled}
use Rattle.fib_core_board.specs.Told.{IsHistory}
use Rattle.fib_plane.specs.Planes.{Plane}
use Rattle.fib_plane.specs.Sound.{IsPlane}
use Rattle.fib_stack_queue.specs.Queues.{rank_in}
use Rattle.fib_stack_queue.specs.declared.order.Queued.{Queued}
use Rattle.fib_plane_view.specs.Promise.{Promise}
use Rattle.fib_plane.specs.Views.{promise_of, view_of}
use Rattle.fib_stack.specs.Joined.{Joined, Parts, queued_in}
use Rattle.fib_control_quiet.specs.Rest.{IsAtRest, IsSeen}
use Rattle.fib_control_quiet.proofs.Changed.{joined_changed}
use Rattle.fib_control_quiet.proofs.Planed.{owned}
use Rattle.fib_control_quiet.proofs.Settled.{joined_at_rest}

drop_none : (k : ℕ) (H : List Tables) → length H ≤ k → drop k H ≡ []
drop_none zero [] le = refl
drop_none zero (T ∷ H) le = absurd (omega (arith, le))
drop_none (suc k) [] le = refl
drop_none (suc k) (T ∷ H) le = drop_none k H (omega (arith, le))

drop_append : (k : ℕ) (H : List Tables) (T : Tables) → k ≤ length H → drop k (H ++ T ∷ []) ≡ drop k H ++ T ∷ []
drop_append zero H T le = refl
drop_append (suc k) [] T le = absurd (omega (arith, le))
drop_append (suc k) (U ∷ H) T le = drop_append k H T (omega (arith, le))

-- the last version alone
last_one : (H : List Tables) (k : ℕ) (S : Tables) → length H ≡ k + 1 → slice_get H k ≡ Some S → drop k H ≡ S ∷ []
last_one H k S long at = drop_at H k S at ∙ ap (λ J. S ∷ J) (drop_none (suc k) H (omega (arith, long)))

module _ (S : Tables) (rank : Prefix → ℕ) (q : Plane) (s : Parts) (told : IsPlane q) (seen : IsSeen q) (rest : IsAtRest S rank (promise_of q.board) (view_of q) s)
    (last : slice_get q.board.log.history q.board.log.version.applied ≡ Some S) where
  history : IsHistory q.board
  history = told.board.history

  pub joined_settled : Joined S rank (promise_of (board_settled q.board)) (view_of q) s
  joined_settled = joined_at_rest S rank (promise_of q.board) (view_of q) s rest (owned S rank (promise_of q.board) q s told seen rest) (promise_of (board_settled q.board))
      (last_one q.board.log.history q.board.log.version.applied S history.long last) (λ z. z)

  module _ (T : Tables) (new : Prefix → ℕ) (queue : List Queued) (early : q.board.log.version.applied ≡ 0) (sound : IsSound T)
      (queued : (e : Prefix) → queued_in (record s { queue = queue }) e ≡ queued_in s e || is_touched S T e)
      (ranks : (e : Prefix) (k : ℕ) → rank_in queue e ≡ Some k → k ≡ new e) where
    -- as if the first change had begun with the tables of before
    abbrev first : Promise
    first = record { settled = 0; applied = 1; versions = S ∷ []; alone = true; rest = q.board }

    alone : q.board.log.history ≡ S ∷ []
    alone = last_one q.board.log.history 0 S (history.long ∙ ap (λ i. i + 1) early) (ap (slice_get q.board.log.history) (sym early) ∙ last)

    versions_are : drop q.board.log.version.settled (q.board.log.history ++ T ∷ []) ≡ (S ∷ []) ++ T ∷ []
    versions_are =
        let o = history.order in
        let z : q.board.log.version.settled ≡ 0 = omega (arith, o, early) in
        ap₂ drop z (ap (λ H. H ++ T ∷ []) alone)

    pub joined_first : Joined T new (promise_of (board_begun q.board T)) (view_of q) (record s { queue = queue })
    joined_first = joined_changed S T rank new first (promise_of (board_begun q.board T)) (view_of q) s queue
        (joined_at_rest S rank (promise_of q.board) (view_of q) s rest (owned S rank (promise_of q.board) q s told seen rest) first refl (λ z. absurd (omega (arith, z))))
        (omega arith) (omega arith) (let o = history.order in omega (arith, o)) versions_are sound queued ranks

pub joined_begun : (S T : Tables) (rank new : Prefix → ℕ) (q : Plane) (s : Parts) (queue : List Queued) → IsPlane q → Joined S rank (promise_of q.board) (view_of q) s
    → 0 < q.board.log.version.applied → IsSound T → ((e : Prefix) → queued_in (record s { queue = queue }) e ≡ queued_in s e || is_touched S T e)
    → ((e : Prefix) (k : ℕ) → rank_in queue e ≡ Some k → k ≡ new e) → Joined T new (promise_of (board_begun q.board T)) (view_of q) (record s { queue = queue })
joined_begun S T rank new q s queue told j begun sound queued ranks =
    let h = told.board.history in
    joined_changed S T rank new (promise_of q.board) (promise_of (board_begun q.board T)) (view_of q) s queue j begun (omega arith) (let o = h.order in omega (arith, o))
    (drop_append q.board.log.version.settled q.board.log.history T (let o = h.order in let l = h.long in omega (arith, o, l))) sound queued ranks
