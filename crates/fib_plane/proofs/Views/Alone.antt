-- While nobody is out one scan leaves nothing retired.
use Rattle.std.proofs.Common.{arith, ◌≡◌, ◌≢◌, ℕ, zero, suc, ◌+◌, ◌<◌, inl, inr, Bool, true, false, cond, ◌&&◌, ne_eqb, List, [], ◌∷◌, length, map, refl, sym, ◌∙◌, ap, subst, get_or-set_same, get_or-set_other, length-set}
use Rattle.std.specs.Prelude.{slice_index}
use Rattle.std.specs.List.{AllByRecursion, list_all}
use Rattle.std.proofs.lemmas.Bool.{false≢true, cases_eq}
use Rattle.fib_union.specs.Marks.{Mark, unseen, first, passed, is_even, is_passed, next_mark, mark_at, looked, all_passed}
use Rattle.fib_core.specs.Union.{Retired as Copy, drop_if, remark, scan_retired}
use Rattle.fib_core_steady.specs.inner.Backed.{IsFit, AreOrdered}
use Rattle.fib_core_board.specs.Boards.{Board, board_scanned, board_scans}
use Rattle.fib_plane.specs.Planes.{Plane}
use Rattle.fib_plane.specs.Planes as plane
use Rattle.fib_plane.specs.Sound as sound
use Rattle.fib_plane.specs.Views.{copy_seen, is_alone, view_of}
use Rattle.fib_plane.proofs.Views.Promising.{alone_home}

even_passes : (w : ℕ) (m : Mark) → is_even w ≡ true → IsFit m → next_mark w m ≡ passed
even_passes w unseen e fit = ap (λ (b : Bool). cond b passed (first w)) e
even_passes w (first v) e fit = ap (λ (b : Bool). cond b (first v) passed) (ne_eqb v w (λ same. false≢true (sym fit ∙ (ap is_even same ∙ e))))
even_passes w passed e fit = refl

-- the copy has a mark a worker, and is passed for the first n
abbrev IsSeen : ℕ → ℕ → Copy → Type 0
IsSeen workers n r = (length r.marks ≡ workers) × ((j : ℕ) → IsFit (mark_at r.marks j)) × ((j : ℕ) → j < n → mark_at r.marks j ≡ passed)

fits_at : (ms : List Mark) → AllByRecursion IsFit ms → (j : ℕ) → IsFit (mark_at ms j)
fits_at [] fit j = tt
fits_at (m ∷ ms) fit zero = fit.0
fits_at (m ∷ ms) fit (suc j) = fits_at ms fit.1 j

begin_seen : (workers : ℕ) (rs : List Copy) → AreOrdered rs → AllByRecursion (λ r. length r.marks ≡ workers) rs → AllByRecursion (IsSeen workers 0) rs
begin_seen workers [] fit long = tt
begin_seen workers (r ∷ []) fit long = ((long.0, fits_at r.marks fit, λ j lt. absurd (let bad : ⊥ = omega arith in bad)), tt)
begin_seen workers (r ∷ s ∷ rs) fit long = ((long.0, fits_at r.marks fit.0, λ j lt. absurd (let bad : ⊥ = omega arith in bad)), begin_seen workers (s ∷ rs) fit.2 long.1)

module _ (workers n w : ℕ) (lt : n < workers) (even : is_even w ≡ true) where
  mark_here : (r : Copy) → IsSeen workers n r → mark_at (remark n w r).marks n ≡ passed
  mark_here r seen = get_or-set_same r.marks n (next_mark w (mark_at r.marks n)) passed (let l = seen.0 in omega arith) ∙ even_passes w (mark_at r.marks n) even (seen.1 n)

  mark_else : (r : Copy) (j : ℕ) → j ≢ n → mark_at (remark n w r).marks j ≡ mark_at r.marks j
  mark_else r j ne = get_or-set_other r.marks n j (next_mark w (mark_at r.marks n)) passed ne

  look_seen : (r : Copy) → IsSeen workers n r → IsSeen workers (n + 1) (remark n w r)
  look_seen r seen = (
    length-set r.marks n (next_mark w (mark_at r.marks n)) ∙ seen.0,
    λ j. elim (cases_eq j n) [
      | inl same ↦ subst IsFit (sym (ap (λ (i : ℕ). mark_at (remark n w r).marks i) same ∙ mark_here r seen)) tt
      | inr ne ↦ subst IsFit (sym (mark_else r j ne)) (seen.1 j)
    ],
    λ j less. elim (cases_eq j n) [
      | inl same ↦ ap (λ (i : ℕ). mark_at (remark n w r).marks i) same ∙ mark_here r seen
      | inr ne ↦ mark_else r j ne ∙ seen.2 j (omega arith)
    ],
  )

  looks_seen : (rs : List Copy) → AllByRecursion (IsSeen workers n) rs → AllByRecursion (IsSeen workers (n + 1)) (scan_retired n w rs)
  looks_seen [] all = tt
  looks_seen (r ∷ rs) all = by_test (looks_seen rs all.1) (all_passed (looked n w r.marks))
    where
      by_test : AllByRecursion (IsSeen workers (n + 1)) (scan_retired n w rs) → (b : Bool) → AllByRecursion (IsSeen workers (n + 1)) (drop_if b (remark n w r) (scan_retired n w rs))
      by_test rest true = rest
      by_test rest false = (look_seen r all.0, rest)

each_passed : (ms : List Mark) → ((j : ℕ) → j < length ms → mark_at ms j ≡ passed) → all_passed ms ≡ true
each_passed [] each = refl
each_passed (m ∷ ms) each = ap (λ (k : Mark). is_passed k && list_all is_passed ms) (each 0 (omega arith)) ∙ each_passed ms (λ j lt. each (suc j) (omega arith))

last_look : (workers n w : ℕ) → n + 1 ≡ workers → is_even w ≡ true → (rs : List Copy) → AllByRecursion (IsSeen workers n) rs → scan_retired n w rs ≡ []
last_look workers n w last even [] all = refl
last_look workers n w last even (r ∷ rs) all =
    let seen = look_seen workers n w (omega arith) even r all.0 in
    let gone : all_passed (looked n w r.marks) ≡ true = each_passed (looked n w r.marks) (λ j lt. seen.2 j (let l = seen.0 in omega arith)) in
    ap (λ (b : Bool). drop_if b (remark n w r) (scan_retired n w rs)) gone ∙ last_look workers n w last even rs all.1

looks_end : (workers : ℕ) (ws : List ℕ) (n : ℕ) (b : Board) → n + length ws ≡ workers → 0 < length ws → ((i : ℕ) → i < length ws → is_even (slice_index ws i) ≡ true) → AllByRecursion (IsSeen workers n) b.union.retired → (board_scans n ws b).union.retired ≡ []
looks_end workers [] n b long some even all = absurd (let bad : ⊥ = omega arith in bad)
looks_end workers (w ∷ []) n b long some even all = last_look workers n w long (even 0 (omega arith)) b.union.retired all
looks_end workers (w ∷ v ∷ ws) n b long some even all =
    looks_end workers (v ∷ ws) (n + 1) (board_scanned n w b) (omega arith) (omega arith) (λ i lt. even (suc i) (omega arith))
    (looks_seen workers n w (omega arith) (even 0 (omega arith)) b.union.retired all)

pub scanned_alone : (p q : Plane) → sound.IsPlane p → plane.IsPlaneScanned p q → is_alone p.board ≡ true → (view_of q).retired ≡ []
scanned_alone p q told s alone =
    let each = s.each in
    let some = told.board.limits.some in
    let left = looks_end p.board.workers s.words 0 p.board (omega arith) (omega arith) (λ i lt. s.rests i lt (alone_home p.board alone i)) (begin_seen p.board.workers p.board.union.retired told.board.hangs.ordered told.board.hangs.long) in
    ap (map copy_seen) (ap (λ (b : Board). b.union.retired) s.swept.frame ∙ left)
