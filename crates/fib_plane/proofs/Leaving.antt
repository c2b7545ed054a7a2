-- Which copies leave at looks at the pass words of all workers: those that are passed for every worker then.
use Rattle.std.proofs.Common.{arith, ◌≡◌, ℕ, zero, suc, ◌+◌, ◌<◌, Bool, true, false, not, ◌&&◌, List, [], ◌∷◌, length, refl, sym, ◌∙◌, ap}
use Rattle.std.specs.Prelude.{slice_set}
use Rattle.std.proofs.lemmas.Bool.{true≢false}
use Rattle.fib_base_list.proofs.Booleans.{and_both}
use Rattle.fib_union.specs.Marks.{Mark, unseen, first, passed, all_passed, is_passed, looked, mark_at, next_mark}
use Rattle.fib_core.specs.Union.{Retired, drop_if, remark, scan_retired}
use Rattle.fib_core_board.specs.Boards.{Board, board_scanned, board_scans}
use Rattle.fib_plane.specs.Planes.{left_after, looked_copy, looked_from, stays}

is_passed_of : (m : Mark) → is_passed m ≡ true → m ≡ passed
is_passed_of passed e = refl
is_passed_of unseen e = absurd (true≢false (sym e))
is_passed_of (first v) e = absurd (true≢false (sym e))

mark_passed : (ms : List Mark) (n : ℕ) → all_passed ms ≡ true → mark_at ms n ≡ passed
mark_passed [] n e = refl
mark_passed (m ∷ ms) zero e = is_passed_of m (and_both (is_passed m) (all_passed ms) e).0
mark_passed (m ∷ ms) (suc n) e = mark_passed ms n (and_both (is_passed m) (all_passed ms) e).1

set_passed : (ms : List Mark) (n : ℕ) → all_passed ms ≡ true → all_passed (slice_set ms n passed) ≡ true
set_passed [] n e = refl
set_passed (m ∷ ms) zero e = (and_both (is_passed m) (all_passed ms) e).1
set_passed (m ∷ ms) (suc n) e =
    let both = and_both (is_passed m) (all_passed ms) e in
    ap (λ (b : Bool). b && all_passed (slice_set ms n passed)) both.0 ∙ set_passed ms n both.1

-- what is passed for all stays so
look_passed : (ms : List Mark) (n w : ℕ) → all_passed ms ≡ true → all_passed (looked n w ms) ≡ true
look_passed ms n w e = ap (λ (m : Mark). all_passed (slice_set ms n (next_mark w m))) (mark_passed ms n e) ∙ set_passed ms n e

looks_passed : (ws : List ℕ) (n : ℕ) (ms : List Mark) → all_passed ms ≡ true → all_passed (looked_from n ws ms) ≡ true
looks_passed [] n ms e = e
looks_passed (w ∷ ws) n ms e = looks_passed ws (n + 1) (looked n w ms) (look_passed ms n w e)

-- one look first, and then the others
look_then : (n w : ℕ) (ws : List ℕ) (rs : List Retired) → left_after (n + 1) ws (scan_retired n w rs) ≡ left_after n (w ∷ ws) rs
look_then n w ws [] = refl
look_then n w ws (r ∷ rs) = one_look (look_then n w ws rs) (all_passed (looked n w r.marks)) refl
  where
    by_stay : left_after (n + 1) ws (scan_retired n w rs) ≡ left_after n (w ∷ ws) rs → (b : Bool) → stays n (w ∷ ws) r ≡ b → left_after (n + 1) ws (remark n w r ∷ scan_retired n w rs) ≡ left_after n (w ∷ ws) (r ∷ rs)
    by_stay more true e = rw (e) (ap (λ (rest : List Retired). looked_copy n (w ∷ ws) r ∷ rest) more)
    by_stay more false e = rw (e) more

    one_look : left_after (n + 1) ws (scan_retired n w rs) ≡ left_after n (w ∷ ws) rs → (b : Bool) → all_passed (looked n w r.marks) ≡ b → left_after (n + 1) ws (drop_if b (remark n w r) (scan_retired n w rs)) ≡ left_after n (w ∷ ws) (r ∷ rs)
    one_look more true e = (let gone : stays n (w ∷ ws) r ≡ false = ap not (looks_passed ws (n + 1) (looked n w r.marks) e) in rw (gone) more)
    one_look more false e = by_stay more (stays n (w ∷ ws) r) refl

-- no copy is passed for all
AreOpen : List Retired → Type 0
AreOpen [] = Unit {0}
AreOpen (r ∷ rs) = (all_passed r.marks ≡ false) × AreOpen rs

open_scanned : (n w : ℕ) (rs : List Retired) → AreOpen (scan_retired n w rs)
unfolding AreOpen
open_scanned n w [] = tt
open_scanned n w (r ∷ rs) = by_look (open_scanned n w rs) (all_passed (looked n w r.marks)) refl
  where
    by_look : AreOpen (scan_retired n w rs) → (b : Bool) → all_passed (looked n w r.marks) ≡ b → AreOpen (drop_if b (remark n w r) (scan_retired n w rs))
    by_look more true e = more
    by_look more false e = (e, more)

none_leaves : (n : ℕ) (rs : List Retired) → AreOpen rs → rs ≡ left_after n [] rs
unfolding AreOpen
none_leaves n [] all = refl
none_leaves n (r ∷ rs) all = (let here : stays n [] r ≡ true = ap not all.0 in rw (here) (ap (λ (more : List Retired). r ∷ more) (none_leaves n rs all.1)))

more_looks : (ws : List ℕ) (n : ℕ) (b : Board) → AreOpen b.union.retired → (board_scans n ws b).union.retired ≡ left_after n ws b.union.retired
more_looks [] n b all = none_leaves n b.union.retired all
more_looks (w ∷ ws) n b all = more_looks ws (n + 1) (board_scanned n w b) (open_scanned n w b.union.retired) ∙ look_then n w ws b.union.retired

pub looks_leave : (ws : List ℕ) (n : ℕ) (b : Board) → 0 < length ws → (board_scans n ws b).union.retired ≡ left_after n ws b.union.retired
looks_leave [] n b lt = absurd (let bad : ⊥ = omega arith in bad)
looks_leave (w ∷ ws) n b lt = more_looks ws (n + 1) (board_scanned n w b) (open_scanned n w b.union.retired) ∙ look_then n w ws b.union.retired
