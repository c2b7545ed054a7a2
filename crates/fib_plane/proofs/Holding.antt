-- What is held stays held, and steady traffic with it.
use Rattle.std.proofs.Common.{arith, ◌≡◌, ◌≢◌, ◌<◌, ◌+◌, ◌*◌, ℕ, List, [], ◌∷◌, Option, None, ap}
use Rattle.fib_union.specs.Unions.{owner, into, Kept}
use Rattle.fib_pool.specs.declared.object.Object.{Object}
use Rattle.fib_pool.specs.Objects.{at, count_in, count_of, IsDying}
use Rattle.fib_core_board.specs.Boards.{Board, HasNoPly, union_of, board_scanned, board_scans}
use Rattle.fib_plane.specs.Planes.{IsHeld, IsSwept}
use Rattle.fib_plane.specs.inner.Joined.{IsJoined, IsDropped}
use Rattle.fib_union.specs.Unions.{times}
use Rattle.fib_core_board.specs.May.{HoldsPromise}
use Rattle.fib_core_board.specs.Told.{IsBoard}
use Rattle.fib_core_board.proofs.Serving.{serves_scanned, hangs_aside}
use Rattle.fib_plane.proofs.Boarding.{dying_count}

pub held_stays : (b d : Board) (xs ys : List (Option Object)) → IsSwept b d xs ys → (o : ℕ) → IsHeld b xs o → IsHeld d ys o
held_stays b d xs ys s o h = (let e = s.holds o in omega arith)

pub dying_not_held : (b : Board) (xs : List (Option Object)) (o slot : ℕ) → slot < 16 → IsDying xs o → IsHeld b xs (owner (16 * o + slot)) → ⊥
dying_not_held b xs o slot lt d h = (let c = dying_count xs o d in let own : owner (16 * o + slot) ≡ o = omega arith in let e = ap (λ (q : ℕ). count_of xs q) own in absurd (let bad : ⊥ = omega arith in bad))

-- looks
pub scans_serve : (Held : ℕ → Type 0) (n : ℕ) (ws : List ℕ) (b : Board) → HoldsPromise b Held → HoldsPromise (board_scans n ws b) Held
scans_serve Held n [] b s = s
scans_serve Held n (w ∷ ws) b s = scans_serve Held (n + 1) ws (board_scanned n w b) (serves_scanned b Held n w s)

pub hold_scanned : (b c : Board) (was left : List ℕ) (xs ys : List (Option Object)) → was ≡ [] → ((o : ℕ) → into (union_of c) o + times o left ≡ into (union_of b) o + times o was) → IsDropped left xs ys → (o : ℕ) → IsHeld b xs o → IsHeld c ys o
hold_scanned b c was left xs ys none counts dropped o held =
    let a = counts o in
    let z : times o was ≡ 0 = ap (times o) none in
    let d = dropped.counts o in omega arith

-- nothing leads into a free object
pub free_apart : (b : Board) (u : Kept) (xs : List (Option Object)) → IsJoined b u xs → (o : ℕ) → at xs o ≡ None → (o ≢ 0) × (into (union_of b) o ≡ 0)
free_apart b u xs h o is =
    let free : count_of xs o ≡ 0 = ap count_in is in
    let least = (h.counted o).least in
    let root = h.root in
    (λ z. (let same : count_of xs o ≡ count_of xs 0 = ap (λ (q : ℕ). count_of xs q) z in absurd (let bad : ⊥ = omega arith in bad)), omega arith)

-- so no edge to a ply leaves or enters it
pub free_plies : (b : Board) (u : Kept) (xs : List (Option Object)) → IsJoined b u xs → IsBoard b → (o : ℕ) → at xs o ≡ None → HasNoPly b o
free_plies b u xs h told o is = (let f = free_apart b u xs h o is in hangs_aside b o f.0 f.1 told.hangs)
