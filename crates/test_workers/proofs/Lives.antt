-- A live board is filled as any, and changed as a plain one is.
use Rattle.std.proofs.Common.{arith, ◌≡◌, ℕ, List, refl, sym, ap, ◌∙◌, subst}
use Rattle.fib_core_lawful.specs.State.{Worker}
use Rattle.fib_core_board.specs.Boards.{Board, IsFresh, board_scanned}
use Rattle.fib_core_board.specs.Crews.{board_joined, board_sent}
use Rattle.fib_core_board.specs.May.{MaySettle}
use Rattle.trial_filling.specs.inner.Filling.{IsChanging, with_union}
use Rattle.trial_filling.proofs.Changing as changing
use Rattle.fib_cells.specs.Seats.{fresh_live}

pub fresh_board : (b : Board) (id : List ℕ) → b ≡ fresh_live id 64 1 → IsFresh b
fresh_board b id is = subst IsFresh (sym is) (record { some = omega arith; few = omega arith; fresh = refl })

pub kept_id : (b c : Board) (id : List ℕ) → b ≡ fresh_live id 64 1 → c ≡ with_union b c → c ≡ with_union (fresh_live c.id 64 1) c
kept_id b c id is rest =
    let first : c ≡ with_union (fresh_live id 64 1) c = rest ∙ ap (λ (d : Board). with_union d c) is in
    let same : id ≡ c.id = sym (ap (λ (d : Board). d.id) first) in
    first ∙ ap (λ n. with_union (fresh_live n 64 1) c) same

-- a seat leaves, or a look finds nothing retired
pub sent_changing : (b c : Board) (n : ℕ) → IsChanging b → c ≡ board_sent b n → IsChanging c
sent_changing b c n r is = changing.still_changing b c r (ap (λ (d : Board). d.union) is) (ap (λ (d : Board). d.log) is) (ap (λ (d : Board). d.objects) is)

pub home_settles : (b c d : Board) (v : Worker) (n found : ℕ) → IsChanging b → c ≡ board_joined b v → d ≡ board_scanned n found c → MaySettle d
home_settles b c d v n found r home is =
    let came : IsChanging c = changing.still_changing b c r (ap (λ (e : Board). e.union) home) (ap (λ (e : Board). e.log) home) (ap (λ (e : Board). e.objects) home) in
    changing.changing_settles d (changing.still_changing c d came
    (ap (λ (e : Board). e.union) is ∙ changing.looked_same c.union n found came.quiet) (ap (λ (e : Board). e.log) is) (ap (λ (e : Board). e.objects) is))
