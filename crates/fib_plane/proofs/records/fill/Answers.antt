use Rattle.std.proofs.Common.{◌∙◌, ◌+◌, ◌*◌, ℕ, ap, subst}
use Rattle.fib_core.specs.declared.word.Word.{Word}
use Rattle.fib_core.specs.declared.word.Word.TheVariants as words
use Rattle.fib_core.specs.Words.{IsRoomy}
use Rattle.fib_core.specs.StandsFor.{mac_word}
use Rattle.fib_pool.specs.declared.object.AdjacencyRecord.{AdjacencyRecord}
use Rattle.fib_core_board.specs.Boards.{Board, board_stored}
use Rattle.fib_plane.proofs.records.fill.Goals as goal

pub returns-clause-board : goal.returns-clause-board
returns-clause-board g c =
    let o = c.args.object in
    let r = c.args.kept.now in
    let interface = ap (λ (q : AdjacencyRecord). q.interface) c.kept.view_is in
    let next_hop = ap (λ (q : AdjacencyRecord). q.next_hop) c.kept.view_is in
    let mac = ap (λ (q : AdjacencyRecord). mac_word q.mac) c.kept.view_is in
    c.store_number-3.ensures.board
    ∙ (ap (λ (w : Word). board_stored c.store_number-2.new.board (16 * o + 2) w) (c.mac_number-mac.ensures.word ∙ mac)
    ∙ (ap (λ (q : Board). board_stored q (16 * o + 2) (mac_word r.mac)) (c.store_number-2.ensures.board ∙ ap (λ (n : ℕ). board_stored c.store_number.new.board (16 * o + 1) (words.Plain n)) next_hop)
    ∙ ap (λ (q : Board). board_stored (board_stored q (16 * o + 1) (words.Plain r.next_hop)) (16 * o + 2) (mac_word r.mac)) (c.store_number.ensures.board ∙ ap (λ (n : ℕ). board_stored c.args.board.now (16 * o + 0) (words.Plain n)) interface)))

pub returns-clause-words : goal.returns-clause-words
returns-clause-words g c = subst (λ (w : Word). IsRoomy w) (c.mac_number-mac.ensures.word ∙ ap (λ (q : AdjacencyRecord). mac_word q.mac) c.kept.view_is) c.mac_number-mac.ensures.bound
