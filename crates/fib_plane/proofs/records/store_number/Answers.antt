use Rattle.std.proofs.Common.{◌≡◌, ◌∙◌, ◌+◌, ◌*◌, ap, subst, sym}
use Rattle.std.proofs.lemmas.Bool.{false≢true}
use Rattle.fib_union.specs.Unions.{Union, must_retire, into}
use Rattle.fib_core.specs.declared.word.Word.TheVariants as words
use Rattle.fib_core_board.specs.Boards.{Board, union_of}
use Rattle.fib_plane.proofs.Boarding.{word_other}
use Rattle.fib_plane.proofs.Filling.{number_may, number_idle, into_same, set_spares}
use Rattle.fib_plane.proofs.records.store_number.Goals as goal

pub store-requires-clause-may : goal.store-requires-clause-may
store-requires-clause-may g c = number_may c.args.board.now c.args.union.now c.args.pool.now c.args.cell.object c.args.cell.slot c.args.number c.requires.idle c.tells.ensures c.requires.slot c.requires.number c.requires.empty

pub returns-clause-idle : goal.returns-clause-idle
returns-clause-idle g c =
    number_idle c.args.board.now c.args.union.now c.args.pool.now c.args.cell.object c.args.cell.slot c.args.number c.requires.idle c.tells.ensures c.requires.slot c.requires.number c.requires.empty
    c.store.new.self c.set.new.self c.store.ensures c.set.ensures.union c.set.ensures.workers c.set.ensures.left c.set.ensures.short

pub returns-clause-others : goal.returns-clause-others
returns-clause-others g c = rw c.store.ensures (λ k ne. word_other c.args.board.now (16 * c.args.cell.object + c.args.cell.slot) k (words.Plain c.args.number) ne)

pub returns-clause-counts : goal.returns-clause-counts
returns-clause-counts g c = λ z. subst (λ (q : Board). into (union_of q) z ≡ into (union_of c.args.board.now) z) (sym c.store.ensures)
    (into_same c.args.board.now c.args.union.now c.args.pool.now c.args.cell.object c.args.cell.slot c.args.number c.requires.idle c.tells.ensures c.requires.slot c.requires.number c.requires.empty z)

pub returns-clause-spare : goal.returns-clause-spare
returns-clause-spare g c = c.set.ensures.spared (ap (λ (v : Union). must_retire v (16 * c.args.cell.object + c.args.cell.slot)) c.requires.idle.joined.same ∙ set_spares c.args.board.now c.args.union.now c.args.pool.now c.args.cell.object c.args.cell.slot c.args.number c.requires.idle c.tells.ensures c.requires.slot c.requires.number c.requires.empty)

pub set-requires-clause-room : goal.set-requires-clause-room
set-requires-clause-room g c = λ y e must. absurd (false≢true (sym (ap (λ (v : Union). must_retire v (16 * c.args.cell.object + c.args.cell.slot)) c.requires.idle.joined.same ∙ set_spares c.args.board.now c.args.union.now c.args.pool.now c.args.cell.object c.args.cell.slot c.args.number c.requires.idle c.tells.ensures c.requires.slot c.requires.number c.requires.empty) ∙ must))
