use Rattle.std.proofs.Common.{arith, ◌≡◌, ◌+◌, ◌*◌, ◌∙◌, ◌∷◌, [], ℕ, sym, ap, subst}
use Rattle.std.proofs.lemmas.Bool.{false≢true}
use Rattle.fib_union.specs.Unions.{Union, left_at_once, must_retire}
use Rattle.fib_core.specs.declared.word.Word.TheVariants as words
use Rattle.fib_core_board.specs.Boards.{word_in}
use Rattle.fib_plane.proofs.Boarding.{word_other}
use Rattle.fib_plane.proofs.Clearing.{changed, cleared_drop, dying_in, may_clear, clears_at_once, clear_left, step_joined, step_swept, target_live, dying_few}
use Rattle.fib_union.specs.Unions.{owner}
use Rattle.fib_plane.specs.Planes.{IsHeld, leads_from, uncounted}
use Rattle.fib_core_board.specs.Boards.{Board, board_stored}
use Rattle.fib_plane.proofs.Clearing.{not_root, no_edge}
use Rattle.fib_plane.proofs.Holding.{held_stays, dying_not_held}
use Rattle.fib_core_board.specs.May.{HoldsPromise}
use Rattle.fib_core_board.proofs.Serving.{serves_clear, serves_cleared, serves_held}
use Rattle.fib_plane.proofs.sweep.clear_cell.Goals as goal

pub load-requires-clause-object : goal.load-requires-clause-object
load-requires-clause-object g c = dying_in c.args.board.now c.args.union.now c.args.pool.now c.requires.joined c.args.cell.object c.args.cell.slot c.requires.slot (c.requires.dying.there 0 (omega arith))

pub store-requires-clause-may : goal.store-requires-clause-may
store-requires-clause-may g c =
    let b = c.args.board.now in
    let xs = c.args.pool.now in
    let d = c.requires.dying.there 0 (omega arith) in
    let k : ℕ = 16 * c.args.cell.object + c.args.cell.slot in
    may_clear b c.args.union.now xs c.requires.joined c.args.cell.object c.args.cell.slot c.requires.slot d
    (serves_clear b (IsHeld b xs) (owner k) (dying_not_held b xs c.args.cell.object c.args.cell.slot c.requires.slot d) c.requires.serves)
    c.requires.allowed (λ e. false≢true (c.if-is_drop.ensures.1 (c.load.ensures ∙ e)))

pub set-left-requires-clause-room : goal.set-left-requires-clause-room
set-left-requires-clause-room g c = λ y e must. absurd (false≢true (sym (clears_at_once c.args.board.now c.args.union.now c.args.pool.now c.requires.joined c.args.cell.object c.args.cell.slot c.requires.slot (c.requires.dying.there 0 (omega arith))) ∙ (ap (λ (u : Union). must_retire u (16 * c.args.cell.object + c.args.cell.slot)) (sym c.requires.joined.same) ∙ must)))

pub drop_edge-requires-clause-live : goal.drop_edge-requires-clause-live
drop_edge-requires-clause-live g c = λ y e.
    let b = c.args.board.now in
    let u = c.args.union.now in
    let d = c.requires.dying.there 0 (omega arith) in
    let k : ℕ = 16 * c.args.cell.object + c.args.cell.slot in
    target_live b u c.args.pool.now c.requires.joined c.args.cell.object c.args.cell.slot c.requires.slot d y (sym (clear_left b u c.args.pool.now c.requires.joined c.args.cell.object c.args.cell.slot c.requires.slot d) ∙ (ap (λ (v : Union). left_at_once v k) (sym c.requires.joined.same) ∙ (sym c.set-left.ensures.left_at_once ∙ e)))

pub drop_edge-requires-clause-room : goal.drop_edge-requires-clause-room
drop_edge-requires-clause-room g c =
    let f = dying_few c.args.pool.now (c.args.cell.object ∷ c.args.dying.now.items) c.requires.dying in
    omega (arith, f, c.requires.room)

pub returns-clause-joined : goal.returns-clause-joined
returns-clause-joined g c = step_joined c.args.board.now c.args.union.now c.args.pool.now c.requires.joined c.args.cell.object c.args.cell.slot c.requires.slot (c.requires.dying.there 0 (omega arith)) c.store.new.self c.set-left.new.self c.set-left.result c.drop_edge.new.pool c.store.ensures c.set-left.ensures.left_at_once c.drop_edge.ensures.pool c.set-left.ensures.union c.set-left.ensures.workers c.set-left.ensures.left c.set-left.ensures.short

pub returns-clause-dying : goal.returns-clause-dying
returns-clause-dying g c = c.drop_edge.ensures.dying (c.args.cell.object ∷ []) c.requires.dying

pub returns-clause-swept : goal.returns-clause-swept
returns-clause-swept g c = step_swept c.args.board.now c.args.union.now c.args.pool.now c.requires.joined c.args.cell.object c.args.cell.slot c.requires.slot (c.requires.dying.there 0 (omega arith)) c.store.new.self c.set-left.new.self c.set-left.result c.drop_edge.new.pool c.store.ensures c.set-left.ensures.left_at_once c.drop_edge.ensures.pool (λ e. false≢true (c.if-is_drop.ensures.1 (c.load.ensures ∙ e)))

pub returns-clause-spare : goal.returns-clause-spare
returns-clause-spare g c = c.set-left.ensures.spared (ap (λ (u : Union). must_retire u (16 * c.args.cell.object + c.args.cell.slot)) c.requires.joined.same ∙ clears_at_once c.args.board.now c.args.union.now c.args.pool.now c.requires.joined c.args.cell.object c.args.cell.slot c.requires.slot (c.requires.dying.there 0 (omega arith)))

pub returns-clause-others : goal.returns-clause-others
returns-clause-others g c = rw c.store.ensures (λ k ne. word_other c.args.board.now (16 * c.args.cell.object + c.args.cell.slot) k words.Drop ne)

pub returns-clause-cleared : goal.returns-clause-cleared
returns-clause-cleared g c =
    let b = c.args.board.now in
    let u = c.args.union.now in
    let xs = c.args.pool.now in
    let k : ℕ = 16 * c.args.cell.object + c.args.cell.slot in
    let d = c.requires.dying.there 0 (omega arith) in
    let drop : word_in (board_stored b k words.Drop) k ≡ words.Drop = cleared_drop b u xs c.requires.joined c.args.cell.object c.args.cell.slot c.requires.slot d (uncounted (leads_from b k) xs) (changed b u xs c.requires.joined c.args.cell.object c.args.cell.slot c.requires.slot d) in
    subst (λ (q : Board). word_in q k ≡ words.Drop) (sym c.store.ensures) drop

pub returns-clause-serves : goal.returns-clause-serves
returns-clause-serves g c =
    let b = c.args.board.now in
    let u = c.args.union.now in
    let xs = c.args.pool.now in
    let k : ℕ = 16 * c.args.cell.object + c.args.cell.slot in
    let d = c.requires.dying.there 0 (omega arith) in
    let swept = returns-clause-swept g c in
    let n = c.store.new.self in
    let stored = serves_cleared b (IsHeld b xs) k (not_root b u xs c.requires.joined c.args.cell.object c.args.cell.slot c.requires.slot d) (no_edge b u xs c.requires.joined c.args.cell.object c.args.cell.slot c.requires.slot d) (dying_not_held b xs c.args.cell.object c.args.cell.slot c.requires.slot d) c.requires.serves in
    serves_held n (IsHeld b xs) (IsHeld n c.drop_edge.new.pool) (held_stays b n xs c.drop_edge.new.pool swept) (subst (λ (q : Board). HoldsPromise q (IsHeld b xs)) (sym c.store.ensures) stored)
