use Rattle.std.proofs.Common.{ap, true, false, ◌≡◌, ◌≢◌, ◌≤◌, ◌+◌, ◌*◌, ◌∙◌, inl, ℕ, List, [], Option, sym, subst, refl}
use Rattle.std.proofs.lemmas.Bool.{false≢true}
use Rattle.fib_reach.specs.Walks.{IsAcyclic}
use Rattle.fib_union.specs.Unions.{Edge, Kept, Union, left_at_once, must_retire}
use Rattle.fib_pool.specs.declared.object.Object.{Object}
use Rattle.fib_core.specs.declared.word.Word.{Word}
use Rattle.fib_core.specs.declared.word.Word.TheVariants as words
use Rattle.fib_core.specs.Words.{IsRoomy}
use Rattle.fib_core_board.specs.Boards.{board_stored, edge_of, union_of, word_in}
use Rattle.fib_core_board.specs.May.{HoldsPromise, MayStore}
use Rattle.fib_plane_view.specs.declared.put.Put.{Put}
use Rattle.fib_plane.specs.Planes.{IsHeld, IsSwept, counted_more, uncounted}
use Rattle.fib_plane.specs.Puts.{Closes, IsPlanePut, IsStored}
use Rattle.fib_plane.specs.Views.{plane_of}
use Rattle.fib_plane.proofs.Dropping.{left, left_answers, left_may, left_roomy, left_serves, left_target}
use Rattle.fib_plane.proofs.Resting.{live_in, live_edge, closes_here, here_closes}
use Rattle.fib_plane.proofs.replace.change.Goals as goal

pub closes-closing-requires-clause-acyclic : goal.closes-closing-requires-clause-acyclic
closes-closing-requires-clause-acyclic g c = subst (λ (v : Union). IsAcyclic (Edge v)) (sym c.requires.joined.same) c.requires.acyclic

pub closes-closing-requires-clause-source : goal.closes-closing-requires-clause-source
closes-closing-requires-clause-source g c = live_edge c.args.board.now c.args.union.now c.args.pool.now c.requires.joined c.args.cell.object c.requires.source

pub closes-closing-requires-clause-target : goal.closes-closing-requires-clause-target
closes-closing-requires-clause-target g c = λ y e. live_edge c.args.board.now c.args.union.now c.args.pool.now c.requires.joined y (c.requires.target y e)

pub closes-closing-requires-clause-calm : goal.closes-closing-requires-clause-calm
closes-closing-requires-clause-calm g c = λ is y e l. c.requires.calm is (closes_here c.args.board.now c.args.union.now c.args.pool.now c.requires.joined c.args.cell.object c.args.cell.slot c.args.word c.requires.slot (y, e, l))

pub is_dropped-requires-clause-object : goal.is_dropped-requires-clause-object
is_dropped-requires-clause-object g c = live_in c.args.board.now c.args.union.now c.args.pool.now c.requires.joined c.args.cell.object c.requires.source

pub replace-requires-clause-word : goal.replace-requires-clause-word
replace-requires-clause-word g c = subst IsRoomy (sym c.left_for.ensures) (left_roomy c.args.word c.requires.may.roomy c.closes-closing.result)

pub replace-requires-clause-may : goal.replace-requires-clause-may
replace-requires-clause-may g c =
    let b = c.args.board.now in
    let u = c.args.union.now in
    let xs = c.args.pool.now in
    let o = c.args.cell.object in
    let k : ℕ = 16 * o + c.args.cell.slot in
    let w = c.args.word in
    let t = c.closes-closing.result in
    let inside = live_in b u xs c.requires.joined o c.requires.source in
    let yes : t ≡ true → Closes b k w = λ q. closes_here b u xs c.requires.joined o c.args.cell.slot w c.requires.slot (c.closes-closing.ensures.closes.0 q) in
    let far : t ≡ false → Closes b k w → ⊥ = λ q closes. false≢true (sym q ∙ c.closes-closing.ensures.closes.1 (here_closes b u xs c.requires.joined o c.args.cell.slot w c.requires.slot closes)) in
    let filled : t ≡ true → word_in b k ≢ words.Drop = λ q e. false≢true (c.if-is_dropped.ensures.1 (q, e)) in
    subst (λ (z : Word). MayStore b k z) (sym c.left_for.ensures)
    (left_may (plane_of b u xs []) o c.args.cell.slot w c.requires.slot inside c.requires.may c.requires.other t (λ y e. live_in b u xs c.requires.joined y (c.requires.target y e)) yes far filled)

pub replace-requires-clause-serves : goal.replace-requires-clause-serves
replace-requires-clause-serves g c =
    let b = c.args.board.now in
    let u = c.args.union.now in
    let xs = c.args.pool.now in
    let o = c.args.cell.object in
    let k : ℕ = 16 * o + c.args.cell.slot in
    let w = c.args.word in
    let t = c.closes-closing.result in
    let inside = live_in b u xs c.requires.joined o c.requires.source in
    let yes : t ≡ true → Closes b k w = λ q. closes_here b u xs c.requires.joined o c.args.cell.slot w c.requires.slot (c.closes-closing.ensures.closes.0 q) in
    let far : t ≡ false → Closes b k w → ⊥ = λ q closes. false≢true (sym q ∙ c.closes-closing.ensures.closes.1 (here_closes b u xs c.requires.joined o c.args.cell.slot w c.requires.slot closes)) in
    let filled : t ≡ true → word_in b k ≢ words.Drop = λ q e. false≢true (c.if-is_dropped.ensures.1 (q, e)) in
    subst (λ (z : Word). HoldsPromise (board_stored b k z) (IsHeld b xs)) (sym c.left_for.ensures)
    (left_serves (plane_of b u xs []) o c.args.cell.slot w c.requires.slot inside c.requires.may c.requires.other t yes far filled)

pub replace-requires-clause-target : goal.replace-requires-clause-target
replace-requires-clause-target g c = λ y e. left_target c.args.pool.now c.args.word c.requires.target c.closes-closing.result y (sym (ap edge_of c.left_for.ensures) ∙ e)

pub returns-then-is_dropped-clause-put : goal.returns-then-is_dropped-clause-put
returns-then-is_dropped-clause-put g c =
    let b = c.args.board.now in
    let u = c.args.union.now in
    let xs = c.args.pool.now in
    let o = c.args.cell.object in
    let k : ℕ = 16 * o + c.args.cell.slot in
    let w = c.args.word in
    let t = c.closes-closing.result in
    let inside = live_in b u xs c.requires.joined o c.requires.source in
    let yes : t ≡ true → Closes b k w = λ q. closes_here b u xs c.requires.joined o c.args.cell.slot w c.requires.slot (c.closes-closing.ensures.closes.0 q) in
    let far : t ≡ false → Closes b k w → ⊥ = λ q closes. false≢true (sym q ∙ c.closes-closing.ensures.closes.1 (here_closes b u xs c.requires.joined o c.args.cell.slot w c.requires.slot closes)) in
    let both = c.if-is_dropped.ensures.0 refl in
    let same : plane_of b c.closes-closing.new.union xs [] ≡ plane_of b u xs [] = ap (λ (v : Kept). plane_of b v xs []) c.closes-closing.ensures.unchanged in
    let there : word_in b k ≡ words.Drop = both.1 in
    (c.requires.other, yes both.0, inl (there, same))

pub returns-clause-put : goal.returns-clause-put
returns-clause-put g c =
    let b = c.args.board.now in
    let u = c.args.union.now in
    let xs = c.args.pool.now in
    let o = c.args.cell.object in
    let k : ℕ = 16 * o + c.args.cell.slot in
    let w = c.args.word in
    let t = c.closes-closing.result in
    let inside = live_in b u xs c.requires.joined o c.requires.source in
    let yes : t ≡ true → Closes b k w = λ q. closes_here b u xs c.requires.joined o c.args.cell.slot w c.requires.slot (c.closes-closing.ensures.closes.0 q) in
    let far : t ≡ false → Closes b k w → ⊥ = λ q closes. false≢true (sym q ∙ c.closes-closing.ensures.closes.1 (here_closes b u xs c.requires.joined o c.args.cell.slot w c.requires.slot closes)) in
    let filled : t ≡ true → word_in b k ≢ words.Drop = λ q e. false≢true (c.if-is_dropped.ensures.1 (q, e)) in
    let n = c.replace.new in
    let spare = subst (λ (v : Kept). v.spare ≤ n.union.spare + 1) c.closes-closing.ensures.unchanged c.replace.ensures.spare in
    let spared = subst (λ (v : Kept). must_retire (union_of b) k ≡ false → v.spare ≤ n.union.spare) c.closes-closing.ensures.unchanged c.replace.ensures.spared in
    let swept = subst (λ (z : Word). IsSwept (board_stored b k z) n.board (uncounted (left_at_once (union_of b) k) (counted_more (edge_of z) xs)) n.pool) c.left_for.ensures c.replace.ensures.swept in
    let st : IsStored (plane_of b u xs []) (plane_of n.board n.union n.pool []) k (left t w) = record { swept = swept; records = refl; spare = spare; spared = spared } in
    subst (λ (a : Put). IsPlanePut (plane_of b u xs []) (plane_of n.board n.union n.pool []) k w a) (sym c.answer_for.ensures)
    (left_answers (plane_of b u xs []) o c.args.cell.slot w c.requires.slot inside c.requires.may c.requires.other (plane_of n.board n.union n.pool []) t yes far filled st)
