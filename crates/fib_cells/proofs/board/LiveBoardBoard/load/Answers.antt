use Rattle.std.proofs.Common.{◌+◌, ◌*◌, ◌<◌, ap, sym, ◌∙◌, subst, arith}
use Rattle.std.specs.Prelude.{slice_index}
use Rattle.std.proofs.lemmas.Grind.{get_or_default_zero}
use Rattle.fib_core.specs.Words.{IsWord, decoded}
use Rattle.fib_core_board.specs.Boards.{Board}
use Rattle.fib_cells.specs.inner.Told.{control_of}
use Rattle.fib_cells.proofs.Sittings.{cell_inside_copy, copy_word}
use Rattle.fib_cells.proofs.board.LiveBoardBoard.load.Goals as goal

inside : (c : goal.After-self) → 16 * c.args.object + c.args.slot < 16 * c.self.inside.objects
inside c =
    let lt : c.args.object < (control_of c.self.inside.place.me.0).objects = subst (λ (p : Board). c.args.object < p.objects) (sym c.self.view_is) c.requires.object in
    let low = c.requires.slot in
    let all = c.self.invariant.1.all in
    omega arith

pub index-requires : goal.index-requires
index-requires c =
    let lt = cell_inside_copy _ _ _ _ _ _ _ _ _ c.self.invariant.1 (16 * c.args.object + c.args.slot) (inside c) in
    let ok = c.self.inside.copy.ok.0 in
    omega arith

pub decode-requires : goal.decode-requires
decode-requires c =
    let live = c.self.invariant.1 in
    let lt : c.args.object < (control_of c.self.inside.place.me.0).objects = subst (λ (p : Board). c.args.object < p.objects) (sym c.self.view_is) c.requires.object in
    let low = c.requires.slot in
    let all = live.all in
    subst IsWord
    (sym (c.index.ensures ∙ get_or_default_zero c.self.inside.copy.items (16 * c.args.object + c.args.slot) c.index.result.now
    (cell_inside_copy _ _ _ _ _ _ _ _ _ live (16 * c.args.object + c.args.slot) (omega arith))))
    (copy_word _ _ _ _ _ _ _ _ _ live (16 * c.args.object + c.args.slot))

pub returns : goal.returns
returns c =
    let live = c.self.invariant.1 in
    let lt : c.args.object < (control_of c.self.inside.place.me.0).objects = subst (λ (p : Board). c.args.object < p.objects) (sym c.self.view_is) c.requires.object in
    let low = c.requires.slot in
    let all = live.all in
    c.decode.ensures
    ∙ ap decoded (c.index.ensures ∙ get_or_default_zero c.self.inside.copy.items (16 * c.args.object + c.args.slot) c.index.result.now
    (cell_inside_copy _ _ _ _ _ _ _ _ _ live (16 * c.args.object + c.args.slot) (omega arith)))
    ∙ ap (λ cs. decoded (slice_index cs (16 * c.args.object + c.args.slot))) (sym live.cells)
    ∙ ap (λ (p : Board). decoded (slice_index p.union.cells (16 * c.args.object + c.args.slot))) c.self.view_is
