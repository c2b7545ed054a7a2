use Rattle.std.proofs.Common.{◌+◌, ◌*◌, arith, ap, sym, subst, ◌∙◌}
use Rattle.fib_core_board.specs.Boards.{Board}
use Rattle.fib_core_board.specs.May.{MayStore}
use Rattle.fib_cells.specs.Seats.{id_of}
use Rattle.fib_cells.proofs.Moves.{may_store}
use Rattle.fib_cells.proofs.Sittings.{cell_inside_copy, has_stored, lives_on}
use Rattle.fib_cells.proofs.board.LiveBoardBoard.store.Goals as goal

pub store-requires : goal.store-requires
store-requires c =
    let live = c.self.invariant.1 in
    let may = subst (λ (p : Board). MayStore p (16 * c.args.object + c.args.slot) c.args.word) (sym c.self.view_is) c.requires.may in (
      c.self.invariant.0,
      (let size = live.size in let lt = may.place.inside in let all = live.all in let same = ap (λ t. t.words) c.self.invariant.0 in let is = c.cell_word.ensures in omega arith),
      may_store _ _ _ _ (id_of c.self.inside.place.table_id) (16 * c.args.object + c.args.slot) _ _ _ live.sat c.encode-code.ensures.code c.cell_word.ensures may,
    )

pub index_mut-requires : goal.index_mut-requires
index_mut-requires c =
    let live = c.self.invariant.1 in
    let may = subst (λ (p : Board). MayStore p (16 * c.args.object + c.args.slot) c.args.word) (sym c.self.view_is) c.requires.may in
    let within = cell_inside_copy _ _ _ _ _ _ _ _ _ live (16 * c.args.object + c.args.slot) (let lt = may.place.inside in let all = live.all in omega arith) in
    let ok = c.self.inside.copy.ok.0 in
    omega arith

pub invariant_of-self : goal.invariant_of-self
invariant_of-self c =
    let live = c.self.invariant.1 in (
      c.store.ensures.0 ∙ c.self.invariant.0,
      lives_on _ _ _ _ _ _ _ _ _ _ (ap (λ z. z.words) c.store.ensures.0)
          (has_stored _ _ _ _ _ _ _ _ _ live _ (16 * c.args.object + c.args.slot) _ _ (let is = c.cell_word.ensures in omega arith) c.store.ensures.2),
    )
