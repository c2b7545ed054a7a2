use Rattle.std.proofs.Common.{arith, ap, sym, subst, refl, ◌∙◌}
use Rattle.fib_core_board.specs.Boards.{Board}
use Rattle.fib_core_board.specs.May.{MayBegin}
use Rattle.fib_cells.specs.Seats.{id_of}
use Rattle.fib_cells.proofs.Moves.{may_begin}
use Rattle.fib_cells.proofs.Sittings.{has_begun, lives_on}
use Rattle.fib_cells.proofs.board.LiveBoardBoard.begin_version.Goals as goal

pub compare_exchange_with-requires : goal.compare_exchange_with-requires
compare_exchange_with-requires c =
    let live = c.self.invariant.1 in (
      c.self.invariant.0,
      (let size = live.size in let same = ap (λ t. t.words) c.self.invariant.0 in let is = c.version_word.ensures in omega arith),
      may_begin _ _ _ _ (id_of c.self.inside.place.table_id) _ _ _ _ _ live.sat live.now c.encode-old.ensures.code c.encode-new.ensures.code c.version_word.ensures
          (subst (λ (p : Board). MayBegin p c.args.next.now) (sym c.self.view_is) c.requires),
    )

pub invariant_of-self : goal.invariant_of-self
invariant_of-self c =
    let live = c.self.invariant.1 in (
      c.compare_exchange_with.ensures.0 ∙ c.self.invariant.0,
      lives_on _ _ _ _ _ _ _ _ _ _ (ap (λ z. z.words) c.compare_exchange_with.ensures.0)
          (has_begun _ _ _ _ _ _ _ _ _ live _ _ _ refl c.compare_exchange_with.ensures.2),
    )
