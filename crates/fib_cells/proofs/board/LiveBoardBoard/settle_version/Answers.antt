use Rattle.std.proofs.Common.{arith, ap, sym, subst, ◌∙◌}
use Rattle.fib_core_results.specs.declared.record.Version.{Version}
use Rattle.fib_core_results.specs.Trails.{version_at}
use Rattle.fib_core_results.specs.Versions.{packed}
use Rattle.fib_core_board.specs.Boards.{Board}
use Rattle.fib_core_board.specs.May.{MaySettle}
use Rattle.fib_cells.proofs.Moves.{may_settle}
use Rattle.fib_cells.proofs.Sittings.{has_settled, lives_on}
use Rattle.fib_cells.proofs.board.LiveBoardBoard.settle_version.Goals as goal

pub store-requires : goal.store-requires
store-requires c =
    let live = c.self.invariant.1 in (
      c.self.invariant.0,
      (let size = live.size in let same = ap (λ t. t.words) c.self.invariant.0 in let is = c.version_word.ensures in omega arith),
      may_settle _ _ _ _ _ _ live.sat
          (c.encode-code.ensures.code ∙ ap packed c.settled_at-settled.ensures ∙ ap (λ (v : Version). packed (version_at v.applied)) (sym live.now))
          c.version_word.ensures
          (subst (λ (p : Board). MaySettle p) (sym c.self.view_is) c.requires),
    )

pub invariant_of-self : goal.invariant_of-self
invariant_of-self c =
    let live = c.self.invariant.1 in (
      c.store.ensures.0 ∙ c.self.invariant.0,
      lives_on _ _ _ _ _ _ _ _ _ _ (ap (λ z. z.words) c.store.ensures.0)
          (has_settled _ _ _ _ _ _ _ _ _ live _ _ c.settled_at-settled.ensures c.store.ensures.2),
    )
