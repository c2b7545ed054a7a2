use Rattle.std.proofs.Common.{◌≡◌, ◌+◌, ◌-◌, ◌<◌, ℕ, arith, ap, sym, subst, ◌∙◌}
use Rattle.fib_core_lawful.specs.Layout.{worker_at}
use Rattle.fib_core_lawful.specs.State.{picking}
use Rattle.fib_core_rule.specs.May as events
use Rattle.fib_core_board.specs.Boards.{Board}
use Rattle.fib_core_board.specs.Crews.{MaySend}
use Rattle.fib_cells.specs.inner.Told.{control_of, left_at_home}
use Rattle.fib_cells.proofs.Moves.{may_pick, may_send}
use Rattle.fib_cells.proofs.Sittings.{has_sent, lives_on}
use Rattle.fib_cells.proofs.crew.LiveBoardCrew.worker.Goals as goal

pub load-requires : goal.load-requires
load-requires c =
    let live = c.self.invariant.1 in (
      c.self.invariant.0,
      (let size = live.size in
          let lt : c.args.number < (control_of c.self.inside.place.me.0).workers = subst (λ (p : Board). c.args.number < p.workers) (sym c.self.view_is) c.requires.one in
          let crew = live.crew in
          let eight = live.limits.eight in
          let least = live.limits.least in
          let same = ap (λ t. t.words) c.self.invariant.0 in
          let is = c.pass_word.ensures in
          omega arith),
      may_pick _ _ _ _ _ _ live.sat c.pass_word.ensures,
    )

pub split_seat-place-requires : goal.split_seat-place-requires
split_seat-place-requires c =
    let live = c.self.invariant.1 in
    let may = subst (λ (p : Board). MaySend p c.args.number) (sym c.self.view_is) c.requires in
    let is = c.pass_word.ensures in
    let back : c.args.number ≡ worker_at c.pass_word.result = omega arith in (
      c.load.ensures.0 ∙ c.self.invariant.0,
      (let size = live.size in let same = ap (λ t. t.words) c.self.invariant.0 in omega arith),
      may_send _ 0 _ _ (picking (control_of c.self.inside.place.me.0) (worker_at c.pass_word.result)) c.load.ensures.2
          (subst (λ (n : ℕ). events.MaySend (picking (control_of c.self.inside.place.me.0) n)) back (record { known = may.one; home = may.home; few = may.few })),
    )

pub invariant_of-self : goal.invariant_of-self
invariant_of-self c =
    let live = c.self.invariant.1 in
    let lt : c.args.number < (control_of c.self.inside.place.me.0).workers = subst (λ (p : Board). c.args.number < p.workers) (sym c.self.view_is) c.requires.one in
    let crew = live.crew in
    let eight = live.limits.eight in (
      c.split_seat-place.ensures.0 ∙ c.load.ensures.0 ∙ c.self.invariant.0,
      lives_on _ _ _ _ _ _ _ _ _ _ (ap (λ z. z.words) (c.split_seat-place.ensures.0 ∙ c.load.ensures.0))
          (has_sent _ _ _ _ _ _ _ _ _ live _ c.args.number (worker_at c.pass_word.result) (let is = c.pass_word.ensures in omega arith) (omega arith)
          (c.split_seat-place.ensures.2
          ∙ (λ i. (left_at_home (c.load.ensures.2 i).0, (c.load.ensures.2 i).1)))),
    )
