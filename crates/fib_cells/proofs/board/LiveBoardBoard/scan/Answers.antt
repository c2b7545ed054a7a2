use Rattle.std.specs.Prelude.{slice_index, slice_index_or}
use Rattle.std.proofs.lemmas.Bool.{eq-eqb}
use Rattle.std.proofs.Common.{◌≡◌, ◌+◌, ◌-◌, ◌%◌, ◌<◌, false, arith, ap, sym, subst, ◌∙◌}
use Rattle.fib_core_board.specs.Boards.{Board}
use Rattle.fib_cells.specs.inner.Told.{control_of}
use Rattle.fib_cells.proofs.Moves.{may_look}
use Rattle.fib_cells.proofs.Sittings.{has_looked, lives_on}
use Rattle.fib_cells.proofs.board.LiveBoardBoard.scan.Goals as goal
use Rattle.fib_core_lawful.specs.Layout.{worker_at}

pub load-requires : goal.load-requires
load-requires c =
    let live = c.self.invariant.1 in (
      c.self.invariant.0,
      (let size = live.size in
          let lt : c.args.worker < (control_of c.self.inside.place.me.0).workers = subst (λ (p : Board). c.args.worker < p.workers) (sym c.self.view_is) c.requires in
          let crew = live.crew in
          let eight = live.limits.eight in
          let least = live.limits.least in
          let same = ap (λ t. t.words) c.self.invariant.0 in
          let is = c.pass_word.ensures in
          omega arith),
      may_look _ _ _ _ _ _ live.sat c.pass_word.ensures,
    )

pub invariant_of-self : goal.invariant_of-self
invariant_of-self c =
    let live = c.self.invariant.1 in (
      c.load.ensures.0 ∙ c.self.invariant.0,
      lives_on _ _ _ _ _ _ _ _ _ _ (ap (λ z. z.words) c.load.ensures.0) (has_looked _ _ _ _ _ _ _ _ _ live _ _ _ c.load.ensures.2.0),
    )

pub returns-clause-rests : goal.returns-clause-rests
returns-clause-rests c =
    λ home.
    let live = c.self.invariant.1 in
    let lt : c.args.worker < (control_of c.self.inside.place.me.0).workers = subst (λ (p : Board). c.args.worker < p.workers) (sym c.self.view_is) c.requires in
    let crew = live.crew in
    let eight = live.limits.eight in
    let is = c.pass_word.ensures in
    let back : c.args.worker ≡ worker_at c.pass_word.result = omega arith in
    let at_home = subst (λ (p : Board). slice_index_or p.out c.args.worker false ≡ false) (sym c.self.view_is) home in
    eq-eqb (c.load.result % 2) 0
    (ap (λ x. x % 2) (c.load.ensures.2.1 (omega arith) (subst (λ n. slice_index_or (control_of c.self.inside.place.me.0).desk.out n false ≡ false) back at_home))
    ∙ ap (λ rs. slice_index rs (worker_at c.pass_word.result) % 2) live.rested ∙ live.even (worker_at c.pass_word.result))
