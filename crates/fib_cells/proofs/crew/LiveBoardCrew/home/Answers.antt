use Rattle.std.proofs.Common.{◌≡◌, [], arith, ap, sym, subst, ◌∙◌}
use Rattle.atomic_table.specs.Table.{Me}
use Rattle.fib_resolve.specs.declared.types.Tables.{Tables}
use Rattle.fib_core_lawful.specs.State.{View, control, taken_home}
use Rattle.fib_cells.specs.inner.Told.{control_of, worker_of, Becomes}
use Rattle.fib_cells.proofs.Moves.{may_home, may_recall}
use Rattle.fib_cells.proofs.Sittings.{same_table, has_come, lives_on}
use Rattle.fib_cells.proofs.crew.LiveBoardCrew.home.Goals as goal

pub join_seat-requires : goal.join_seat-requires
join_seat-requires c =
    let live = c.self.invariant.1 in (
      c.self.invariant.0,
      same_table _ _ (ap (λ s. s.id) c.seat.view_is ∙ c.requires ∙ sym (ap (λ s. s.id) c.self.view_is)) ∙ c.self.invariant.0,
      ap (λ m. m.1) c.seat.invariant.1.seat.sat,
      (let size = live.size in let same = ap (λ t. t.words) c.self.invariant.0 in omega arith),
      may_home _ 0 _ _ _ _ live.sat c.seat.invariant.1.seat.sat c.seat.invariant.1.rests,
    )

pub load-requires : goal.load-requires
load-requires c =
    let live = c.self.invariant.1 in (
      c.join_seat.ensures.0 ∙ c.self.invariant.0,
      (let size = live.size in let same = ap (λ t. t.words) c.self.invariant.0 in let is = c.version_word.ensures in omega arith),
      may_recall _ _ _ _ _
          (c.join_seat.ensures.2
          ∙ ap (λ l. (control (taken_home (control_of c.self.inside.place.me.0) (worker_of c.seat.inside.place.me.0)), l)) (ap (λ m. m.1) live.sat)
          ∙ ap (λ v. (control (control_of v), [])) (sym (ap (λ m. m.0) c.join_seat.ensures.2)))
          c.version_word.ensures,
    )

pub invariant_of-self : goal.invariant_of-self
invariant_of-self c =
    let live = c.self.invariant.1 in
    let seat = c.seat.invariant.1.seat in
    let come : control_of c.join_seat.new.seat.me.0 ≡ taken_home (control_of c.self.inside.place.me.0) (worker_of c.seat.inside.place.me.0) =
    ap (λ (m : Me Tables View). control_of m.0) c.join_seat.ensures.2 in (
      c.load.ensures.0 ∙ c.join_seat.ensures.0 ∙ c.self.invariant.0,
      lives_on _ _ _ _ _ _ _ _ _ _ (ap (λ z. z.words) (c.load.ensures.0 ∙ c.join_seat.ensures.0))
          (has_come _ _ _ _ _ _ _ _ _ live _ (worker_of c.seat.inside.place.me.0) _ _ _ seat.named seat.passes seat.small c.seat.invariant.1.even
          (let claims = seat.claims in omega arith)
          (subst (Becomes c.load.new.seat.me) come c.load.ensures.2.0)),
    )
