use Rattle.std.proofs.Common.{◌∙◌, arith, subst, sym}
use Rattle.trial_plain.specs.Seats.{IsHeld, IsRested}
use Rattle.trial_plain.proofs.Seating.{held_still, rested_by}
use Rattle.trial_plain.proofs.refused.hold_again.Goals as goal

pub hold-end-requires : goal.hold-end-requires
hold-end-requires c = rested_by 1 _ (omega arith) (c.in_ok-route.ensures ∙ c.requires)

pub go_on-requires : goal.go_on-requires
go_on-requires c = held_still _ _ _ (c.calm-held.ensures.seats ∙ c.in_ok-turn.ensures.seats) (c.hold-end.ensures.held 2 (rested_by 2 _ (omega arith) (c.in_ok-route.ensures ∙ c.requires)))

pub look_up-requires : goal.look_up-requires
look_up-requires c =
    let held = subst (IsHeld 2 c.hold-end.result) (sym (c.calm-held.ensures.seats ∙ c.in_ok-turn.ensures.seats)) (c.hold-end.ensures.held 2 (rested_by 2 _ (omega arith) (c.in_ok-route.ensures ∙ c.requires))) in
    subst (IsRested 1) (sym c.calm-ended.ensures.seats) (c.in_ok-record.ensures.rested 1 held)

pub returns : goal.returns
returns c =
    let held = subst (IsHeld 2 c.hold-end.result) (sym (c.calm-held.ensures.seats ∙ c.in_ok-turn.ensures.seats)) (c.hold-end.ensures.held 2 (rested_by 2 _ (omega arith) (c.in_ok-route.ensures ∙ c.requires))) in
    let none = c.in_ok-record.ensures.kept.queue ∙ c.calm-held.ensures.kept.queue ∙ c.in_ok-turn.ensures.none in
    (c.calm-ended.ensures.calm (c.in_ok-record.ensures.rested 1 held).home none).0
