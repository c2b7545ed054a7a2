use Rattle.std.proofs.Common.{◌≡◌, refl, sym, ap, ◌∙◌, subst, length}
use Rattle.std.proofs.lemmas.List.{length-map}
use Rattle.fib_plane.specs.Planes.{Plane}
use Rattle.fib_plane.specs.Views.{copy_seen}
use Rattle.fib_control.specs.Controls.{Control}
use Rattle.fib_control.specs.inner.Standing.{IsStanding}
use Rattle.fib_control.proofs.Kept.{may_settle, settled_standing}
use Rattle.fib_control.proofs.Turned.{empty_by}
use Rattle.fib_control.proofs.control.Control.mark_settled.Goals as goal

pub settle_version-requires : goal.settle_version-requires
settle_version-requires g c =
    let calm = c.is_calm.ensures.yes c.if-not-is_calm.false in
    may_settle _ c.self.invariant.0
    (record { plane = c.self.inside.shared.sound; told = c.tells.ensures.told; seen = c.tells.ensures.seen; rows = c.tells-2.ensures; used = c.tells-3.ensures })
    (record { queued = empty_by _ _ c.len.ensures calm.0; deferred = empty_by _ _ c.deferred.ensures calm.1; retired = empty_by _ _ (c.retired.ensures ∙ length-map _ copy_seen) calm.2 })

pub invariant_of-self : goal.invariant_of-self
invariant_of-self g c =
    let calm = c.is_calm.ensures.yes c.if-not-is_calm.false in (
      subst (λ (p : Plane). IsStanding (record { setup = c.self.inside.config; entries = c.self.inside.entries; plane = p; rows = c.self.inside.table.rows.members; plies = c.self.inside.table.plies; known = c.self.inside.stack.ledger.rows; late = c.self.inside.stack.late.members; queue = c.self.inside.queue.members; done = c.self.inside.done.items }))
          (sym c.settle_version.ensures)
          (settled_standing _ c.self.invariant.0
          (record { plane = c.self.inside.shared.sound; told = c.tells.ensures.told; seen = c.tells.ensures.seen; rows = c.tells-2.ensures; used = c.tells-3.ensures })
          (record { queued = empty_by _ _ c.len.ensures calm.0; deferred = empty_by _ _ c.deferred.ensures calm.1; retired = empty_by _ _ (c.retired.ensures ∙ length-map _ copy_seen) calm.2 })),
      c.self.invariant.1,
    )
