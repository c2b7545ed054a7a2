-- What settling does to a quiet control, and when it may be done.
use Rattle.std.proofs.Common.{◌≡◌, ℕ, ◌<◌, ◌+◌, ◌∙◌, length, ap, arith, refl, subst, sym}
use Rattle.std.specs.Prelude.{Err, IfErr, IsOk, Ok, OnErr, OnOk, Result}
use Rattle.fib_plane.specs.Planes.{Plane}
use Rattle.fib_control.specs.Controls.{Control, IsBusy, IsQuiet, IsSettled}
use Rattle.fib_control.specs.declared.errors.Busy.{Busy}

-- settling is tried on what is quiet: it stays so
pub quiet_after : {A E : Type 0} (r : Result A E) (c d : Control) → OnOk r (IsSettled c d) → OnErr r (d ≡ c) → IsQuiet c → IsQuiet d
quiet_after (Ok a) c d settled same q = record {
  queued = ap (λ (x : Control). x.queue) settled.others ∙ q.queued;
  deferred = ap (λ (x : Control). x.late) settled.others ∙ q.deferred;
  retired = ap (λ (p : Plane). p.board.union.retired) settled.plane ∙ q.retired;
}
quiet_after (Err e) c d settled same q = subst IsQuiet (sym same) q

pub quiet_settles : (r : Result ℕ Busy) (c : Control) → IfErr r (λ b. IsBusy b c) → IsQuiet c → IsOk r
quiet_settles (Ok n) c busy q = refl
quiet_settles (Err b) c busy q =
    let queued = busy.queued ∙ ap length q.queued in
    let deferred = busy.deferred ∙ ap length q.deferred in
    let retired = busy.retired ∙ ap length q.retired in
    let some = busy.some in
    absurd (omega (arith, queued, deferred, retired, some))
