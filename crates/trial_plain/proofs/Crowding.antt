-- What is said of a change for which too few objects are free.
use Rattle.std.proofs.Common.{◌≡◌, ℕ, subst}
use Rattle.fib_resolve.specs.declared.types.Edit.{Edit}
use Rattle.fib_control.specs.Controls.{Control, TellsApply}
use Rattle.fib_control.specs.declared.errors.ApplyError.{ApplyError}
use Rattle.fib_control.specs.declared.errors.ApplyError.TheVariants as errors
use Rattle.trial_plain.specs.Crowding.{AreTooFew}

pub too_few : (c : Control) (e : Edit) (made free wanted : ℕ) (x : ApplyError) → x ≡ errors.Crowded free wanted → TellsApply c e x → AreTooFew c e (record { made = made; free = free; wanted = wanted })
too_few c e made free wanted x is tells =
    let t : TellsApply c e (errors.Crowded free wanted) = subst (λ (y : ApplyError). TellsApply c e y) is tells in
    record { taken = t.0; free = t.1; wanted = t.2; less = t.3 }
