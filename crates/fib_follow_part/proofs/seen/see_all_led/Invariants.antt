use Rattle.std.proofs.Common.{◌≡◌, ◌<◌, ℕ, true, [], Some, slice_get}
use Rattle.std.specs.Prelude.{Contains}
use Rattle.fib_entries_rows.specs.inner.Looping.{Sees}
use Rattle.fib_follow_view.specs.declared.view.Anew.{Anew}
use Rattle.fib_follow_part.specs.inner.Searched.{is_led}
use Rattle.fib_follow_part.proofs.seen.see_all_led.Given as goal

abbrev pub invariant-changed : goal.invariant-changed
invariant-changed l = Sees [] l.fn.seen l.seen
    × ((i : ℕ) (x : Anew) → i < l.place → slice_get l.changed i ≡ Some x → is_led l.view l.in_any_case x.prefix ≡ true → Contains l.seen x.prefix)
