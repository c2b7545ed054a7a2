-- Turns, one after the other.
use Rattle.std.specs.Prelude.{◌≡◌, false}
use Rattle.fib_addr.specs.Prefixes.{Prefix}
use Rattle.fib_stack_waking.specs.Waking.{is_among}
use Rattle.fib_control.specs.Controls.{Control, state_now}
use Rattle.fib_control.specs.Turning.{HaveTurned}

-- and whether a prefix forwarded at its last turn is as it was, where it had none since
pub record AreTurning (c d : Control) : Type 0 where
  pub turned : HaveTurned c d
  pub was : (e : Prefix) → is_among turned.had e ≡ false → (state_now d).was e ≡ (state_now c).was e
