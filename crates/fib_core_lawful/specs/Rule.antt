-- The rule over a list of parts: the frame with them, and what speaks of all views at once.
use Rattle.std.specs.Prelude.{ℕ, List}
use Rattle.fib_core_lawful.specs.State.{View}
use Rattle.fib_core_lawful.specs.Frame.{Parts, Rule}
use Rattle.fib_core_lawful.specs.Claims.{IsClaimed, IsSeats}

pub record Holds (P : Parts) (words : List ℕ) (views : List View) : Type 0 where
  pub rule : Rule P words views
  pub claims : IsClaimed words views
  pub seats : IsSeats views rule.0.desk.out
