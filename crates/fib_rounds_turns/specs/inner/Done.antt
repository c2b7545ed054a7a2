-- What a line's turn made of a control plane, of what is kept of the script and of what is printed.
use Rattle.std.specs.Prelude.{ℕ, ◌≡◌, ◌≤◌, ◌+◌, ◌++◌, List, Result, OnOk}
use Rattle.std.specs.declared.alloc.AllocError.{AllocError}
use Rattle.fib_control.specs.Controls.{Control}
use Rattle.fib_rounds_turns.specs.Routers.{HasGrown, KeepsCrew, Progress, Router, Stands, applied_in, router_of}
use Rattle.fib_rounds_turns.specs.Turns.{Turn}

-- from the router r, whose turn is t
pub record HasTurned {X : Type 0} (r : Router) (t : Turn) (c d : Control) (q : Progress) (old new : List ℕ)
    (result : Result X AllocError) : Type 0 where
  pub stands : Stands d r t.0
  pub grown : HasGrown c d
  pub few : applied_in d ≤ applied_in c + 1
  pub keeps : KeepsCrew c d
  pub done : OnOk result ((router_of d q ≡ t.0) × (new ≡ old ++ t.1))
