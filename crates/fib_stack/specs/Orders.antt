-- In which order prefixes are restacked.
use Rattle.std.specs.Prelude.{◌≡◌, ℕ, Bool, true, ◌||◌, ◌≤◌}
use Rattle.fib_addr.specs.Prefixes.{Prefix, same_prefix}
use Rattle.fib_stack.specs.States.{State}

-- what had its turn since the last change isn't queued, and nothing of a smaller rank is
pub record InOrder (rank : Prefix → ℕ) (s : State) (did : Prefix → Bool) : Type 0 where
  pub once : (d : Prefix) → did d ≡ true → s.queued d ≡ true → ⊥
  pub behind : (d x : Prefix) → did d ≡ true → s.queued x ≡ true → rank d ≤ rank x

abbrev pub did_also : Prefix → (Prefix → Bool) → Prefix → Bool
did_also e did d = same_prefix d e || did d
