-- Claims that are drawn once.
use Rattle.std.specs.Prelude.{◌≡◌, ℕ, List, length, nat_lt, if◌then◌else◌}
use Rattle.fib_core_lawful.specs.Claims.{times}

-- the list is the numbers below its length, each once, in any order
abbrev pub IsDrawnOnce : List ℕ → Type 0
IsDrawnOnce claims = (n : ℕ) → times n claims ≡ (if nat_lt n (length claims) then 1 else 0)
