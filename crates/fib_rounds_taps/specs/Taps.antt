-- What taps promise.
use Rattle.std.specs.Prelude.{ℕ, ◌≡◌, ◌++◌, List, Option, Some, None, take}
use Rattle.fib_core_results.specs.declared.record.Record.{Record}

-- results, each with its packet's number
abbrev pub Pairs : Type 0
Pairs = List (ℕ × Record)

-- These were taken. Where it is told what was taken by now, it was told before.
abbrev pub Takes : Option Pairs → Option Pairs → Pairs → Type 0
Takes before None pairs = Unit {0}
Takes None (Some after) pairs = ⊥
Takes (Some before) (Some after) pairs = after ≡ before ++ pairs

-- the first of these were taken, all or some or none
abbrev pub TakesSome : Option Pairs → Option Pairs → Pairs → Type 0
TakesSome before after pairs = (n : ℕ) × Takes before after (take n pairs)
