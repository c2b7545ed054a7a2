-- What shelves and sinks promise.
use Rattle.std.specs.Prelude.{ℕ, ◌<◌, ◌≤◌, ◌≡◌, ◌-◌, ◌^◌, ◌++◌, [], List, Option, Some, None}

-- A fault came between two counts: the count rose, or it stands at the end of 64 bits.
abbrev pub HasRisen : ℕ → ℕ → Type 0
HasRisen before after = after < 2 ^ 64 - 1 → before < after

-- No fault came between two counts.
abbrev pub HasNotRisen : ℕ → ℕ → Type 0
HasNotRisen before after = (after ≤ before) × (after < 2 ^ 64 - 1)

-- The bytes were added at the end. Where it is told what there is now, it was told before.
abbrev pub Appends : Option (List ℕ) → Option (List ℕ) → List ℕ → Type 0
Appends before None bytes = Unit {0}
Appends None (Some after) bytes = ⊥
Appends (Some before) (Some after) bytes = after ≡ before ++ bytes

-- The bytes were taken from the front. Where it was told what there is, it still is.
abbrev pub Consumes : Option (List ℕ) → Option (List ℕ) → List ℕ → Type 0
Consumes None after bytes = Unit {0}
Consumes (Some before) None bytes = ⊥
Consumes (Some before) (Some after) bytes = before ≡ bytes ++ after

-- Nothing is left, where that is told.
abbrev pub IsAtEnd : Option (List ℕ) → Type 0
IsAtEnd None = Unit {0}
IsAtEnd (Some left) = left ≡ []

-- These are the bytes, where they are told.
abbrev pub Tells : Option (List ℕ) → List ℕ → Type 0
Tells None bytes = Unit {0}
Tells (Some told) bytes = told ≡ bytes
