-- Sets of prefixes as a look-up by length and first bits, and which plies a set needs.
use Rattle.std.specs.Prelude.{◌≡◌, ℕ, ◌+◌, ◌*◌, ◌/◌, ◌^◌, ◌≤◌, Option, Some}
use Rattle.fib_core_promise.specs.Matches.{best_block}

-- the object of the prefix of this length with these first bits
abbrev pub Look : Type 0
Look = ℕ → ℕ → Option ℕ

-- a prefix longer than 4 d bits lies in the block w of depth d
abbrev pub Needs : Look → ℕ → ℕ → Type 0
Needs look d w = (j : ℕ) × (b : ℕ) × (o : ℕ) × (4 * d + j + 1 ≤ 32) × (b / 2 ^ (j + 1) ≡ w) × (look (4 * d + j + 1) b ≡ Some o)

-- o is the object of the longest prefix that contains the address
abbrev pub IsAnswer : Look → ℕ → ℕ → Type 0
IsAnswer look a o = best_block look 32 a ≡ Some o
