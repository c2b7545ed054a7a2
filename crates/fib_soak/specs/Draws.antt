-- The draws of the generator: a linear congruential generator of 64 bits.
use Rattle.std.specs.Prelude.{ℕ, zero, suc, ◌+◌, ◌*◌, ◌/◌, ◌%◌, ◌^◌}

-- the state after one draw
unfoldable pub next : ℕ → ℕ
next x = (6364136223846793005 * x + 1442695040888963407) % 2 ^ 64

-- what a draw from state x gives: a number below n, and a number of 32 bits
unfoldable pub draw : ℕ → ℕ → ℕ
draw n x = next x / 2 ^ 33 % n

unfoldable pub wide : ℕ → ℕ
wide x = next x / 2 ^ 32

-- f, done n times from x
unfoldable pub repeated : (ℕ → ℕ) → ℕ → ℕ → ℕ
repeated f zero x = x
repeated f (suc n) x = f (repeated f n x)

-- the state after so many draws
abbrev pub after_2 : ℕ → ℕ
after_2 x = next (next x)

abbrev pub after_3 : ℕ → ℕ
after_3 x = next (after_2 x)

abbrev pub after_4 : ℕ → ℕ
after_4 x = next (after_3 x)
