-- Prefixes: the addresses whose first bits are given.
use Rattle.std.specs.Prelude.{◌≡◌, ℕ, Bool, ◌-◌, ◌*◌, ◌/◌, ◌%◌, ◌^◌, ◌<◌, ◌≤◌, ◌==◌, ◌&&◌}

-- the addresses whose first len bits are those of bits
pub record Prefix : Type 0 where
  pub bits : ℕ
  pub len : ℕ

-- how many addresses a prefix of this length contains
abbrev pub size_of : ℕ → ℕ
size_of len = 2 ^ (32 - len)

-- an address, a length of at most 32, and every bit past the length is zero
pub record IsPrefix (p : Prefix) : Type 0 where
  pub short : p.len ≤ 32
  pub fits : p.bits < 2 ^ 32
  pub cleared : p.bits % size_of p.len ≡ 0

abbrev pub contains : Prefix → ℕ → Bool
contains p a = (a / size_of p.len) == (p.bits / size_of p.len)

-- the prefix of that length that contains the address
abbrev pub masked : ℕ → ℕ → Prefix
masked a len = record { bits = a / size_of len * size_of len; len = len }

-- the prefix of that address alone
abbrev pub host : ℕ → Prefix
host a = record { bits = a; len = 32 }

abbrev pub same_prefix : Prefix → Prefix → Bool
same_prefix p q = (p.bits == q.bits) && (p.len == q.len)

-- the depth-th group of four bits from the left
abbrev pub nibble : ℕ → ℕ → ℕ
nibble a depth = a / 2 ^ (28 - 4 * depth) % 16
