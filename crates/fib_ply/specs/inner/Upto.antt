-- The last row that stands no later than a block of addresses does, and how far a prefix and a block begin alike.
use Rattle.std.specs.Prelude.{◌≡◌, ℕ, ◌+◌, ◌-◌, ◌*◌, ◌/◌, ◌^◌, ◌<◌, ◌≤◌, Option, Some, None}
use Rattle.fib_addr.specs.Prefixes.{Prefix, IsPrefix}
use Rattle.fib_ply.specs.Rows.{rank}
use Rattle.fib_ply.specs.declared.rows.Row.{Row}

-- where the block of the first n bits b stands among rows
abbrev pub place : ℕ → ℕ → ℕ
place n b = 64 * (b * 2 ^ (32 - n)) + n

pub record IsLast (f : Prefix → Option ℕ) (n b : ℕ) (r : Row) : Type 0 where
  pub prefix : IsPrefix r.prefix
  pub there : f r.prefix ≡ Some r.object
  pub before : rank r ≤ place n b
  pub last : (m c o : ℕ) → m ≤ 32 → f (record { bits = c * 2 ^ (32 - m); len = m }) ≡ Some o → place m c ≤ place n b → place m c ≤ rank r

-- no prefix stands before the block
abbrev pub HasNone : (Prefix → Option ℕ) → ℕ → ℕ → Type 0
HasNone f n b = (m c : ℕ) → m ≤ 32 → place m c ≤ place n b → f (record { bits = c * 2 ^ (32 - m); len = m }) ≡ None

-- the prefix is that long, and begins with these bits
abbrev pub Begins : Prefix → ℕ → ℕ → Type 0
Begins p m c = (m ≤ p.len) × (p.bits / 2 ^ (32 - m) ≡ c)

-- m is the greatest length up to which both begin alike, and c are these bits
pub record IsCommon (p : Prefix) (n b m c : ℕ) : Type 0 where
  pub within : m ≤ n
  pub part : c ≡ b / 2 ^ (n - m)
  pub alike : Begins p m c
  pub greatest : (k : ℕ) → m < k → k ≤ n → Begins p k (b / 2 ^ (n - k)) → ⊥
