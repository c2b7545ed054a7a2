-- The longest match among prefixes.
use Rattle.std.specs.Prelude.{◌≡◌, ◌≤◌, ℕ, true, ◌&&◌, List, [], ◌∷◌, ◌⊎◌, Contains, nat_lt, if◌then◌else◌}
use Rattle.fib_addr.specs.Prefixes.{Prefix, contains}

-- the prefix of every address
abbrev pub everything : Prefix
everything = record { bits = 0; len = 0 }

-- p where it contains the address and is longer, else q
unfoldable pub longer : ℕ → Prefix → Prefix → Prefix
longer a p q = if contains p a && nat_lt q.len p.len then p else q

-- the longest of these prefixes that contains the address, that of every address where none does
unfoldable pub longest : ℕ → List Prefix → Prefix
longest a [] = everything
longest a (p ∷ ps) = longer a p (longest a ps)

-- p is one of the prefixes, or that of every address; it contains the address, and no other that does is longer
pub record IsLongest (a : ℕ) (ps : List Prefix) (p : Prefix) : Type 0 where
  pub member : Contains ps p ⊎ (p ≡ everything)
  pub matches : contains p a ≡ true
  pub longest : (q : Prefix) → Contains ps q → contains q a ≡ true → q.len ≤ p.len
