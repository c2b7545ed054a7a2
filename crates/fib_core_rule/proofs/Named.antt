-- The names of steady traffic, from the numbers for which cells stand for tables.
use Rattle.std.specs.Prelude.{ℕ, ◌/◌, ◌==◌, find, Option, Some, None, if◌then◌else◌}
use Rattle.std.specs.Set.{is_member}
use Rattle.fib_addr.specs.Prefixes.{Prefix, size_of, same_prefix}
use Rattle.fib_resolve.specs.Pairs.{entries}
use Rattle.fib_resolve.specs.Sizes.{plies}
use Rattle.fib_resolve.specs.declared.types.Tables.{Tables}
use Rattle.fib_core.specs.StandsFor.{Thing, ply_of, balance_of}
use Rattle.fib_core_steady.specs.Names.{Names}

-- the ply that has this number
abbrev pub ply_at : (Thing → ℕ) → Tables → ℕ → Option Prefix
ply_at names S x = find (λ p. names (ply_of p) == x) (plies S)

abbrev pub depth_of : Option Prefix → ℕ
depth_of None = 0
depth_of (Some p) = p.len / 4

abbrev pub path_of : Option Prefix → ℕ
path_of None = 0
path_of (Some p) = p.bits / size_of p.len

abbrev pub names_of : (Thing → ℕ) → Tables → Names
names_of names S = record {
  depth = λ x. depth_of (ply_at names S x);
  value = λ x. path_of (ply_at names S x);
  balance = λ e. if is_member same_prefix (entries S) e then Some (names (balance_of e)) else None;
}
