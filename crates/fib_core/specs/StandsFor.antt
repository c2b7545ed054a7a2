-- When cells stand for tables: the objects that the tables' size counts have numbers, and each of their cells says
-- where resolution goes.
use Rattle.std.specs.Prelude.{◌≡◌, ℕ, zero, suc, ◌+◌, ◌*◌, ◌/◌, ◌<◌, ◌⊎◌, ◌==◌, List, [], length, filter, slice_get, Contains, Option}
use Rattle.std.specs.Prelude.{Some, None, nat_le, if◌then◌else◌}
use Rattle.std.specs.Set.{is_member}
use Rattle.fib_addr.specs.Prefixes.{Prefix, IsPrefix, size_of, host, same_prefix}
use Rattle.fib_addr.specs.Longest.{everything, longest}
use Rattle.fib_resolve.specs.Pairs.{entries, cover}
use Rattle.fib_resolve.specs.Buckets.{wanted}
use Rattle.fib_resolve.specs.Resolution.{mac_of}
use Rattle.fib_resolve.specs.Sizes.{plies, adjacencies}
use Rattle.fib_resolve.specs.declared.pairs.Adjacency.{Adjacency}
use Rattle.fib_resolve.specs.declared.types.Path.{Path}
use Rattle.fib_resolve.specs.declared.types.PathKind.{PathKind}
use Rattle.fib_resolve.specs.declared.types.PathKind.TheVariants as kinds
use Rattle.fib_resolve.specs.declared.types.Tables.{Tables}
use Rattle.fib_core.specs.declared.word.Word.{Word}
use Rattle.fib_core.specs.declared.word.Word.TheVariants as words
use Rattle.fib_core.specs.Walk.{word_at}
use Rattle.fib_core.specs.Union.{Union}

-- what an object is of the tables: a ply by its nibble path, an entry's balance, an adjacency
pub data Thing : Type 0 where
  ply_of : Prefix → Thing
  balance_of : Prefix → Thing
  adjacency_of : Adjacency → Thing

-- the size counts it
abbrev pub IsCounted : Tables → Thing → Type 0
IsCounted S (ply_of p) = Contains (plies S) p
IsCounted S (balance_of e) = Contains (entries S) e
IsCounted S (adjacency_of x) = Contains (adjacencies S) x

-- the addresses below the cell s of a ply
abbrev pub below : Prefix → ℕ → Prefix
below p s = record { bits = p.bits + s * size_of (p.len + 4); len = p.len + 4 }

-- the longest effective prefix that contains all addresses of this one
abbrev pub covering : Tables → Prefix → Prefix
covering S q = longest q.bits (filter (λ e. nat_le e.len q.len) (entries S))

-- a ply's cell: the deeper ply, where there is one, else the balance for all addresses below
abbrev pub ply_word : (Thing → ℕ) → Tables → Prefix → Word
ply_word names S q =
    if is_member same_prefix (plies S) q then words.ToPly (names (ply_of q)) else words.ToBalance (names (balance_of (covering S q)))

-- a bucket: the word of the wanted path
abbrev pub kind_word : (Thing → ℕ) → Tables → Prefix → PathKind → Word
kind_word names S e kinds.Drop = words.Drop
kind_word names S e kinds.Local = words.Receive
kind_word names S e (kinds.Attached i) =
    if e.len == 32 then words.ToAdjacency (names (adjacency_of (record { interface = i; next_hop = e.bits }))) else words.Glean i
kind_word names S e (kinds.Hop a i) = words.ToAdjacency (names (adjacency_of (record { interface = i; next_hop = a })))
kind_word names S e (kinds.Recursive a) = words.ToBalance (names (balance_of (host a)))
kind_word names S e kinds.Cover = words.ToBalance (names (balance_of (cover S e.bits)))

abbrev pub bucket_word : (Thing → ℕ) → Tables → Prefix → Option Path → Word
bucket_word names S e None = words.Drop
bucket_word names S e (Some p) = kind_word names S e p.kind

-- an adjacency: interface, next hop, and 0 or MAC + 1
abbrev pub mac_word : Option ℕ → Word
mac_word None = words.Plain 0
mac_word (Some mac) = words.Plain (suc mac)

abbrev pub adjacency_word : Tables → Adjacency → ℕ → Word
adjacency_word S x zero = words.Plain x.interface
adjacency_word S x (suc zero) = words.Plain x.next_hop
adjacency_word S x (suc (suc zero)) = mac_word (mac_of S x.interface x.next_hop)
adjacency_word S x (suc (suc (suc s))) = words.Drop

abbrev pub thing_word : (Thing → ℕ) → Tables → Thing → ℕ → Word
thing_word names S (ply_of p) s = ply_word names S (below p s)
thing_word names S (balance_of e) s = bucket_word names S e (slice_get (wanted S e) s)
thing_word names S (adjacency_of x) s = adjacency_word S x s

-- the numbers are different, the root is 0, each counted object has its words, and every other is free
pub record StandsFor (cells : List ℕ) (names : Thing → ℕ) (S : Tables) : Type 0 where
  pub root : names (ply_of everything) ≡ 0
  pub there : (x : Thing) → IsCounted S x → names x < length cells / 16
  pub apart : (x y : Thing) → IsCounted S x → IsCounted S y → names x ≡ names y → x ≡ y
  pub holds : (x : Thing) (s : ℕ) → IsCounted S x → s < 16 → word_at cells (names x) s ≡ thing_word names S x s
  pub others : (o : ℕ) → o < length cells / 16
      → ((x : Thing) × IsCounted S x × (names x ≡ o)) ⊎ ((s : ℕ) → s < 16 → word_at cells o s ≡ words.Drop)

-- the cells stand for the tables by some numbers, and nothing is retired
pub record Stands (u : Union) (S : Tables) : Type 0 where
  pub names : Thing → ℕ
  pub prefixes : (q : Prefix) → Contains (entries S) q → IsPrefix q
  pub quiet : u.retired ≡ []
  pub stands : StandsFor u.cells names S
