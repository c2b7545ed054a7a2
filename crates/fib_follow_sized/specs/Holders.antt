-- What has to be known of the entries beside the changed ones: which Hop ends of these they have too.
use Rattle.std.specs.Prelude.{◌≡◌, ◌⊎◌, ◌↔◌, true, false, List, Contains}
use Rattle.fib_addr.specs.Prefixes.{Prefix}
use Rattle.fib_resolve.specs.Sizes.{adjacencies_of}
use Rattle.fib_resolve.specs.declared.pairs.Adjacency.{Adjacency}
use Rattle.fib_resolve.specs.declared.types.Tables.{Tables}
use Rattle.fib_follow_view.specs.Views.{Seen, is_changed}

-- a changed entry has that Hop end, before the change or after it
abbrev pub IsAsked : Seen → Tables → Tables → Adjacency → Type 0
IsAsked v S T x = (e : Prefix) × (is_changed v.changed e ≡ true) × (Contains (adjacencies_of S e) x ⊎ Contains (adjacencies_of T e) x)

-- an entry beside the changed ones has it
abbrev pub IsBeside : Seen → Tables → Adjacency → Type 0
IsBeside v S x = (e : Prefix) × (is_changed v.changed e ≡ false) × Contains (adjacencies_of S e) x

-- of the Hop ends that changed entries have, exactly those are held that entries beside them have too
abbrev pub AreHolders : Seen → Tables → Tables → List Adjacency → Type 0
AreHolders v S T held = (x : Adjacency) → IsAsked v S T x → Contains held x ↔ IsBeside v S x
