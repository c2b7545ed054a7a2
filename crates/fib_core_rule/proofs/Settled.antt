-- What StandsFor gives: the conditions of settling, and of the first change.
use Rattle.std.proofs.Common.{◌≡◌, ◌≤◌, ◌*◌, ℕ, zero, suc, List, [], ◌∷◌, length, Some, ap, ◌∙◌, arith}
use Rattle.std.specs.Prelude.{Contains, slice_get}
use Rattle.fib_addr.specs.Prefixes.{Prefix, IsPrefix}
use Rattle.fib_resolve.specs.Pairs.{entries}
use Rattle.fib_resolve.specs.declared.types.Tables.{Tables}
use Rattle.fib_core.specs.Union.{Union}
use Rattle.fib_core.specs.StandsFor.{Thing, StandsFor, Stands}
use Rattle.fib_core_steady.specs.Names.{Names}
use Rattle.fib_core_steady.specs.Promise.{IsPromised}
use Rattle.fib_core_steady.specs.Undisturbed.{since}
use Rattle.fib_core_steady.proofs.Lists.{from_place}
use Rattle.fib_core_steady.proofs.Events.{asks_less}
use Rattle.fib_core_rule.proofs.Named.{names_of}
use Rattle.fib_core_rule.proofs.Stands.{stands_promised}

same_place : (n : ℕ) → n ≤ n
same_place n = omega arith

alone_in : (H : List Tables) (k : ℕ) (S : Tables) → slice_get H k ≡ Some S → (T : Tables) → Contains (S ∷ []) T → Contains (since H k) T
alone_in H k S at T (zero, lt, is) = from_place H k k T (same_place k) (at ∙ ap Some is)
alone_in H k S at T (suc j, lt, is) = absurd (omega (arith, lt))

pub stands_since : (H : List Tables) (k : ℕ) (S : Tables) → slice_get H k ≡ Some S → (u : Union) (names : Thing → ℕ) → u.retired ≡ [] → StandsFor u.cells names S → ((q : Prefix) → Contains (entries S) q → IsPrefix q) → (objects : ℕ) → length u.cells ≡ 16 * objects
    → IsPromised (since H k) (names_of names S) u
stands_since H k S at u names quiet stands fine objects long = asks_less (S ∷ []) (since H k) (alone_in H k S at) (names_of names S) u (stands_promised u names S quiet stands fine objects long)

-- the cells stand for the tables of a version: the promise holds from that version on
pub stands_at : (H : List Tables) (k : ℕ) (S : Tables) → slice_get H k ≡ Some S → (u : Union) (objects : ℕ) → length u.cells ≡ 16 * objects → Stands u S → (n : Names) × IsPromised (since H k) n u
stands_at H k S at u objects long may = (names_of may.names S, stands_since H k S at u may.names may.quiet may.stands may.prefixes objects long)
