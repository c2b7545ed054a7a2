-- How prefixes turn, and what is found of that. No contract of a public call rests on this.
use Rattle.std.specs.Prelude.{◌≡◌, ℕ, ◌==◌, ◌&&◌, not, nat_lt, Bool, true, false, List, [], ◌∷◌, Contains, filter}
use Rattle.std.specs.Prelude.{Option, Some, None, if◌then◌else◌}
use Rattle.std.specs.List.{list_any}
use Rattle.std.specs.Set.{is_member}
use Rattle.fib_addr.specs.Prefixes.{Prefix, contains, host, same_prefix}
use Rattle.fib_resolve.specs.declared.types.Neighbor.{Neighbor}
use Rattle.fib_resolve.specs.declared.types.Tables.{Tables}
use Rattle.fib_resolve_changes.specs.Looked.{attached_at}
use Rattle.fib_resolve_changes.specs.Sources.{HasNeighbor}
use Rattle.fib_follow_pairs.specs.declared.fresh.Fresh.{Fresh}
use Rattle.fib_follow_pairs.specs.declared.fresh.Fresh.TheVariants as made
use Rattle.fib_follow_looked.specs.Looks.{IsNearOf, IsOver}
use Rattle.fib_follow_looked.specs.declared.ask.Ask.{Ask}
use Rattle.fib_follow_looked.specs.declared.ask.Ask.TheVariants as asked
use Rattle.fib_follow_looked.specs.declared.shorts.Turn.{Turn}
use Rattle.fib_follow_looked.specs.declared.shorts.Turn.TheVariants as turns
use Rattle.fib_follow_looked.specs.declared.shorts.Turned.{Turned}

abbrev pub turn_rank : Turn → ℕ
turn_rank turns.Comes = 0
turn_rank turns.Goes = 1
turn_rank turns.Attaches = 2

abbrev pub same_interface : Option ℕ → Option ℕ → Bool
same_interface None None = true
same_interface None (Some j) = false
same_interface (Some i) None = false
same_interface (Some i) (Some j) = i == j

abbrev pub turn_by : Bool → Bool → Bool → Option Turn
turn_by false false same = None
turn_by false true same = Some turns.Comes
turn_by true false same = Some turns.Goes
turn_by true true true = None
turn_by true true false = Some turns.Attaches

abbrev pub is_made : Fresh → Bool
is_made (made.Entry f) = true
is_made (made.Gone e) = false

abbrev pub turned_at : Prefix → Option Turn → List Turned
turned_at q None = []
turned_at q (Some t) = record { prefix = q; how = t } ∷ []

abbrev pub is_turn : Turn → Turned → Prefix → Bool
is_turn how x q = (turn_rank x.how == turn_rank how) && same_prefix q x.prefix

abbrev pub is_beside : List Prefix → Prefix → Bool
is_beside others q = not (is_member same_prefix others q)

abbrev pub longer_match : Option Prefix → Option Prefix → Option Prefix
longer_match None b = b
longer_match (Some p) None = Some p
longer_match (Some p) (Some q) = if nat_lt p.len q.len then Some q else Some p

-- the prefix for whose turn is asked
abbrev pub subject : Ask → Prefix
subject (asked.Under q) = q
subject (asked.Inside c q) = q

abbrev pub is_near : ℕ → Neighbor → Prefix → Bool
is_near i n q = (n.interface == i) && same_prefix q (host n.addr)

-- the host of a neighbor in the prefix on the interface
abbrev pub near_inside : Tables → Prefix → Option ℕ → Prefix → Bool
near_inside T p None q = false
near_inside T p (Some i) q = list_any (λ n. is_near i n q) (filter (λ n. contains p n.addr) T.neighbors)

-- the hosts of the neighbors that a turned prefix can concern are among these
abbrev pub HasNear : Tables → Turned → List Prefix → Type 0
HasNear T x hosts = (c : Prefix) (i a : ℕ) → IsOver T x.prefix x.how c → attached_at T c ≡ Some i → contains x.prefix a ≡ true
    → HasNeighbor T i a → Contains hosts (host a)

abbrev pub HasNearEach : Tables → List Turned → List Prefix → Type 0
HasNearEach T xs hosts = (x : Turned) → Contains xs x → HasNear T x hosts

abbrev pub IsNearAny : Tables → List Turned → Prefix → Type 0
IsNearAny T xs q = (x : Turned) × Contains xs x × IsNearOf T x q
