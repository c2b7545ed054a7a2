-- Who is looked at as tables change: what changes name, which prefixes that can cover turn, and whose hosts are to be found for that.
use Rattle.std.specs.Prelude.{◌≡◌, ◌≢◌, ◌⊎◌, ◌↔◌, ◌<◌, ◌≤◌, ◌^◌, ◌||◌, ℕ, Bool, true, false, List, Contains, Some}
use Rattle.std.specs.List.{list_any}
use Rattle.std.specs.Set.{is_member}
use Rattle.fib_addr.specs.Prefixes.{Prefix, host, contains, same_prefix}
use Rattle.fib_cover.specs.Covers as covers
use Rattle.fib_resolve.specs.Pairs.{attached_by, cover, short_prefixes}
use Rattle.fib_resolve.specs.declared.types.Tables.{Tables}
use Rattle.fib_resolve_changes.specs.Affected.{has_hop}
use Rattle.fib_resolve_changes.specs.Differ.{Differ}
use Rattle.fib_resolve_changes.specs.Looked.{AreLooked, IsAbove, IsHosted, attached_at}
use Rattle.fib_resolve_changes.specs.Named.{hop_in, near_in, own_in}
use Rattle.fib_resolve_changes.specs.Sources.{ArePrefixes, HasNeighbor, all_hops}
use Rattle.fib_resolve_changes.specs.declared.change.Change.{Change}
use Rattle.fib_resolve_changes.specs.declared.change.Change.TheVariants as changes
use Rattle.fib_entries_rows.specs.Known.{Known, StandsFor}
use Rattle.fib_follow_looked.specs.declared.ask.Ask.{Ask}
use Rattle.fib_follow_looked.specs.declared.ask.Ask.TheVariants as asked
use Rattle.fib_follow_looked.specs.declared.named.Named.{Named}
use Rattle.fib_follow_looked.specs.declared.shorts.Shorts.{Shorts}
use Rattle.fib_follow_looked.specs.declared.shorts.Turn.{Turn}
use Rattle.fib_follow_looked.specs.declared.shorts.Turn.TheVariants as turns
use Rattle.fib_follow_looked.specs.declared.shorts.Turned.{Turned}

-- a neighbor on the interface to which its cover attaches it is an address
abbrev pub AreNear : Tables → Type 0
AreNear T = ArePrefixes T → (i a : ℕ) → HasNeighbor T i a → attached_by T a ≡ Some i → a < 2 ^ 32

-- the entries stand for the tables before, from which those after differ at most where the changes say; and neighbors that count
-- afterwards are addresses
pub record IsBefore (v : Known) (list : List Change) (S T : Tables) : Type 0 where
  pub stands : StandsFor v S
  pub differ : Differ list S T
  pub near : AreNear T

-- an address that comes or goes has a length of at most 32
abbrev pub IsShortChange : Change → Type 0
IsShortChange (changes.Address a) = a.len ≤ 32
IsShortChange (changes.Flag i) = Unit {0}
IsShortChange (changes.Neighbor i a) = Unit {0}
IsShortChange (changes.Route prefix source) = Unit {0}

-- base pairs of the prefix can be others, or it is the host of an address that can be a next hop or a neighbor otherwise
abbrev pub IsNamed : List Change → Tables → Tables → Prefix → Type 0
IsNamed list S T q = (own_in list q ≡ true) ⊎ ((a : ℕ) × (q ≡ host a) × ((hop_in list S T a || near_in list a) ≡ true))

abbrev pub led_at : Tables → ℕ → Change → Bool
led_at T a (changes.Route prefix source) = has_hop prefix source T.routes a
led_at T a (changes.Flag i) = false
led_at T a (changes.Address b) = false
led_at T a (changes.Neighbor i b) = false

-- exactly what the changes name; and the hosts of the next hops that the named routes have afterwards
pub record AreNamed (list : List Change) (S T : Tables) (x : Named) : Type 0 where
  pub prefixes : (q : Prefix) → Contains x.prefixes q ↔ IsNamed list S T q
  pub good : covers.ArePrefixes x.prefixes
  pub hops : (a : ℕ) → Contains x.hops (host a) ↔ (list_any (led_at T a) list ≡ true)

-- the prefix can cover before or afterwards alone, or attaches otherwise what it covers
abbrev pub IsTurn : Tables → Tables → Prefix → Turn → Type 0
IsTurn S T q turns.Comes = Contains (short_prefixes T) q × (Contains (short_prefixes S) q → ⊥)
IsTurn S T q turns.Goes = Contains (short_prefixes S) q × (Contains (short_prefixes T) q → ⊥)
IsTurn S T q turns.Attaches = Contains (short_prefixes S) q × Contains (short_prefixes T) q × (attached_at S q ≢ attached_at T q)

abbrev pub AreTurns : Tables → Tables → List Turned → Type 0
AreTurns S T xs = (x : Turned) → Contains xs x ↔ IsTurn S T x.prefix x.how

-- exactly the prefixes that turn
pub record AreShorts (S T : Tables) (x : Shorts) : Type 0 where
  pub turned : AreTurns S T x.turned.items
  pub come : (q : Prefix) → Contains x.come q ↔ IsTurn S T q turns.Comes
  pub gone : (q : Prefix) → Contains x.gone q ↔ IsTurn S T q turns.Goes
  pub good : ArePrefixes T

-- whose hosts are to be found: those under a prefix that goes or attaches otherwise, and those in one that comes under the one above it
abbrev pub IsAsk : Tables → Tables → Ask → Type 0
IsAsk S T (asked.Under q) = IsTurn S T q turns.Goes ⊎ IsTurn S T q turns.Attaches
IsAsk S T (asked.Inside c q) = IsTurn S T q turns.Comes × IsAbove S q c

abbrev pub AreAsks : Tables → Tables → List Ask → Type 0
AreAsks S T xs = (x : Ask) → Contains xs x ↔ IsAsk S T x

abbrev pub IsAsked : Tables → Ask → ℕ → Type 0
IsAsked S (asked.Under q) a = cover S a ≡ q
IsAsked S (asked.Inside c q) a = (cover S a ≡ c) × (contains q a ≡ true)

-- each host for which is asked is among these, which may be more
abbrev pub AreAnswered : Tables → List Ask → List Prefix → Type 0
AreAnswered S asks hosts = (x : Ask) (a : ℕ) → Contains asks x → IsHosted S a → IsAsked S x a → Contains hosts (host a)

-- the prefix that decides how addresses in a turned one are attached afterwards: itself, or where it goes that above it
abbrev pub IsOver : Tables → Prefix → Turn → Prefix → Type 0
IsOver T q turns.Comes c = q ≡ c
IsOver T q turns.Attaches c = q ≡ c
IsOver T q turns.Goes c = IsAbove T q c

-- the host of a neighbor in a turned prefix, on the interface to which such addresses are attached afterwards
abbrev pub IsNearOf : Tables → Turned → Prefix → Type 0
IsNearOf T x q =
    (c : Prefix) × (i : ℕ) × (a : ℕ) × IsOver T x.prefix x.how c × (attached_at T c ≡ Some i) × (contains x.prefix a ≡ true)
    × HasNeighbor T i a × (q ≡ host a)

abbrev pub IsMoved : Tables → Tables → Prefix → Type 0
IsMoved S T q = (x : Turned) × IsTurn S T x.prefix x.how × IsNearOf T x q

-- all that are to be looked at are among these
abbrev pub AreAllLooked : List Change → Tables → Tables → List Prefix → Type 0
AreAllLooked list S T looked = AreLooked list S T (is_member same_prefix looked) (is_member same_prefix looked)

-- where the prefix is a host, whether it is among these tells whether its address is a next hop
abbrev pub IsHopKnown : Tables → List Prefix → Prefix → Type 0
IsHopKnown T hops e = e.len ≡ 32 → Contains hops e ↔ Contains (all_hops T) e.bits

abbrev pub AreHops : Tables → List Prefix → List Prefix → Type 0
AreHops T looked hops = (e : Prefix) → Contains looked e → IsHopKnown T hops e
