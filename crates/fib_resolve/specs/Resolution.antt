-- Where a packet ends: the way from entry to entry, the answer, and the possible ends.
use Rattle.std.specs.Prelude.{ℕ, zero, suc, Bool, ◌&&◌, ◌/◌, ◌%◌, ◌==◌, List, [], ◌∷◌, filter, flat_map, find, Option, Some, None}
use Rattle.std.specs.Prelude.{slice_get, option_map, if◌then◌else◌}
use Rattle.fib_addr.specs.Prefixes.{Prefix, host}
use Rattle.fib_resolve.specs.Pairs.{entries, chosen, cover, best}
use Rattle.fib_resolve.specs.Forwarding.{usable, limit}
use Rattle.fib_resolve.specs.Buckets.{wanted}
use Rattle.fib_resolve.specs.declared.types.Neighbor.{Neighbor}
use Rattle.fib_resolve.specs.declared.types.Path.{Path}
use Rattle.fib_resolve.specs.declared.types.PathKind.{PathKind}
use Rattle.fib_resolve.specs.declared.types.PathKind.TheVariants as kinds
use Rattle.fib_resolve.specs.declared.types.End.{End}
use Rattle.fib_resolve.specs.declared.types.End.TheVariants as answers
use Rattle.fib_resolve.specs.declared.types.Tables.{Tables}

abbrev pub is_neighbor : ℕ → ℕ → Neighbor → Bool
is_neighbor i a n = (n.interface == i) && (n.addr == a)

-- the MAC of the neighbor with this interface and address, whether or not it has an entry
abbrev pub mac_of : Tables → ℕ → ℕ → Option ℕ
mac_of S i a = option_map (λ n. n.mac) (find (is_neighbor i a) S.neighbors)

abbrev pub hop_end : Tables → ℕ → ℕ → End
hop_end S i a = answers.Hop i a (mac_of S i a)

-- an Attached path ends at the entry's own address, where that is one
abbrev pub attached_end : Tables → Prefix → ℕ → End
attached_end S e i = if e.len == 32 then hop_end S i e.bits else answers.Glean i

-- an entry on the way, with the kind of path that is taken there and its operands
pub record Step : Type 0 where
  pub entry : Prefix
  pub taken : PathKind

pub record Trip : Type 0 where
  pub steps : List Step
  pub end : End

abbrev pub stops : Prefix → PathKind → End → Trip
stops e k end = record { steps = record { entry = e; taken = k } ∷ []; end = end }

abbrev pub goes_on : Prefix → PathKind → Trip → Trip
goes_on e k trip = record { steps = record { entry = e; taken = k } ∷ trip.steps; end = trip.end }

-- one path is taken, where go is what follows; each further entry takes half the hash
abbrev pub take_kind : Tables → (Prefix → ℕ → Trip) → Prefix → ℕ → PathKind → Trip
take_kind S go e h kinds.Drop = stops e kinds.Drop answers.Drop
take_kind S go e h kinds.Local = stops e kinds.Local answers.Receive
take_kind S go e h (kinds.Attached i) = stops e (kinds.Attached i) (attached_end S e i)
take_kind S go e h (kinds.Hop a i) = stops e (kinds.Hop a i) (hop_end S i a)
take_kind S go e h (kinds.Recursive a) = goes_on e (kinds.Recursive a) (go (host a) (h / 2))
take_kind S go e h kinds.Cover = goes_on e kinds.Cover (go (cover S e.bits) (h / 2))

-- an entry without wanted paths drops
abbrev pub take_path : Tables → (Prefix → ℕ → Trip) → Prefix → ℕ → Option Path → Trip
take_path S go e h None = stops e kinds.Drop answers.Drop
take_path S go e h (Some p) = take_kind S go e h p.kind

-- the entries passed within that limit, and the end
unfoldable pub follow : Tables → ℕ → Prefix → ℕ → Trip
follow S zero e h = record { steps = []; end = answers.Drop }
follow S (suc n) e h = take_path S (follow S n) e h (slice_get (wanted S e) (h % 16))

-- the way of a packet for that address with that hash
unfoldable pub way : Tables → ℕ → ℕ → Trip
way S a h = follow S (limit S) (best S a) h

unfoldable pub resolve : Tables → ℕ → ℕ → End
resolve S a h = (way S a h).end

-- the end of a path that goes on nowhere
abbrev pub kind_end : Tables → Prefix → PathKind → List End
kind_end S e kinds.Local = answers.Receive ∷ []
kind_end S e (kinds.Attached i) = attached_end S e i ∷ []
kind_end S e (kinds.Hop a i) = hop_end S i a ∷ []
kind_end S e kinds.Drop = []
kind_end S e (kinds.Recursive a) = []
kind_end S e kinds.Cover = []

-- the ends of an entry's usable paths
abbrev pub entry_ends : Tables → Prefix → List End
entry_ends S e = flat_map (λ p. kind_end S e p.kind) (filter (usable S e) (chosen S e))

-- the possible ends: Drop, and those of all usable paths that go on nowhere
unfoldable pub ends : Tables → List End
ends S = answers.Drop ∷ flat_map (entry_ends S) (entries S)
