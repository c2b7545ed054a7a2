-- The interfaces over which packets to an entry can leave, by which the interface of a source is checked.
use Rattle.std.specs.Prelude.{ℕ, zero, suc, Bool, false, ◌&&◌, ◌==◌, List, [], ◌∷◌, length}
use Rattle.std.specs.List.{list_any}
use Rattle.fib_addr.specs.Prefixes.{Prefix, host}
use Rattle.fib_resolve.specs.Pairs.{chosen, cover, best}
use Rattle.fib_resolve.specs.Forwarding.{usable, limit}
use Rattle.fib_resolve.specs.declared.types.PathKind.{PathKind}
use Rattle.fib_resolve.specs.declared.types.PathKind.TheVariants as kinds
use Rattle.fib_resolve.specs.declared.types.Tables.{Tables}

-- a path of the entry leads over interface i, where f says which entries do
abbrev pub kind_leads : Tables → ℕ → (Prefix → Bool) → Prefix → PathKind → Bool
kind_leads S i f e (kinds.Attached j) = j == i
kind_leads S i f e (kinds.Hop a j) = j == i
kind_leads S i f e (kinds.Recursive a) = f (host a)
kind_leads S i f e kinds.Cover = f (cover S e.bits)
kind_leads S i f e kinds.Local = false
kind_leads S i f e kinds.Drop = false

-- one round: a usable path of the entry, of whatever preference, leads over the interface
abbrev pub leads_by : Tables → ℕ → (Prefix → Bool) → Prefix → Bool
leads_by S i f e = list_any (λ p. usable S e p && kind_leads S i f e p.kind) (chosen S e)

-- that many rounds from nothing
unfoldable pub leads_in : Tables → ℕ → ℕ → Prefix → Bool
leads_in S i zero e = false
leads_in S i (suc n) e = leads_by S i (leads_in S i n) e

-- the interface is one of the entry's reverse path interfaces; more rounds give the same
unfoldable pub is_reverse : Tables → ℕ → Prefix → Bool
is_reverse S i e = leads_in S i (limit S) e

-- a packet from that source may come over the interface
unfoldable pub strict : Tables → ℕ → ℕ → Bool
strict S a i = is_reverse S i (best S a)

-- the numbers below n
abbrev pub below : ℕ → List ℕ
below zero = []
below (suc n) = n ∷ below n

-- it may come over some interface
unfoldable pub loose : Tables → ℕ → Bool
loose S a = list_any (strict S a) (below (length S.interfaces))
