-- Which needs are met, which paths are usable, and which entries forward.
use Rattle.std.specs.Prelude.{ℕ, zero, suc, Bool, true, false, not, ◌&&◌, ◌+◌, List, [], ◌∷◌, length, Option, Some, None, slice_get}
use Rattle.std.specs.List.{list_any}
use Rattle.fib_addr.specs.Prefixes.{Prefix, host}
use Rattle.fib_resolve.specs.Pairs.{entries, chosen, is_derived, cover}
use Rattle.fib_resolve.specs.Loops.{looped}
use Rattle.fib_resolve.specs.declared.types.Interface.{Interface}
use Rattle.fib_resolve.specs.declared.types.Path.{Path}
use Rattle.fib_resolve.specs.declared.types.PathKind.{PathKind}
use Rattle.fib_resolve.specs.declared.types.PathKind.TheVariants as kinds
use Rattle.fib_resolve.specs.declared.types.Need.{Need}
use Rattle.fib_resolve.specs.declared.types.Need.TheVariants as needs
use Rattle.fib_resolve.specs.declared.types.Tables.{Tables}

abbrev pub up_of : Option Interface → Bool
up_of None = false
up_of (Some i) = i.up

abbrev pub is_up : Tables → ℕ → Bool
is_up S i = up_of (slice_get S.interfaces i)

abbrev pub kind_ends : PathKind → Bool
kind_ends (kinds.Attached i) = true
kind_ends (kinds.Hop a i) = true
kind_ends kinds.Drop = false
kind_ends kinds.Local = false
kind_ends (kinds.Recursive a) = false
kind_ends kinds.Cover = false

-- one path, of kind Attached or Hop
abbrev pub is_attached_list : List Path → Bool
is_attached_list [] = false
is_attached_list (p ∷ []) = kind_ends p.kind
is_attached_list (p ∷ q ∷ ps) = false

-- the need of a path with this next hop is met; a down interface doesn't matter here
abbrev pub is_met : Tables → Need → ℕ → Bool
is_met S needs.Any a = true
is_met S needs.Host a = not (is_derived S (host a))
is_met S needs.Attached a = is_attached_list (chosen S (host a))

-- a path of the entry is usable, where f says which entries forward
abbrev pub usable_kind : Tables → (Prefix → Bool) → Prefix → Need → PathKind → Bool
usable_kind S f e need (kinds.Attached i) = is_up S i
usable_kind S f e need (kinds.Hop a i) = is_up S i
usable_kind S f e need kinds.Local = true
usable_kind S f e need kinds.Drop = false
usable_kind S f e need (kinds.Recursive a) = not (looped S e a) && (is_met S need a && f (host a))
usable_kind S f e need kinds.Cover = f (cover S e.bits)

abbrev pub usable_by : Tables → (Prefix → Bool) → Prefix → Path → Bool
usable_by S f e p = usable_kind S f e p.need p.kind

-- one round: the entry forwards where f says which entries do
unfoldable pub forwards_by : Tables → (Prefix → Bool) → Prefix → Bool
forwards_by S f e = list_any (usable_by S f e) (chosen S e)

-- that many rounds from nothing
unfoldable pub forwards_in : Tables → ℕ → Prefix → Bool
forwards_in S zero e = false
forwards_in S (suc n) e = forwards_by S (forwards_in S n) e

-- the number of effective entries plus one
unfoldable pub limit : Tables → ℕ
limit S = length (entries S) + 1

-- the entry has a usable path; more rounds give the same
unfoldable pub forwards : Tables → Prefix → Bool
forwards S e = forwards_in S (limit S) e

unfoldable pub usable : Tables → Prefix → Path → Bool
usable S e p = usable_by S (forwards S) e p

abbrev pub usable_one : Tables → Prefix → Option Path → Bool
usable_one S e None = false
usable_one S e (Some p) = usable S e p

-- the path at that place of the chosen list is there and usable
abbrev pub usable_at : Tables → Prefix → ℕ → Bool
usable_at S e place = usable_one S e (slice_get (chosen S e) place)
