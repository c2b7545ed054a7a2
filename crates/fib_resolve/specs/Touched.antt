-- Which prefixes a change of the tables touches.
use Rattle.std.specs.Prelude.{ℕ, Bool, true, false, not, ◌&&◌, ◌||◌, ◌==◌, List, ◌++◌, filter, Option, Some, None}
use Rattle.std.specs.List.{list_any, list_all}
use Rattle.std.specs.Set.{is_member, unique_keys}
use Rattle.fib_addr.specs.Prefixes.{Prefix, same_prefix}
use Rattle.fib_resolve.specs.Pairs.{pairs, entries, chosen, cover, same_pair}
use Rattle.fib_resolve.specs.Loops.{looped}
use Rattle.fib_resolve.specs.Forwarding.{is_up, is_met}
use Rattle.fib_resolve.specs.Resolution.{mac_of}
use Rattle.fib_resolve.specs.declared.pairs.Pair.{Pair}
use Rattle.fib_resolve.specs.declared.types.Need.{Need}
use Rattle.fib_resolve.specs.declared.types.PathKind.{PathKind}
use Rattle.fib_resolve.specs.declared.types.PathKind.TheVariants as kinds
use Rattle.fib_resolve.specs.declared.types.Tables.{Tables}

-- the prefix's pairs
abbrev pub pairs_of : Tables → Prefix → List Pair
pairs_of S e = filter (λ x. same_prefix e x.prefix) (pairs S)

-- both have the same pairs, in whatever order
abbrev pub same_pairs : List Pair → List Pair → Bool
same_pairs xs ys = list_all (is_member same_pair ys) xs && list_all (is_member same_pair xs) ys

abbrev pub differ : Bool → Bool → Bool
differ true b = not b
differ false b = b

abbrev pub same_mac : Option ℕ → Option ℕ → Bool
same_mac None None = true
same_mac None (Some n) = false
same_mac (Some m) None = false
same_mac (Some m) (Some n) = m == n

-- a Hop end with another MAC
abbrev pub other_mac : Tables → Tables → ℕ → ℕ → Bool
other_mac S T i a = not (same_mac (mac_of S i a) (mac_of T i a))

abbrev pub other_flag : Tables → Tables → ℕ → Bool
other_flag S T i = differ (is_up S i) (is_up T i)

-- the same path of the entry means something else: another flag, MAC, loop, need or cover
abbrev pub kind_changes : Tables → Tables → Prefix → Need → PathKind → Bool
kind_changes S T e need kinds.Drop = false
kind_changes S T e need kinds.Local = false
kind_changes S T e need (kinds.Attached i) = other_flag S T i || ((e.len == 32) && other_mac S T i e.bits)
kind_changes S T e need (kinds.Hop a i) = other_flag S T i || other_mac S T i a
kind_changes S T e need (kinds.Recursive a) = differ (looped S e a) (looped T e a) || differ (is_met S need a) (is_met T need a)
kind_changes S T e need kinds.Cover = not (same_prefix (cover S e.bits) (cover T e.bits))

-- the prefix's pairs differ, or a path of its chosen list, which is then the same in both, means something else
unfoldable pub is_touched : Tables → Tables → Prefix → Bool
is_touched S T e =
    not (same_pairs (pairs_of S e) (pairs_of T e)) || list_any (λ p. kind_changes S T e p.need p.kind) (chosen S e)

-- the touched prefixes, each once; each is effective before or after
unfoldable pub touched : Tables → Tables → List Prefix
touched S T = filter (is_touched S T) (unique_keys same_prefix (entries S ++ entries T))
