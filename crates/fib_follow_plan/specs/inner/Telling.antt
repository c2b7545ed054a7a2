-- How the features that entries will have are gathered. No contract of a public call rests on this.
use Rattle.std.specs.Prelude.{◌≡◌, ◌⊎◌, ◌↔◌, ◌&&◌, ◌<◌, ◌≤◌, not, Bool, true, false, List, Contains, Some, map, if◌then◌else◌}
use Rattle.fib_addr.specs.Longest.{everything}
use Rattle.fib_addr.specs.Prefixes.{Prefix, contains, same_prefix}
use Rattle.fib_cover.specs.Covers.{is_inside}
use Rattle.fib_entries_rows.specs.Known.{prefix_of, row_of}
use Rattle.fib_entries_rows.specs.Rows.{Row}
use Rattle.fib_follow_features.specs.FoundBy.{cover_among, features_of, held_list, pair_features}
use Rattle.fib_follow_features.specs.Holders.{Holders, IsFound}
use Rattle.fib_follow_features.specs.declared.feature.Feature.TheVariants as features
use Rattle.fib_follow_view.specs.Views.{Seen, is_changed}
use Rattle.fib_follow_view.specs.declared.view.Anew.{Anew}
use Rattle.fib_follow_view.specs.inner.Told.{are_some}
use Rattle.fib_follow_plan.specs.Noted.{IsListed, features_before}
use Rattle.fib_follow_plan.specs.declared.covers.Covers.{Covers}
use Rattle.fib_follow_plan.specs.declared.entry.Renoted.{Renoted}

-- it has pairs, or it has none
abbrev pub is_so : Bool → Anew → Bool
is_so is x = if is then are_some x.pairs else not (are_some x.pairs)

-- that prefix, where this is so
abbrev pub has_so : Bool → Anew → Prefix → Bool
has_so is x q = is_so is x && same_prefix q x.prefix

-- the prefixes of those made anew that have pairs, or that have none
abbrev pub AreSo : Bool → List Anew → List Prefix → Type 0
AreSo is changed set = (q : Prefix) → Contains set q ↔ (x : Anew) × Contains changed x × (x.prefix ≡ q) × (are_some x.pairs ≡ is)

-- those of before that don't go, and those that have pairs
abbrev pub IsMerged : List Prefix → Covers → List Prefix → Type 0
IsMerged order covers after = (q : Prefix) → Contains after q ↔ (Contains order q × (Contains covers.gone q → ⊥)) ⊎ Contains covers.come q

-- the prefixes of all entries afterwards
abbrev pub IsOrder : Seen → Covers → List Prefix → Type 0
IsOrder v covers after = IsMerged (map prefix_of v.before.rows) covers after

-- its new features are those of what was made anew
abbrev pub IsOfAnew : Seen → List Prefix → Renoted → Type 0
IsOfAnew v after y =
    (x : Anew) × Contains v.changed x × (x.prefix ≡ y.prefix) × (y.new.items ≡ pair_features x.prefix (cover_among after x.prefix) x.pairs)

-- its new features are those of its row, under the cover of afterwards
abbrev pub IsOfRow : Seen → List Prefix → Renoted → Type 0
IsOfRow v after y =
    (is_changed v.changed y.prefix ≡ false) × (r : Row) × (row_of v.before.rows y.prefix ≡ Some r)
    × (y.new.items ≡ features_of r.prefix (cover_among after r.prefix) (map (held_list v.before.lists) r.pairs))

abbrev pub IsGood : Seen → Covers → Renoted → Type 0
IsGood v covers y = (after : List Prefix) → IsOrder v covers after → IsOfAnew v after y ⊎ IsOfRow v after y

-- its old features are those of its row
abbrev pub IsOfBefore : Seen → Renoted → Type 0
IsOfBefore v y = y.old.items ≡ features_before v.before.lists (map prefix_of v.before.rows) (row_of v.before.rows y.prefix)

-- only such come, and all else stays
pub record Grows (v : Seen) (covers : Covers) (old new : List Renoted) : Type 0 where
  pub more : (y : Renoted) → Contains old y → Contains new y
  pub good : (y : Renoted) → Contains new y → Contains old y ⊎ IsGood v covers y
  pub was : (y : Renoted) → Contains new y → Contains old y ⊎ IsOfBefore v y

abbrev pub AreAnew : List Anew → List Renoted → Type 0
AreAnew changed list = (x : Anew) → Contains changed x → IsListed list x.prefix

-- where the prefix stays an entry as it was, it is listed
abbrev pub IsSeen : Seen → List Renoted → Prefix → Type 0
IsSeen v list e = (r : Row) → is_changed v.changed e ≡ false → row_of v.before.rows e ≡ Some r → IsListed list e

abbrev pub AreSeen : Seen → List Prefix → List Renoted → Type 0
AreSeen v hosts list = (e : Prefix) → Contains hosts e → IsSeen v list e

-- the longest of the prefixes that is shorter and contains it, that of every address where none does
pub record IsNearest (order : List Prefix) (q c : Prefix) : Type 0 where
  pub member : Contains order c ⊎ (c ≡ everything)
  pub shorter : c.len < q.len
  pub holds : contains c q.bits ≡ true
  pub longest : (p : Prefix) → Contains order p → p.len < q.len → contains p q.bits ≡ true → p.len ≤ c.len

-- entries under that cover can get another by what was made anew: it goes, or comes below that cover
abbrev pub IsUnder : Seen → Anew → Prefix → Type 0
IsUnder v x c =
    (x.prefix.len < 32) × (((are_some x.pairs ≡ false) × (c ≡ x.prefix))
    ⊎ ((are_some x.pairs ≡ true) × (Contains (map prefix_of v.before.rows) x.prefix → ⊥) × IsNearest (map prefix_of v.before.rows) x.prefix c))

-- each that is found by that cover inside that prefix is listed, where it stays an entry as it was
abbrev pub IsAsked : Seen → List Holders → List Renoted → Anew → Type 0
IsAsked v sets list x =
    (c e : Prefix) → IsUnder v x c → IsFound sets (features.Under c) e → is_inside x.prefix e ≡ true → IsSeen v list e

abbrev pub AreAsked : Seen → List Holders → List Anew → List Renoted → Type 0
AreAsked v sets changed list = (x : Anew) → Contains changed x → IsAsked v sets list x

-- the hosts found for one that was made anew
abbrev pub AreHosts : Seen → List Holders → Anew → List Prefix → Type 0
AreHosts v sets x hosts = (c e : Prefix) → IsUnder v x c → IsFound sets (features.Under c) e → is_inside x.prefix e ≡ true → Contains hosts e
