-- What a search has seen, and which edges are left. No contract of a public call rests on this.
use Rattle.std.specs.Prelude.{◌≡◌, ◌↔◌, ◌⊎◌, ◌<◌, ◌^◌, ◌&&◌, ◌||◌, ◌==◌, not, ℕ, Bool, true, false, List, [], ◌∷◌, filter, map, length, Contains}
use Rattle.std.specs.Prelude.{Option, Some, None, slice_get, slice_index}
use Rattle.std.specs.List.{list_any}
use Rattle.fib_addr.specs.Prefixes.{Prefix}
use Rattle.fib_loops.specs.Loops.{IsLooped}
use Rattle.fib_reach.specs.Walks.{AllDiffer}
use Rattle.fib_entries_rows.specs.Known.{row_of}
use Rattle.fib_entries_rows.specs.Rows.{Row}
use Rattle.fib_entries_rows.specs.inner.Looping.{AreLoopedEnds, has_ends}
use Rattle.fib_follow_view.specs.Views.{Seen, anew_prefix, is_changed}
use Rattle.fib_follow_view.specs.declared.view.Anew.{Anew}
use Rattle.fib_follow_view.specs.inner.Told.{next_before, next_in}

-- all to which the prefix leads at once are seen
abbrev pub SeesBoth : Seen → Prefix → List Prefix → Type 0
SeesBoth v e seen =
    ((t : Prefix) → Contains (next_in v e) t → Contains seen t) × ((t : Prefix) → Contains (next_before v e) t → Contains seen t)

-- nothing is seen beside these
abbrev pub SeesOnly : List Prefix → List Prefix → List Prefix → Type 0
SeesOnly list old new = (t : Prefix) → Contains new t → Contains old t ⊎ Contains list t

abbrev pub row_led : Seen → Option Row → Bool
row_led v None = false
row_led v (Some r) = list_any (λ d. not (is_changed v.changed d)) r.dependants

-- an entry beside those that were made anew led to the prefix
abbrev pub is_led_to : Seen → Prefix → Bool
is_led_to v e = row_led v (row_of v.before.rows e)

abbrev pub is_led : Seen → Bool → Prefix → Bool
is_led v in_any_case e = in_any_case || is_led_to v e

-- all to which what was made anew leads, where another entry led there, or in any case
pub record IsReach (v : Seen) (in_any_case : Bool) (reach : List Prefix) : Type 0 where
  pub once : AllDiffer reach
  pub led : (x : Anew) → Contains v.changed x → is_led v in_any_case x.prefix ≡ true → Contains reach x.prefix
  pub closed : (e : Prefix) → Contains reach e → SeesBoth v e reach

abbrev pub are_none : List Prefix → Bool
are_none [] = true
are_none (x ∷ xs) = false

-- the same and all else that was made anew; whether there is nothing but this
pub record IsSearched (v : Seen) (in_any_case : Bool) (members : List Prefix) (is_apart : Bool) : Type 0 where
  pub reach : List Prefix
  pub is : IsReach v in_any_case reach
  pub once : AllDiffer members
  pub more : (e : Prefix) → Contains reach e → Contains members e
  pub changed : (t : Prefix) → Contains (map anew_prefix v.changed) t → Contains members t
  pub only : (t : Prefix) → Contains members t → Contains reach t ⊎ Contains (map anew_prefix v.changed) t
  pub apart : is_apart ≡ are_none reach

-- the edge from the place to a target that has none
abbrev pub AddsOut : List Prefix → ℕ → Prefix → List (ℕ × Prefix) → List (ℕ × Prefix) → Type 0
AddsOut order from t old new =
    (d : ℕ × Prefix) → Contains new d ↔ Contains old d ⊎ ((d.0 ≡ from) × (d.1 ≡ t) × (Contains order t → ⊥))

abbrev pub AddsOuts : List Prefix → ℕ → List Prefix → List (ℕ × Prefix) → List (ℕ × Prefix) → Type 0
AddsOuts order from targets old new =
    (d : ℕ × Prefix) → Contains new d ↔ Contains old d ⊎ ((d.0 ≡ from) × Contains targets d.1 × (Contains order d.1 → ⊥))

-- the edges that begin at the first places and lead to none
abbrev pub AreLeaving : (Prefix → List Prefix) → List Prefix → ℕ → List (ℕ × Prefix) → Type 0
AreLeaving next order done out =
    (d : ℕ × Prefix) → Contains out d
    ↔ (d.0 < done) × (e : Prefix) × (slice_get order d.0 ≡ Some e) × Contains (next e) d.1 × (Contains order d.1 → ⊥)

-- the edge isn't that of a looped path: an edge to a cover never is
abbrev pub is_left_end : List (Prefix × Prefix) → Prefix → Prefix → Bool
is_left_end loops e t = not ((t.len == 32) && has_ends loops e t)

abbrev pub left_at : List (Prefix × Prefix) → Option Prefix → Option Prefix → Bool
left_at loops None to = false
left_at loops (Some e) None = false
left_at loops (Some e) (Some t) = is_left_end loops e t

abbrev pub is_left : List Prefix → List (Prefix × Prefix) → ℕ × ℕ → Bool
is_left order loops d = left_at loops (slice_get order d.0) (slice_get order d.1)

-- a number below their count for each, of which there are fewer than 2^32
pub record AreNumbered (members : List Prefix) (numbers : List ℕ) : Type 0 where
  pub few : length members < 2 ^ 32
  pub each : length numbers ≡ length members
  pub below : (n : ℕ) → Contains numbers n → n < length members

-- the numbers fall along the edges, where none of these lies on a cycle
abbrev pub FallsAlong : List (ℕ × ℕ) → List ℕ → Type 0
FallsAlong edges numbers =
    ((d : ℕ × ℕ) → Contains edges d → IsLooped edges d → ⊥) → (d : ℕ × ℕ) → Contains edges d → slice_index numbers d.1 < slice_index numbers d.0

abbrev pub IsFiltered : List (ℕ × ℕ) → List (ℕ × ℕ) → Type 0
IsFiltered edges left = (test : ℕ × ℕ → Bool) × (left ≡ filter test edges)

-- the loops of the edges among the members, those of them that are left, and numbers that fall along these
pub record IsOrdered (members : List Prefix) (edges : List (ℕ × ℕ)) (ends : List (Prefix × Prefix)) (kept : List (ℕ × ℕ))
    (numbers : List ℕ) : Type 0 where
  pub loops : AreLoopedEnds members edges ends
  pub left : kept ≡ filter (is_left members ends) edges
  pub each : length numbers ≡ length members
  pub below : (n : ℕ) → Contains numbers n → n < length members
  pub falls : FallsAlong kept numbers
