-- Entries below a ply, in order. No contract of a public call rests on this.
use Rattle.std.specs.Prelude.{◌≡◌, ℕ, ◌<◌, ◌≤◌, Bool, true, ◌&&◌, ◌||◌, nat_lt, List, map, Some, slice_get}
use Rattle.std.specs.List.{list_any}
use Rattle.std.specs.declared.cmp.Ordering.TheVariants.{Less}
use Rattle.fib_addr.specs.Prefixes.{Prefix, masked, same_prefix}
use Rattle.fib_addr.specs.Longest.{everything}
use Rattle.fib_cover.specs.Covers.{prefix_cmp}
use Rattle.fib_entries_rows.specs.Known.{prefix_of}
use Rattle.fib_entries_rows.specs.Rows.{Row}
use Rattle.fib_follow_view.specs.Views.{Seen, anew_prefix}
use Rattle.fib_follow_view.specs.inner.Told.{entry_in}

-- the second lies in the first and is longer
abbrev pub is_below : Prefix → Prefix → Bool
is_below q e = nat_lt q.len e.len && same_prefix q (masked e.bits q.len)

-- one of these that passes the test lies below
abbrev pub any_below : (Prefix → Bool) → List Prefix → Prefix → Bool
any_below test order q = list_any (λ e. is_below q e && test e) order

-- the place is that of the first behind q in order
pub record IsPast (order : List Prefix) (q : Prefix) (place : ℕ) : Type 0 where
  pub before : (j : ℕ) (e : Prefix) → slice_get order j ≡ Some e → j < place → prefix_cmp q e ≡ Less → ⊥
  pub after : (j : ℕ) (e : Prefix) → slice_get order j ≡ Some e → place ≤ j → prefix_cmp q e ≡ Less

-- whether q, on the way to some prefix, is a ply of the entries before: an entry lies below it, or it is that of all addresses
abbrev pub was_ply : List Row → Prefix → Bool
was_ply rows q = same_prefix q everything || any_below (λ e. true) (map prefix_of rows) q

-- whether it is one of the entries after
abbrev pub is_ply : Seen → List Row → Prefix → Bool
is_ply v rows q =
    same_prefix q everything || (any_below (entry_in v) (map prefix_of rows) q || any_below (entry_in v) (map anew_prefix v.changed) q)
