-- A turn of a prefix that left the entries.
use Rattle.std.specs.Prelude.{◌≡◌, ℕ, ◌+◌, ◌≤◌, false, not, ◌&&◌, Option, Some, None}
use Rattle.fib_addr.specs.Prefixes.{Prefix, same_prefix}
use Rattle.fib_resolve.specs.declared.types.Tables.{Tables}
use Rattle.fib_resolve_changes.specs.Ranks.{IsRanked, has_entry}
use Rattle.fib_pool.specs.declared.object.AdjacencyRecord.{AdjacencyRecord}
use Rattle.fib_plane_view.specs.Promise.{Promise}
use Rattle.fib_plane_view.specs.View.{View, IsBalance, IsPlane, SameRecords}
use Rattle.fib_stack_ledger.specs.Deferred.{late_at}
use Rattle.fib_stack_ledger.specs.Ledgers.{times, used_by}
use Rattle.fib_stack.specs.Joined.{Joined, balance_in, queued_in}
use Rattle.fib_stack.specs.Moments.{Moment, state_at}
use Rattle.fib_stack.specs.Records.{GaveAll}
use Rattle.fib_stack.specs.Steps.{IsLeast, Removed}

-- all stands joined, and the prefix is queued under the least rank and no entry
pub record IsLeaving (S : Tables) (rank : Prefix → ℕ) (p : Promise) (m : Moment) (e : Prefix) : Type 0 where
  pub ranked : IsRanked S rank
  pub joined : Joined S rank p m.view m.parts
  pub least : IsLeast rank (state_at m) e
  pub gone : has_entry S e ≡ false

-- this holds of any tables and ranks with which the prefix leaves
abbrev pub FromLeaving : Promise → Moment → Prefix → (Tables → (Prefix → ℕ) → Type 0) → Type 0
FromLeaving p m e P = (S : Tables) (rank : Prefix → ℕ) → IsLeaving S rank p m e → P S rank

-- it left, and all stands joined still
pub record HasLeft (S : Tables) (rank : Prefix → ℕ) (p : Promise) (e : Prefix) (m n : Moment) : Type 0 where
  pub turn : Removed e (state_at m) (state_at n)
  pub joined : Joined S rank p n.view n.parts

-- what is left of the balances where one is let go, if there is one
pub record WentFrom (u v : View) (gone : Option ℕ) : Type 0 where
  pub stay : (x : ℕ) → (gone ≡ Some x → ⊥) → IsBalance u x → IsBalance v x
  pub fresh : (x : ℕ) → IsBalance v x → IsBalance u x × (gone ≡ Some x → ⊥)
  pub cells : (x k : ℕ) → IsBalance u x → IsBalance v x → v.cell x k ≡ u.cell x k
  pub records : SameRecords u v
  pub stored : u.stored ≤ v.stored

-- what the turn's calls did: v is the plane once the prefix left the table and its balance went; then its records were given back
pub record IsLeft (e : Prefix) (m : Moment) (v : View) (n : Moment) : Type 0 where
  pub went : WentFrom m.view v (balance_in m.parts e)
  pub balance : balance_in n.parts e ≡ None
  pub others_balance : (d : Prefix) → (d ≡ e → ⊥) → balance_in n.parts d ≡ balance_in m.parts d
  pub late : (k : ℕ) → late_at n.parts.late e k ≡ None
  pub others_late : (d : Prefix) (k : ℕ) → (d ≡ e → ⊥) → late_at n.parts.late d k ≡ late_at m.parts.late d k
  pub known : n.parts.known e ≡ None
  pub others_known : (d : Prefix) → (d ≡ e → ⊥) → n.parts.known d ≡ m.parts.known d
  pub totals : (r : AdjacencyRecord) → times r (used_by (m.parts.known e)) + n.parts.total r ≡ m.parts.total r
  pub counted0 : (d : Prefix) (r : AdjacencyRecord) → times r (used_by (m.parts.known d)) ≤ m.parts.total r
  pub counted1 : (d : Prefix) (r : AdjacencyRecord) → times r (used_by (n.parts.known d)) ≤ n.parts.total r
  pub back : GaveAll v n.view (used_by (m.parts.known e))
  pub plane : IsPlane n.view
  pub queue : (d : Prefix) → queued_in n.parts d ≡ (queued_in m.parts d && not (same_prefix d e))
