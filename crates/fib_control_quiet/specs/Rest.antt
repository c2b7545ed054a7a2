-- A plane, the prefix table, the stack and the queue once nothing is queued, and at rest: nothing is deferred or retired either.
use Rattle.std.specs.Prelude.{◌≡◌, ℕ, ◌<◌, ◌⊎◌, [], false, Contains, None, Some}
use Rattle.fib_addr.specs.Prefixes.{Prefix, IsPrefix}
use Rattle.fib_resolve.specs.Pairs.{entries}
use Rattle.fib_resolve.specs.Tables.{IsSound, fresh}
use Rattle.fib_resolve.specs.declared.types.Tables.{Tables}
use Rattle.fib_pool.specs.declared.object.AdjacencyRecord.{AdjacencyRecord}
use Rattle.fib_pool.specs.declared.object.Object.{Object}
use Rattle.fib_pool.specs.Objects.{IsLive as IsLiveIn, at}
use Rattle.fib_resolve_changes.specs.Ranks.{IsRanked, has_entry}
use Rattle.fib_core.specs.StandsFor.{IsCounted, Thing}
use Rattle.fib_core.specs.Union.{Edge}
use Rattle.fib_core.specs.declared.word.Word.TheVariants as words
use Rattle.fib_stack_ledger.specs.Deferred.{late_at}
use Rattle.fib_stack_ledger.specs.Ledgers.{times, used_by}
use Rattle.fib_plane.specs.Planes.{Plane}
use Rattle.fib_plane_view.specs.Promise.{Promise}
use Rattle.fib_plane_view.specs.View.{IsBalance, IsLive, IsPlane, View}
use Rattle.fib_plane.specs.Views.{view_of}
use Rattle.fib_ply.specs.Rows.{ArePrefixes}
use Rattle.fib_ply.specs.Tables.{Stands}
use Rattle.fib_core_promise.specs.Stack.{is_some}
use Rattle.fib_stack.specs.Joined.{Joined, Parts, balance_in, in_change, queued_in, table_of}

-- nothing is queued
pub record IsDrained (S : Tables) (rank : Prefix → ℕ) (p : Promise) (v : View) (s : Parts) : Type 0 where
  -- the tables are well formed, and their entries and the table's are prefixes
  pub sound : IsSound S
  pub ranked : IsRanked S rank
  pub entries_are : (q : Prefix) → Contains (entries S) q → IsPrefix q
  pub rows_are : ArePrefixes s.rows
  pub plane : IsPlane v
  pub joined : Joined S rank p v s
  -- a record that is used is a prefix's
  pub used : (m : AdjacencyRecord) → 0 < s.total m → (e : Prefix) × (0 < times m (used_by (s.known e)))
  pub none : (e : Prefix) → queued_in s e ≡ false

-- and nothing is deferred or retired
pub record IsAtRest (S : Tables) (rank : Prefix → ℕ) (p : Promise) (v : View) (s : Parts) : Type 0 where
  pub drained : IsDrained S rank p v s
  pub prompt : (e : Prefix) (k : ℕ) → late_at s.late e k ≡ None
  pub calm : v.retired ≡ []

-- the object isn't free
abbrev pub IsUsed : Plane → ℕ → Type 0
IsUsed q o = (x : Object) × (at q.objects o ≡ Some x)

-- each thing that the tables' size counts has an object of its own, which is used; and each other object that is used has an edge of the union into
-- it, current or retired
pub record IsAccounted (S : Tables) (q : Plane) : Type 0 where
  pub names : Thing → ℕ
  pub there : (t : Thing) → IsCounted S t → IsUsed q (names t)
  pub apart : (t u : Thing) → IsCounted S t → IsCounted S u → names t ≡ names u → t ≡ u
  pub others : (o : ℕ) → IsUsed q o → ((t : Thing) × IsCounted S t × (names t ≡ o)) ⊎ ((x : ℕ) × Edge q.board.union x o)

-- what is counted in the plane is in use as its users see it: no adjacency is held but those of records
abbrev pub IsSeen : Plane → Type 0
IsSeen q = (o : ℕ) → IsLiveIn q.objects o → IsLive (view_of q) o

-- how a control begins: the prefix table has the entries that all tables have, each at a balance of its own that drops; nothing is known of a
-- prefix, no record is used, and nothing is deferred or queued
pub record IsBeginning (p : Promise) (v : View) (s : Parts) : Type 0 where
  pub early : p.applied ≡ 0
  pub table : Stands (in_change p) (table_of s) v
  pub placed : (e : Prefix) → is_some (balance_in s e) ≡ has_entry fresh e
  pub apart : (d e : Prefix) (o : ℕ) → balance_in s d ≡ Some o → balance_in s e ≡ Some o → d ≡ e
  pub drops : (e : Prefix) (o k : ℕ) → balance_in s e ≡ Some o → k < 16 → v.cell o k ≡ words.Drop
  pub balances : (e : Prefix) (o : ℕ) → balance_in s e ≡ Some o → IsBalance v o
  pub owned : (o : ℕ) → IsBalance v o → (e : Prefix) × (balance_in s e ≡ Some o)
  pub unknown : (e : Prefix) → s.known e ≡ None
  pub unused : (m : AdjacencyRecord) → (s.total m ≡ 0) × (v.users m ≡ 0)
  pub late : s.late ≡ []
  pub queue : s.queue ≡ []
