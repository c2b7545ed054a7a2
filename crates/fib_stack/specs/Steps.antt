-- What a turn, a change of the tables and a retry do to the state.
use Rattle.std.specs.Prelude.{◌≡◌, ℕ, true, false, not, ◌&&◌, ◌||◌, ◌<◌, ◌≤◌, ◌⊎◌, Option, Some, None}
use Rattle.fib_addr.specs.Prefixes.{Prefix, same_prefix}
use Rattle.fib_resolve.specs.Aims.{marked_list, aim}
use Rattle.fib_resolve.specs.Forwarding.{forwards}
use Rattle.fib_resolve.specs.Touched.{is_touched, differ}
use Rattle.fib_resolve.specs.declared.types.End.{End}
use Rattle.fib_resolve.specs.declared.types.Tables.{Tables}
use Rattle.fib_core.specs.declared.word.Word.{Word}
use Rattle.fib_resolve_changes.specs.Ranks.{wakes, has_entry}
use Rattle.fib_core_promise.specs.Stack.{aim_word, is_some}
use Rattle.fib_stack.specs.States.{State, Fits, has_hop}

-- a queued prefix of the least rank
pub record IsLeast (rank : Prefix → ℕ) (s : State) (e : Prefix) : Type 0 where
  pub queued : s.queued e ≡ true
  pub least : (d : Prefix) → s.queued d ≡ true → rank e ≤ rank d

-- a turn of an entry: its buckets are as wanted, at the object o
pub record Restacked (S : Tables) (e : Prefix) (o : ℕ) (s t : State) : Type 0 where
  pub here : t.objects.balance e ≡ Some o
  pub before : (s.objects.balance e ≡ Some o) ⊎ ((s.objects.balance e ≡ None) × ((d : Prefix) → s.objects.balance d ≡ Some o → d ≡ e))
  pub others : (d : Prefix) → (d ≡ e → ⊥) → t.objects.balance d ≡ s.objects.balance d
  pub forwarded : t.was e ≡ forwards S e
  pub others_was : (d : Prefix) → (d ≡ e → ⊥) → t.was d ≡ s.was d
  pub filled : (k : ℕ) → k < 16 → Fits (t.late e k) (t.cell o k) (aim_word t.objects (aim S e k))
  -- a cell that held its word is as it was, and not deferred
  pub same : (k : ℕ) → k < 16 → s.objects.balance e ≡ Some o → s.cell o k ≡ aim_word t.objects (aim S e k) → t.late e k ≡ None
  pub others_cell : (d : Prefix) (x k : ℕ) → (d ≡ e → ⊥) → s.objects.balance d ≡ Some x → t.cell x k ≡ s.cell x k
  pub others_late : (d : Prefix) (k : ℕ) → (d ≡ e → ⊥) → t.late d k ≡ s.late d k
  pub holding : (end : End) → t.holds e end ≡ has_hop (marked_list S e) end
  pub others_holding : (d : Prefix) (end : End) → (d ≡ e → ⊥) → t.holds d end ≡ s.holds d end
  -- a record that has a user afterwards is there, and one that had a user before keeps its object
  pub held : (d : Prefix) (end : End) → t.holds d end ≡ true → is_some (t.objects.record_of end) ≡ true
  pub same_record : (d c : Prefix) (end : End) → t.holds d end ≡ true → s.holds c end ≡ true
      → t.objects.record_of end ≡ s.objects.record_of end
  -- who is woken, exactly
  pub queue : (d : Prefix) → t.queued d ≡ (s.queued d && not (same_prefix d e)) || (differ (s.was e) (forwards S e) && wakes S d e)

-- a turn of a prefix that left the entries
pub record Removed (e : Prefix) (s t : State) : Type 0 where
  pub gone : t.objects.balance e ≡ None
  pub others : (d : Prefix) → (d ≡ e → ⊥) → t.objects.balance d ≡ s.objects.balance d
  pub forwarded : t.was e ≡ false
  pub others_was : (d : Prefix) → (d ≡ e → ⊥) → t.was d ≡ s.was d
  pub late : (k : ℕ) → t.late e k ≡ None
  pub others_cell : (d : Prefix) (x k : ℕ) → (d ≡ e → ⊥) → s.objects.balance d ≡ Some x → t.cell x k ≡ s.cell x k
  pub others_late : (d : Prefix) (k : ℕ) → (d ≡ e → ⊥) → t.late d k ≡ s.late d k
  pub holding : (end : End) → t.holds e end ≡ false
  pub others_holding : (d : Prefix) (end : End) → (d ≡ e → ⊥) → t.holds d end ≡ s.holds d end
  pub held : (d : Prefix) (end : End) → t.holds d end ≡ true → is_some (t.objects.record_of end) ≡ true
  pub same_record : (d c : Prefix) (end : End) → t.holds d end ≡ true → s.holds c end ≡ true
      → t.objects.record_of end ≡ s.objects.record_of end
  pub queue : (d : Prefix) → t.queued d ≡ (s.queued d && not (same_prefix d e))

-- the tables changed: what the change touches is queued, and nothing else is other
pub record Applied (S T : Tables) (s t : State) : Type 0 where
  pub queue : (e : Prefix) → t.queued e ≡ s.queued e || is_touched S T e
  pub objects : t.objects ≡ s.objects
  pub cell : t.cell ≡ s.cell
  pub was : t.was ≡ s.was
  pub late : t.late ≡ s.late
  pub holds : t.holds ≡ s.holds

-- a deferred word is deferred still, or stored
abbrev pub StillOrStored : Option Word → Option Word → Word → Word → Type 0
StillOrStored None l c d = (l ≡ None) × (d ≡ c)
StillOrStored (Some v) l c d = ((l ≡ Some v) × (d ≡ c)) ⊎ ((l ≡ None) × (d ≡ v))

-- a retry: deferred words of prefixes that aren't queued may have been stored
pub record Retried (s t : State) : Type 0 where
  pub objects : t.objects ≡ s.objects
  pub was : t.was ≡ s.was
  pub holds : t.holds ≡ s.holds
  pub queue : t.queued ≡ s.queued
  pub cells : (e : Prefix) (o k : ℕ) → s.objects.balance e ≡ Some o → k < 16 → s.queued e ≡ false
      → StillOrStored (s.late e k) (t.late e k) (s.cell o k) (t.cell o k)
  pub waiting : (e : Prefix) (o k : ℕ) → s.objects.balance e ≡ Some o → s.queued e ≡ true → (t.late e k ≡ s.late e k)
      × (t.cell o k ≡ s.cell o k)
  pub no_more : (e : Prefix) (k : ℕ) → s.late e k ≡ None → t.late e k ≡ None

-- the buckets are those of the tables
pub record StandsFor (S : Tables) (s : State) : Type 0 where
  pub placed : (e : Prefix) → is_some (s.objects.balance e) ≡ has_entry S e
  pub filled : (e : Prefix) (o k : ℕ) → s.objects.balance e ≡ Some o → k < 16 → s.cell o k ≡ aim_word s.objects (aim S e k)
  pub holding : (e : Prefix) (end : End) → s.holds e end ≡ has_hop (marked_list S e) end
