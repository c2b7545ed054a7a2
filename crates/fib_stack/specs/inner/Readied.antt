-- A turn of an entry: what is made ready before its first put, and the rest of it.
use Rattle.std.specs.Prelude.{◌≡◌, ◌⊎◌, ℕ, ◌+◌, ◌*◌, ◌^◌, ◌-◌, ◌<◌, ◌≤◌, Bool, true, not, ◌&&◌, ◌||◌, List, [], ◌∷◌, Option, Some, None, filter, map}
use Rattle.std.specs.Prelude.{length, slice_get, vec_capacity, if◌then◌else◌}
use Rattle.fib_addr.specs.Prefixes.{Prefix, same_prefix}
use Rattle.fib_base_ordered.specs.Sets.{Order}
use Rattle.fib_resolve.specs.Aims.{marked_list}
use Rattle.fib_resolve.specs.Touched.{differ}
use Rattle.fib_resolve.specs.declared.types.End.{End}
use Rattle.fib_resolve.specs.declared.types.Tables.{Tables}
use Rattle.fib_core.specs.declared.word.Word.{Word}
use Rattle.fib_pool.specs.declared.object.AdjacencyRecord.{AdjacencyRecord}
use Rattle.fib_resolve_changes.specs.Ranks.{IsRanked, has_entry, is_usable_mark, wakes}
use Rattle.fib_resolve_changes.specs.Wanted.{aim_of, of_least_mark, spread_marks}
use Rattle.fib_core_promise.specs.Kept.{same_end}
use Rattle.fib_core_promise.specs.Stack.{Objects, aim_word}
use Rattle.fib_core_steady.specs.Names.{Names}
use Rattle.fib_plane_view.specs.declared.put.Put.{Put}
use Rattle.fib_plane_view.specs.Frames.{Beside, IsQuiet}
use Rattle.fib_plane_view.specs.Promise.{Promise, Serves}
use Rattle.fib_plane_view.specs.Stores.{StoresEach}
use Rattle.fib_plane_view.specs.View.{View, IsBalance, IsPlane, SameRecords}
use Rattle.fib_ply.specs.Tables.{Table}
use Rattle.fib_stack_ledger.specs.Deferred.{late_at}
use Rattle.fib_stack_ledger.specs.declared.ledger.Use.{Use}
use Rattle.fib_stack_ledger.specs.Ledgers.{count, record_used, times, used_by}
use Rattle.fib_stack_queue.specs.declared.order.Queued.{Queued}
use Rattle.fib_stack_waking.specs.Waking.{are_among, have_ranks}
use Rattle.fib_stack.specs.declared.stack.Plan.{Plan}
use Rattle.fib_stack.specs.declared.stack.Stack.{Stack}
use Rattle.fib_stack.specs.Calls.{TakesOnly}
use Rattle.fib_stack.specs.Joined.{Joined, Parts, balance_in, queued_in, state_in, was_by}
use Rattle.fib_stack.specs.Moments.{Moment, state_at}
use Rattle.fib_stack.specs.Records.{AreObjects, GaveAll, IsObjectOf, end_used, records_for}
use Rattle.fib_stack.specs.Runs.{Puts, word_in, deferred_at}
use Rattle.fib_stack.specs.States.{forwards_by}
use Rattle.fib_stack.specs.Steps.{IsLeast}
use Rattle.fib_stack.specs.Turns.{HasRun, IsRestacked}

-- what was read of an entry: nothing is taken yet
pub record IsRead (S : Tables) (rank : Prefix → ℕ) (was : Prefix → Bool) (e : Prefix) (plan : Plan) : Type 0 where
  pub entry : plan.entry ≡ e
  pub does : plan.forwards ≡ forwards_by was (marked_list S e)
  pub wanted : plan.wanted.items ≡ spread_marks (of_least_mark (filter (is_usable_mark was) (marked_list S e)))
  pub none : plan.uses.items ≡ []
  pub room : length (marked_list S e) ≤ vec_capacity plan.uses
  pub woken : (d : Prefix) → are_among plan.woken.items d ≡ differ (was e) plan.forwards && wakes S d e
  pub ranks : have_ranks rank plan.woken.items

-- room for what the rest of a turn stores
pub record HasRoomFor (v : View) (s : Stack) (t : Table) (q : Order Queued) (uses woken : ℕ) : Type 0 where
  pub late : 16 ≤ s.late.spare
  pub known : 0 < s.ledger.spare
  pub rows : 0 < t.rows.spare
  pub queue : woken ≤ q.spare
  pub spare : 16 * (t.plies + 7) + 16 ≤ v.spare
  pub few : count s.ledger.rows + uses < 2 ^ 32 - 1

-- a balance for the prefix: its own, or one that was just taken
pub record GotObject (u v : View) (balances : Prefix → Option ℕ) (e : Prefix) (o : ℕ) : Type 0 where
  pub which : (balances e ≡ Some o) ⊎ ((balances e ≡ None) × (IsBalance u o → ⊥))
  pub here : IsBalance v o
  pub stay : (x : ℕ) → IsBalance u x → IsBalance v x
  pub fresh : (x : ℕ) → IsBalance v x → IsBalance u x ⊎ (x ≡ o)
  pub cells : (x k : ℕ) → IsBalance u x → v.cell x k ≡ u.cell x k
  pub records : SameRecords u v
  pub free : balances e ≡ None → 7 ≤ v.free
  pub stored : u.stored ≤ v.stored
  pub spare : u.spare ≤ v.spare

-- how many objects are taken for a balance: one, unless it is there
abbrev pub balances_for : Option ℕ → ℕ
balances_for None = 1
balances_for (Some o) = 0

-- what a turn made ready before its first put, by the plan: v is the plane before it, and m the moment of that put
pub record IsReadied (S : Tables) (p : Promise) (v : View) (m : Moment) (plan : Plan) : Type 0 where
  pub users : (r : AdjacencyRecord) → m.view.users r ≡ times r plan.uses.items + v.users r
  pub kept : (r : AdjacencyRecord) → 0 < v.users r → m.view.record_of r ≡ v.record_of r
  pub objects : AreObjects m.view plan.uses.items
  pub records : map record_used plan.uses.items ≡ records_for (marked_list S plan.entry)
  pub stay : (x : ℕ) → IsBalance v x → IsBalance m.view x
  pub fresh : (x : ℕ) → IsBalance m.view x → IsBalance v x ⊎ (x ≡ plan.object)
  pub cells : (x k : ℕ) → IsBalance v x → m.view.cell x k ≡ v.cell x k
  pub which : (balance_in m.parts plan.entry ≡ Some plan.object)
      ⊎ ((balance_in m.parts plan.entry ≡ None) × (IsBalance v plan.object → ⊥))
  pub here : IsBalance m.view plan.object
  pub does : plan.forwards ≡ forwards_by (was_by m.parts) (marked_list S plan.entry)
  pub wanted : plan.wanted.items ≡ spread_marks (of_least_mark (filter (is_usable_mark (was_by m.parts)) (marked_list S plan.entry)))
  pub quiet : (look : Prefix → Option ℕ) → IsQuiet look v m.view
  pub serves : (n : Names) → Serves p n v → Serves p n m.view
  pub stored : v.stored ≤ m.view.stored

-- a turn of an entry, before its first put
pub record IsUnderway (S : Tables) (rank : Prefix → ℕ) (p : Promise) (v : View) (m : Moment) (plan : Plan) : Type 0 where
  pub ranked : IsRanked S rank
  pub joined : Joined S rank p v m.parts
  pub least : IsLeast rank (state_in v m.parts) plan.entry
  pub effective : has_entry S plan.entry ≡ true
  pub readied : IsReadied S p v m plan
  pub woken : (d : Prefix) → are_among plan.woken.items d ≡ differ (was_by m.parts plan.entry) plan.forwards && wakes S d plan.entry
  pub ranks : have_ranks rank plan.woken.items
  pub free : balance_in m.parts plan.entry ≡ None → 7 ≤ m.view.free

-- this holds of any tables, ranks and plane with which such a turn began
abbrev pub FromUnderway : Promise → Moment → Plan → (Tables → (Prefix → ℕ) → View → Type 0) → Type 0
FromUnderway p m plan P = (S : Tables) (rank : Prefix → ℕ) (v : View) → IsUnderway S rank p v m plan → P S rank v

-- the object of the end's record, among those that are used
abbrev pub found_in : List Use → End → Option ℕ
found_in [] end = None
found_in (u ∷ us) end = if same_end (end_used u) end then Some u.object else found_in us end

abbrev pub names_for : Parts → List Use → Objects
names_for s us = record { balance = balance_in s; record_of = found_in us }

-- the rest of a turn between its first put and its end: the puts' words and answers, the plane after them, and after the old records went
-- back
pub record Course : Type 0 where
  pub words : List Word
  pub answers : List Put
  pub filled : View
  pub given : View

-- what the rest of the turn does, from its first put at m to its end at n
pub record IsFinished (S : Tables) (plan : Plan) (m : Moment) (course : Course) (n : Moment) : Type 0 where
  pub puts : Puts m.view plan.object 0 course.words course.answers course.filled
  pub sixteen : length course.words ≡ 16
  pub words : (k : ℕ) → k < 16
      → word_in course.words k ≡ aim_word (names_for m.parts plan.uses.items) (aim_of (slice_get plan.wanted.items k))
  pub late : (k : ℕ) → late_at n.parts.late plan.entry k ≡ deferred_at course.words course.answers k
  pub others_late : (d : Prefix) (k : ℕ) → (d ≡ plan.entry → ⊥) → late_at n.parts.late d k ≡ late_at m.parts.late d k
  pub known : n.parts.known plan.entry ≡ Some (record { forwarded = plan.forwards; uses = plan.uses.items })
  pub others_known : (d : Prefix) → (d ≡ plan.entry → ⊥) → n.parts.known d ≡ m.parts.known d
  pub totals : (r : AdjacencyRecord)
      → times r (used_by (m.parts.known plan.entry)) + n.parts.total r ≡ times r plan.uses.items + m.parts.total r
  pub counted0 : (d : Prefix) (r : AdjacencyRecord) → times r (used_by (m.parts.known d)) ≤ m.parts.total r
  pub counted1 : (d : Prefix) (r : AdjacencyRecord) → times r (used_by (n.parts.known d)) ≤ n.parts.total r
  pub back : GaveAll course.filled course.given (used_by (m.parts.known plan.entry))
  pub placed : Beside course.given n.view
  pub plane : IsPlane n.view
  pub balance : balance_in n.parts plan.entry ≡ Some plan.object
  pub others_balance : (d : Prefix) → (d ≡ plan.entry → ⊥) → balance_in n.parts d ≡ balance_in m.parts d
  pub queue : (d : Prefix)
      → queued_in n.parts d ≡ (queued_in m.parts d && not (same_prefix d plan.entry))
      || (differ (was_by m.parts plan.entry) plan.forwards && wakes S d plan.entry)

-- the turn is over, which began over the plane v: its puts, from m on, are a run from any plane of which only what it needs was taken; and
-- they store each cell that differs once, if what was taken did
pub record EndsTurn (S : Tables) (rank : Prefix → ℕ) (p : Promise) (v : View) (plan : Plan) (m n : Moment) : Type 0 where
  pub turn : IsRestacked S plan.entry (state_in v m.parts) (state_at n)
  pub run : (u : View) → TakesOnly u m.view → HasRun S plan.entry u n.view (state_at n)
  pub stores : (u : View) → balance_in m.parts plan.entry ≡ Some plan.object
      → StoresEach (λ y k. IsObjectOf plan.uses.items y) u m.view → StoresEach (λ y k. Unit {0}) u n.view
  pub joined : Joined S rank p n.view n.parts
