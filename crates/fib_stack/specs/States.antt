-- What a turn reads and changes: objects, buckets, what each entry was at its last turn, what is deferred, and what is queued.
use Rattle.std.specs.Prelude.{◌≡◌, ℕ, ◌<◌, Bool, true, false, ◌&&◌, List, Option, Some, None}
use Rattle.std.specs.List.{list_any}
use Rattle.fib_addr.specs.Prefixes.{Prefix}
use Rattle.fib_resolve.specs.Aims.{marked_list}
use Rattle.fib_resolve.specs.declared.aims.Aim.{Aim}
use Rattle.fib_resolve.specs.declared.aims.Aim.TheVariants as aims
use Rattle.fib_resolve.specs.declared.aims.Marked.{Marked}
use Rattle.fib_resolve.specs.declared.types.End.{End}
use Rattle.fib_resolve.specs.declared.types.End.TheVariants as answers
use Rattle.fib_resolve.specs.declared.types.Tables.{Tables}
use Rattle.fib_core.specs.declared.word.Word.{Word}
use Rattle.fib_core.specs.declared.word.Word.TheVariants as words
use Rattle.fib_resolve_changes.specs.Ranks.{is_usable_mark, has_entry}
use Rattle.fib_resolve_changes.specs.Wanted.{aim_by}
use Rattle.fib_core_promise.specs.Kept.{same_end}
use Rattle.fib_core_promise.specs.Stack.{Objects, aim_word, is_some}

-- the end has an adjacency record
abbrev pub is_recorded : End → Bool
is_recorded answers.Drop = false
is_recorded answers.Receive = false
is_recorded (answers.Glean i) = false
is_recorded (answers.Hop i a m) = true

abbrev pub ends_there : End → Aim → Bool
ends_there end (aims.Ends f) = is_recorded f && same_end f end
ends_there end (aims.On t) = false

-- a path of the list, usable or not, ends at this adjacency
abbrev pub has_hop : List Marked → End → Bool
has_hop ms end = list_any (λ m. ends_there end m.aim) ms

-- where f says which entries forward: a path of the list is usable
abbrev pub forwards_by : (Prefix → Bool) → List Marked → Bool
forwards_by f ms = list_any (is_usable_mark f) ms

pub record State : Type 0 where
  -- the balance of each prefix, and the object of each kept adjacency record
  pub objects : Objects
  pub cell : ℕ → ℕ → Word
  -- the prefix forwarded at its own last turn
  pub was : Prefix → Bool
  -- the word that a bucket of the prefix wants, where it closed a cycle
  pub late : Prefix → ℕ → Option Word
  -- the prefix is a user of the adjacency record
  pub holds : Prefix → End → Bool
  pub queued : Prefix → Bool

-- the cell holds the word, or it drops and the word is deferred
abbrev pub Fits : Option Word → Word → Word → Type 0
Fits None cell w = cell ≡ w
Fits (Some v) cell w = (v ≡ w) × (cell ≡ words.Drop)

-- what stands of a prefix that isn't queued: its buckets are what its marked list wants by what its targets were at their last turns
pub record IsDone (S : Tables) (s : State) (e : Prefix) : Type 0 where
  pub placed : is_some (s.objects.balance e) ≡ has_entry S e
  pub known : s.was e ≡ forwards_by s.was (marked_list S e)
  pub filled : (o k : ℕ) → s.objects.balance e ≡ Some o → k < 16
      → Fits (s.late e k) (s.cell o k) (aim_word s.objects (aim_by s.was (marked_list S e) k))
  pub holding : (end : End) → s.holds e end ≡ has_hop (marked_list S e) end

-- what stands of every prefix
pub record IsPlaced (s : State) (e : Prefix) : Type 0 where
  pub forwarded : s.was e ≡ true → is_some (s.objects.balance e) ≡ true
  pub recorded : (end : End) → s.holds e end ≡ true → is_some (s.objects.record_of end) ≡ true
  pub late : (k : ℕ) → is_some (s.objects.balance e) ≡ false → s.late e k ≡ None
  pub apart : (d : Prefix) (o : ℕ) → s.objects.balance e ≡ Some o → s.objects.balance d ≡ Some o → d ≡ e

pub record Kept (S : Tables) (s : State) : Type 0 where
  pub done : (e : Prefix) → s.queued e ≡ false → IsDone S s e
  pub placed : (e : Prefix) → IsPlaced s e

-- nothing is queued, and nothing is deferred
abbrev pub IsQuiet : State → Type 0
IsQuiet s = ((e : Prefix) → s.queued e ≡ false) × ((e : Prefix) (k : ℕ) → s.late e k ≡ None)
