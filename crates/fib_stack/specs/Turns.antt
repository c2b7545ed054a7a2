-- What a turn of an entry does.
use Rattle.std.specs.Prelude.{◌≡◌, ℕ, ◌<◌, List, Some}
use Rattle.fib_addr.specs.Prefixes.{Prefix}
use Rattle.fib_resolve.specs.Aims.{aim}
use Rattle.fib_resolve.specs.declared.types.Tables.{Tables}
use Rattle.fib_core.specs.declared.word.Word.{Word}
use Rattle.fib_core_promise.specs.Stack.{aim_word}
use Rattle.fib_plane_view.specs.declared.put.Put.{Put}
use Rattle.fib_plane_view.specs.View.{View}
use Rattle.fib_stack.specs.Calls.{GivesOnly, TakesOnly}
use Rattle.fib_stack.specs.Runs.{Puts, word_in, deferred_at}
use Rattle.fib_stack.specs.States.{State}
use Rattle.fib_stack.specs.Steps.{Restacked}

-- the sixteen puts of an entry's turn, from u to v. They begin over the plane as it was, but for what was taken; each is over the plane that
-- the one before it left; all that comes after them is given back, or is the prefix table's. What they dropped is deferred: that edge closed
-- a cycle in the union of current and retired edges, as it was at its put
pub record IsRun (S : Tables) (e : Prefix) (o : ℕ) (u v : View) (t : State) : Type 0 where
  pub before : View
  pub taken : TakesOnly u before
  pub wanted : List Word
  pub answers : List Put
  pub after : View
  pub puts : Puts before o 0 wanted answers after
  pub given : GivesOnly after v
  pub words : (k : ℕ) → k < 16 → word_in wanted k ≡ aim_word t.objects (aim S e k)
  pub late : (k : ℕ) → t.late e k ≡ deferred_at wanted answers k

-- into the buckets of the entry's balance
abbrev pub HasRun : Tables → Prefix → View → View → State → Type 0
HasRun S e u v t = (o : ℕ) × (t.objects.balance e ≡ Some o) × IsRun S e o u v t

-- there is an object for which the turn is one of the definition
pub record IsRestacked (S : Tables) (e : Prefix) (s t : State) : Type 0 where
  pub object : ℕ
  pub turn : Restacked S e object s t
