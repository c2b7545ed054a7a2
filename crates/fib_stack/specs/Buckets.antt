-- Buckets of the plane, and the state that a turn reads of it.
use Rattle.std.specs.Prelude.{◌≡◌, ℕ, Bool, List, Option, Some, None}
use Rattle.fib_addr.specs.Prefixes.{Prefix}
use Rattle.fib_resolve.specs.declared.aims.Aim.{Aim}
use Rattle.fib_resolve.specs.declared.types.End.{End}
use Rattle.fib_resolve.specs.declared.types.End.TheVariants as answers
use Rattle.fib_resolve.specs.declared.types.Tables.{Tables}
use Rattle.fib_core.specs.declared.word.Word.{Word}
use Rattle.fib_core_steady.specs.Aims.{IsLasting, WantsAlike}
use Rattle.fib_plane_view.specs.View.{View}
use Rattle.fib_stack.specs.States.{State}

-- the object of the end's adjacency record
abbrev pub recorded : View → End → Option ℕ
recorded v answers.Drop = None
recorded v answers.Receive = None
recorded v (answers.Glean i) = None
recorded v (answers.Hop i a m) = v.record_of (record { interface = i; next_hop = a; mac = m })

-- the plane, with what the prefix table, the stack and the queue know
abbrev pub state_of : View → (Prefix → Option ℕ) → (Prefix → Bool) → (Prefix → ℕ → Option Word) → (Prefix → End → Bool)
    → (Prefix → Bool) → State
state_of v balances was late holds queued = record {
  objects = record { balance = balances; record_of = recorded v };
  cell = v.cell;
  was = was;
  late = late;
  holds = holds;
  queued = queued;
}

-- no entry of all versions has this bucket and wants the same of it in all of them
abbrev pub IsLooseBucket : List Tables → (Prefix → Option ℕ) → ℕ → ℕ → Type 0
IsLooseBucket J balances o k = (e : Prefix) (m : Aim) → IsLasting J e → balances e ≡ Some o → WantsAlike J e k m → ⊥
