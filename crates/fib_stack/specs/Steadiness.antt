-- Buckets of which all versions want the same hold their word.
use Rattle.std.specs.Prelude.{◌≡◌, ℕ, ◌<◌, true, List, Some, None}
use Rattle.fib_addr.specs.Prefixes.{Prefix}
use Rattle.fib_resolve.specs.declared.aims.Aim.{Aim}
use Rattle.fib_resolve.specs.declared.types.End.{End}
use Rattle.fib_resolve.specs.declared.types.Tables.{Tables}
use Rattle.fib_core.specs.Walk.{hop_of}
use Rattle.fib_core_steady.specs.Aims.{IsLasting, WantsAlike}
use Rattle.fib_core_promise.specs.Stack.{Ledger, aim_word, Anchored, is_some}
use Rattle.fib_stack.specs.States.{State}

abbrev pub ledger_of : State → Ledger
ledger_of s = record { holds = s.holds; late = s.late }

-- the bucket holds its word, it isn't deferred, and what the word rests on is there
pub record Holding (s : State) (e : Prefix) (k : ℕ) (m : Aim) : Type 0 where
  pub object : ℕ
  pub here : s.objects.balance e ≡ Some object
  pub cell : s.cell object k ≡ aim_word s.objects m
  pub on_time : s.late e k ≡ None
  pub anchored : Anchored s.objects (ledger_of s) e m

-- J: the versions from settled to applied
pub record IsSteady (J : List Tables) (s : State) : Type 0 where
  pub named : (e : Prefix) → IsLasting J e → is_some (s.objects.balance e) ≡ true
  pub holding : (e : Prefix) (k : ℕ) (m : Aim) → k < 16 → IsLasting J e → WantsAlike J e k m → Holding s e k m

-- each kept record's object says its end
pub record HasRecords (s : State) : Type 0 where
  pub written : (end : End) (x : ℕ) → s.objects.record_of end ≡ Some x → hop_of (s.cell x 0) (s.cell x 1) (s.cell x 2) ≡ end
