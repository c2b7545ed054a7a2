-- What the stack keeps of entries and adjacency records, as far as steady traffic goes.
use Rattle.std.specs.Prelude.{◌≡◌, ℕ, ◌<◌, Bool, true, false, List, Option, Some, None}
use Rattle.fib_addr.specs.Prefixes.{Prefix}
use Rattle.fib_resolve.specs.declared.types.End.{End}
use Rattle.fib_resolve.specs.declared.types.End.TheVariants as answers
use Rattle.fib_resolve.specs.declared.types.Tables.{Tables}
use Rattle.fib_core.specs.declared.word.Word.{Word}
use Rattle.fib_core.specs.declared.word.Word.TheVariants as words
use Rattle.fib_core.specs.Walk.{word_at, adjacency_end}
use Rattle.fib_resolve.specs.declared.aims.Aim.{Aim}
use Rattle.fib_resolve.specs.declared.aims.Aim.TheVariants as aims
use Rattle.fib_core_steady.specs.Aims.{IsLasting, WantsAlike}

abbrev pub is_some : {A : Type 0} → Option A → Bool
is_some None = false
is_some (Some x) = true

-- the balance of each prefix of the prefix table, and the object of each kept adjacency record, by its Hop end
pub record Objects : Type 0 where
  pub balance : Prefix → Option ℕ
  pub record_of : End → Option ℕ

-- which records a prefix holds, and the words that are left for later
pub record Ledger : Type 0 where
  pub holds : Prefix → End → Bool
  pub late : Prefix → ℕ → Option Word

abbrev pub to_balance : Option ℕ → Word
to_balance None = words.Drop
to_balance (Some o) = words.ToBalance o

abbrev pub to_adjacency : Option ℕ → Word
to_adjacency None = words.Drop
to_adjacency (Some o) = words.ToAdjacency o

abbrev pub end_word : Objects → End → Word
end_word at answers.Drop = words.Drop
end_word at answers.Receive = words.Receive
end_word at (answers.Glean i) = words.Glean i
end_word at (answers.Hop i a m) = to_adjacency (at.record_of (answers.Hop i a m))

-- the word that a turn puts for an aim
abbrev pub aim_word : Objects → Aim → Word
aim_word at (aims.Ends end) = end_word at end
aim_word at (aims.On e) = to_balance (at.balance e)

-- what the word of a steady bucket rests on
abbrev pub EndAnchored : Ledger → Prefix → End → Type 0
EndAnchored l e answers.Drop = Unit {0}
EndAnchored l e answers.Receive = Unit {0}
EndAnchored l e (answers.Glean i) = Unit {0}
EndAnchored l e (answers.Hop i a m) = l.holds e (answers.Hop i a m) ≡ true

abbrev pub Anchored : Objects → Ledger → Prefix → Aim → Type 0
Anchored at l e (aims.Ends end) = EndAnchored l e end
Anchored at l e (aims.On t) = is_some (at.balance t) ≡ true

-- the bucket holds its word, it isn't left for later, and what the word rests on is there
pub record Holding (at : Objects) (l : Ledger) (cells : List ℕ) (e : Prefix) (k : ℕ) (m : Aim) : Type 0 where
  pub object : ℕ
  pub here : at.balance e ≡ Some object
  pub cell : word_at cells object k ≡ aim_word at m
  pub on_time : l.late e k ≡ None
  pub anchored : Anchored at l e m

-- steady traffic as the stack keeps it
pub record IsSteadyStack (J : List Tables) (at : Objects) (l : Ledger) (cells : List ℕ) : Type 0 where
  pub named : (e : Prefix) → IsLasting J e → is_some (at.balance e) ≡ true
  pub holding : (e : Prefix) (k : ℕ) (m : Aim) → k < 16 → IsLasting J e → WantsAlike J e k m → Holding at l cells e k m

-- a kept record's adjacency has its data, and a held record is kept
pub record HasRecords (at : Objects) (l : Ledger) (cells : List ℕ) : Type 0 where
  pub kept : (e : Prefix) (end : End) → l.holds e end ≡ true → is_some (at.record_of end) ≡ true
  pub written : (end : End) (x : ℕ) → at.record_of end ≡ Some x → adjacency_end cells x ≡ end

-- names as they are during a turn: what the steady words rest on has the same objects
pub record IsMoment (at : Objects) (l : Ledger) (now : Objects) : Type 0 where
  pub balances : (t : Prefix) → is_some (at.balance t) ≡ true → now.balance t ≡ at.balance t
  pub records : (e : Prefix) (end : End) → l.holds e end ≡ true → now.record_of end ≡ at.record_of end
