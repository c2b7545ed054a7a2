-- What stands of a checker between two lines.
use Rattle.std.specs.Prelude.{◌≡◌, ℕ, ◌++◌, [], List, Option, Some, None}
use Rattle.fib_entries_rows.specs.Known.{StandsFor, rank_of}
use Rattle.fib_resolve.specs.Edits.{edited}
use Rattle.fib_resolve.specs.Refusals.{refused}
use Rattle.fib_resolve.specs.declared.types.Edit.{Edit}
use Rattle.fib_resolve.specs.declared.types.Refusal.{Refusal}
use Rattle.fib_resolve.specs.declared.types.Tables.{Tables}
use Rattle.fib_urpf.specs.Kept.{IsFor}
use Rattle.fib_checker.specs.declared.checker.Checker.{Checker}

-- its tables are these, and nothing waits for a turn
pub record IsReady (S : Tables) (c : Checker) : Type 0 where
  pub tables : c.config.tables ≡ S
  pub stands : StandsFor c.entries S
  pub kept : IsFor c.urpf S (rank_of c.entries.rows)
  pub quiet : c.urpf.queue ≡ []

-- an edit was made, or refused with that cause
abbrev pub IsChanged : Tables → Edit → Option Refusal → Checker → Type 0
IsChanged S e None c = (refused S 8192 e ≡ None) × IsReady (edited S e) c
IsChanged S e (Some r) c = (refused S 8192 e ≡ Some r) × IsReady S c

-- a line did what this turn does, after what was printed before it
pub record Takes (turn : Tables × List ℕ) (before : List ℕ) (c : Checker) (after : List ℕ) : Type 0 where
  pub ready : IsReady turn.0 c
  pub printed : after ≡ before ++ turn.1
