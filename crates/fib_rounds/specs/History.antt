-- The history of a run by tables and edits alone: what its script tries, and what of it is accepted.
use Rattle.std.specs.Prelude.{ℕ, ◌≡◌, ◌++◌, ◌∷◌, [], List, Bool, true, false, Option, Some, None, Result, Ok, Err, if◌then◌else◌}
use Rattle.fib_resolve.specs.Tables.{fresh}
use Rattle.fib_resolve.specs.Refusals.{FirstRefused, edited_in_turn}
use Rattle.fib_resolve.specs.declared.types.Edit.{Edit}
use Rattle.fib_resolve.specs.declared.types.Tables.{Tables}
use Rattle.fib_core_results.specs.declared.record.Record.{Record}
use Rattle.fib_capture.specs.Captures.{Capture}
use Rattle.fib_commands.specs.Lines.{line_of}
use Rattle.fib_commands.specs.declared.types.Line.{Line}
use Rattle.fib_commands.specs.declared.types.Line.TheVariants as lines
use Rattle.fib_control.specs.Controls.{Control}
use Rattle.fib_rounds_turns.specs.Routers.{history_in}
use Rattle.fib_rounds.specs.Stages.{start}
use Rattle.fib_rounds.specs.Runs.{HasRunOn, stage_after}

-- a batch that is not committed yet: the edits of its lines, and whether a line in it may not stand there
pub record Begun : Type 0 where
  pub spoiled : Bool
  pub edits : List Edit

-- the changes that a line tries, each with its edits: one or none; and the batch in which the next line stands
abbrev pub Tried : Type 0
Tried = List (List Edit) × Option Begun

-- outside a batch each edit is a change
abbrev pub tried_alone : Option Line → Tried
tried_alone (Some (lines.Change edit)) = ((edit ∷ []) ∷ [], None)
tried_alone (Some lines.Begin) = ([], Some (record { spoiled = false; edits = [] }))
tried_alone other = ([], None)

-- a batch is one change, which its commit tries; nothing is tried where it is spoiled
abbrev pub tried_within : Begun → Option Line → Tried
tried_within b (Some lines.Nothing) = ([], Some b)
tried_within b (Some (lines.Change edit)) = ([], Some (record { spoiled = b.spoiled; edits = b.edits ++ edit ∷ [] }))
tried_within b (Some lines.Commit) = (if b.spoiled then [] else b.edits ∷ [], None)
tried_within b other = ([], Some (record { spoiled = true; edits = b.edits }))

abbrev pub tried_in : Option Begun → Option Line → Tried
tried_in None said = tried_alone said
tried_in (Some b) said = tried_within b said

-- the changes that lines try, in their order
abbrev pub changes_in : Option Begun → List (List ℕ) → List (List Edit)
changes_in batch [] = []
changes_in batch (line ∷ lines) = (tried_in batch (line_of line)).0 ++ changes_in (tried_in batch (line_of line)).1 lines

abbrev pub by_made : {A : Type 0} → Result Tables FirstRefused → (Tables → A) → A → A
by_made (Ok T) f x = f T
by_made (Err stop) f x = x

-- The tables after each change that is accepted, the first of them tried on S. A change is accepted where each of its edits is, by the tables that those before
-- it give; then its tables are those after its last edit. One that is refused leaves the tables to the next.
abbrev pub versions : ℕ → Tables → List (List Edit) → List Tables
versions room S [] = []
versions room S (edits ∷ changes) = by_made (edited_in_turn S room edits) (λ T. T ∷ versions room T changes) (versions room S changes)

-- the tables of all versions of a script, with that room for objects: empty ones, and those after each of its changes that is accepted
abbrev pub history_of : ℕ → List (List ℕ) → List Tables
history_of room script = fresh ∷ versions room fresh (changes_in None script)

-- what lines make of the history is that
abbrev pub HistoryIsOfChanges : Type 0
HistoryIsOfChanges = (room : ℕ) (script : List (List ℕ)) → (stage_after 1 (start room) script).history ≡ history_of room script

-- and so is the history of the control plane that a run leaves
abbrev pub RunHasHistory : Type 0
RunHasHistory = (workers room : ℕ) (script : List (List ℕ)) (packets : Capture) (c : Control) (results : List Record) (out : List ℕ)
    → HasRunOn workers room script packets c results out → history_in c ≡ history_of room script
