-- How a change ends.
use Rattle.std.specs.Prelude.{ℕ, ◌≡◌, ◌+◌, ◌++◌, ◌∷◌, [], List, Option, Some, None, Result, Ok, Err}
use Rattle.std.specs.declared.alloc.AllocError.{AllocError}
use Rattle.fib_resolve.specs.Edits.{edited}
use Rattle.fib_resolve.specs.Refusals.{FirstRefused, refused, edited_in_turn}
use Rattle.fib_resolve.specs.declared.types.Edit.{Edit}
use Rattle.fib_resolve.specs.declared.types.Refusal.{Refusal}
use Rattle.fib_resolve.specs.declared.types.Tables.{Tables}
use Rattle.fib_control.specs.Controls.{Control, tables_in}
use Rattle.fib_rounds_turns.specs.declared.changes.Unmade.{Unmade}
use Rattle.fib_rounds_turns.specs.Routers.{applied_in, history_in}

-- no change was made
pub record Stays (c d : Control) : Type 0 where
  pub setup : d.setup ≡ c.setup
  pub applied : applied_in d ≡ applied_in c
  pub history : history_in d ≡ history_in c

-- one change was made, to these tables
pub record Changes (c : Control) (T : Tables) (d : Control) : Type 0 where
  pub setup : d.setup ≡ record { tables = T; room = c.setup.room }
  pub applied : applied_in d ≡ applied_in c + 1
  pub history : history_in d ≡ history_in c ++ T ∷ []

-- the edit was made, or is refused with that cause; memory may have been wanted
abbrev pub HasApplied : Control → Control → Edit → Result (Option Refusal) AllocError → Type 0
HasApplied c d edit (Err e) = Stays c d
HasApplied c d edit (Ok None) = (refused (tables_in c) c.setup.room edit ≡ None) × Changes c (edited (tables_in c) edit) d
HasApplied c d edit (Ok (Some why)) = (refused (tables_in c) c.setup.room edit ≡ Some why) × Stays c d

-- all edits were made as one change, or one is the first that is refused
abbrev pub HasAppliedAll : Control → Control → List Edit → Result (Option Unmade) AllocError → Type 0
HasAppliedAll c d edits (Err e) = Stays c d
HasAppliedAll c d edits (Ok None) = (edited_in_turn (tables_in c) c.setup.room edits ≡ Ok (tables_in d)) × Changes c (tables_in d) d
HasAppliedAll c d edits (Ok (Some u)) =
    (edited_in_turn (tables_in c) c.setup.room edits ≡ Err (record { place = u.place; refusal = u.refusal })) × Stays c d
