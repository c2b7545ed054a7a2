-- Routers between two lines: the tables of a control plane, and what is kept of the script.
use Rattle.std.specs.Prelude.{ℕ, ◌≡◌, ◌==◌, ◌⊎◌, ◌+◌, ◌++◌, [], ◌∷◌, false, true, List, Option, Some, None, if◌then◌else◌}
use Rattle.fib_resolve.specs.Tables.{fresh}
use Rattle.fib_resolve.specs.declared.types.Edit.{Edit}
use Rattle.fib_resolve.specs.declared.types.Tables.{Tables}
use Rattle.fib_core_results.specs.Trails.{version_at}
use Rattle.fib_config.specs.Config.{Setup}
use Rattle.fib_core_board.specs.Boards.{Board}
use Rattle.fib_plane.specs.Views.{but_words}
use Rattle.fib_control.specs.Controls.{Control, tables_in}
use Rattle.fib_rounds_turns.specs.declared.progress.Batch.{Batch}

-- what is kept of a script between two lines: how many lines were run, how many of them were refused, and the batch in which the next line stands
pub record Progress : Type 0 where
  pub lines : ℕ
  pub refused : ℕ
  pub batch : Option Batch

-- a router: the tables and the room for them, how many changes were accepted, how many lines refused, and the batch in which the next line stands
pub record Router : Type 0 where
  pub config : Setup
  pub changes : ℕ
  pub refused : ℕ
  pub batch : Option Batch

-- all tables so far, and the number of the last change
abbrev pub history_in : Control → List Tables
history_in c = c.plane.board.log.history

abbrev pub applied_in : Control → ℕ
applied_in c = c.plane.board.log.version.applied

-- the router of a control plane and of what is kept of the script
abbrev pub router_of : Control → Progress → Router
router_of c p = record { config = c.setup; changes = applied_in c; refused = p.refused; batch = p.batch }

-- empty tables with that room, no change, no refused line and no batch
abbrev pub new_router : ℕ → Router
new_router room = record { config = record { tables = fresh; room = room }; changes = 0; refused = 0; batch = None }

abbrev pub new_progress : Progress
new_progress = record { lines = 0; refused = 0; batch = None }

-- the router after an accepted change, which ends a batch
abbrev pub changed : Router → Tables → Router
changed r tables =
    record { config = record { tables = tables; room = r.config.room }; changes = r.changes + 1; refused = r.refused; batch = None }

-- the router after a line that is refused
abbrev pub refusing : Router → Router
refusing r = record { config = r.config; changes = r.changes; refused = r.refused + 1; batch = r.batch }

abbrev pub with_batch : Router → Option Batch → Router
with_batch r batch = record { config = r.config; changes = r.changes; refused = r.refused; batch = batch }

abbrev pub new_batch : ℕ → Batch
new_batch n = record { begun = n; spoiled = false; lines = []; edits = [] }

abbrev pub spoiled : Batch → Batch
spoiled b = record { begun = b.begun; spoiled = true; lines = b.lines; edits = b.edits }

abbrev pub with_edit : Batch → ℕ → Edit → Batch
with_edit b n edit = record { begun = b.begun; spoiled = b.spoiled; lines = b.lines ++ n ∷ []; edits = b.edits ++ edit ∷ [] }

abbrev pub begun_in : Option Batch → Option ℕ
begun_in None = None
begun_in (Some b) = Some b.begun

-- one line more, whose batch is taken out; one that is refused; and with a batch
abbrev pub counted : Progress → Progress
counted p = record { lines = p.lines + 1; refused = p.refused; batch = None }

abbrev pub one_refused : Progress → Progress
one_refused p = record { lines = p.lines; refused = p.refused + 1; batch = p.batch }

abbrev pub with_kept : Progress → Batch → Progress
with_kept p b = record { lines = p.lines; refused = p.refused; batch = Some b }

-- the tables with the number of their version are a router's
abbrev pub HasTables : Control → Router → Type 0
HasTables c r = (c.setup ≡ r.config) × (applied_in c ≡ r.changes)

-- they are those before a line or those after it, never between
abbrev pub Stands : Control → Router → Router → Type 0
Stands c before after = HasTables c before ⊎ HasTables c after

-- the history is as it was, or longer by the tables where the version is another
abbrev pub HasGrown : Control → Control → Type 0
HasGrown c d = history_in d ≡ (if applied_in d == applied_in c then history_in c else history_in c ++ tables_in d ∷ [])

-- the board but for its words and its versions: who is out, what came home, and which passes run
abbrev pub but_versions : Board → Board
but_versions b = record (but_words b) { log = record { history = []; version = version_at 0 } }

abbrev pub KeepsCrew : Control → Control → Type 0
KeepsCrew c d = but_versions d.plane.board ≡ but_versions c.plane.board
