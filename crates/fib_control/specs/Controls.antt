-- What contracts see of a control plane, and what its calls do.
use Rattle.std.specs.Prelude.{◌≡◌, ℕ, ◌+◌, ◌<◌, ◌≤◌, ◌||◌, Bool, false, List, [], ◌∷◌, ◌++◌, Option, Some, None, Ok, Err, length}
use Rattle.std.specs.List.{list_any}
use Rattle.fib_addr.specs.Prefixes.{Prefix, same_prefix}
use Rattle.fib_resolve.specs.Edits.{edited}
use Rattle.fib_resolve.specs.Refusals.{edited_in_turn, refused}
use Rattle.fib_resolve.specs.Sizes.{size}
use Rattle.fib_resolve.specs.Touched.{is_touched}
use Rattle.fib_resolve.specs.declared.types.Edit.{Edit}
use Rattle.fib_resolve.specs.declared.types.Refusal.TheVariants as refusals
use Rattle.fib_resolve.specs.declared.types.Tables.{Tables}
use Rattle.fib_config.specs.Config.{Setup}
use Rattle.fib_entries_rows.specs.Known.{Known, rank_of}
use Rattle.fib_entries_rows.specs.declared.changes.Moved.{Moved}
use Rattle.fib_pool.specs.Objects.{free_in}
use Rattle.fib_core_board.specs.Boards.{Board, board_begun, board_settled}
use Rattle.fib_plane.specs.Planes.{AreAtRest, Plane, left_after}
use Rattle.fib_stack_queue.specs.declared.order.Queued.{Queued}
use Rattle.fib_stack_ledger.specs.declared.late.Late.{Late}
use Rattle.fib_stack_ledger.specs.declared.ledger.Known.{Known as KnownOf}
use Rattle.fib_stack_ledger.specs.Ledgers.{known_of, total}
use Rattle.fib_ply.specs.declared.rows.Row.{Row as Placed}
use Rattle.fib_entries_rows.specs.declared.rows.Row.{Row}
use Rattle.fib_stack_queue.specs.Queues.{rank_in}
use Rattle.fib_plane_view.specs.Promise.{Promise}
use Rattle.fib_plane_view.specs.View.{View}
use Rattle.fib_plane.specs.Views.{but_words, promise_of, view_of}
use Rattle.fib_stack.specs.Joined.{Parts, queued_in, state_in}
use Rattle.fib_stack.specs.Room.{Took}
use Rattle.fib_stack.specs.States.{State}
use Rattle.fib_stack.specs.declared.turn.Turn.{Turn}
use Rattle.fib_stack.specs.declared.turn.Turn.TheVariants as turns
use Rattle.fib_stack_waking.specs.Waking.{is_among}
use Rattle.fib_control.specs.declared.errors.ApplyError.{ApplyError}
use Rattle.fib_control.specs.declared.errors.ApplyError.TheVariants as errors
use Rattle.fib_control.specs.declared.errors.BatchApplyError.{BatchApplyError}
use Rattle.fib_control.specs.declared.errors.BatchApplyError.TheVariants as batch_errors
use Rattle.fib_control.specs.declared.errors.Busy.{Busy}
use Rattle.fib_control.specs.declared.following.Limits.{Limits}

pub record Control : Type 0 where
  -- the tables, and the most objects that they may take
  pub setup : Setup
  -- what is known of their entries
  pub entries : Known
  -- the objects with their words
  pub plane : Plane
  -- the prefix table, and how many plies stand for it
  pub rows : List Placed
  pub plies : ℕ
  -- what is known of prefixes since their last turns
  pub known : List (Prefix × KnownOf)
  -- the deferred buckets
  pub late : List Late
  -- the prefixes that wait for a turn, and those that had one since the last change, the latest last
  pub queue : List Queued
  pub done : List Prefix

-- the pass words of all workers were looked at, one each, even where the worker is at home; and of the copies of replaced edges exactly those left
-- that were passed for every worker then
abbrev pub ArePassed : Control → Control → Type 0
ArePassed c d = (words : List ℕ) × (length words ≡ c.plane.board.workers) × AreAtRest c.plane.board words
    × (d.plane.board.union.retired ≡ left_after 0 words c.plane.board.union.retired)

abbrev pub tables_in : Control → Tables
tables_in c = c.setup.tables

abbrev pub view_in : Control → View
view_in c = view_of c.plane

abbrev pub promise_in : Control → Promise
promise_in c = promise_of c.plane.board

abbrev pub parts_in : Control → Parts
parts_in c = record { rows = c.rows; plies = c.plies; known = known_of c.known; total = total c.known; late = c.late; queue = c.queue }

abbrev pub rank_by : Control → Prefix → ℕ
rank_by c = rank_of c.entries.rows

abbrev pub state_now : Control → State
state_now c = state_in (view_in c) (parts_in c)

abbrev pub is_queued : Control → Prefix → Bool
is_queued c d = queued_in (parts_in c) d

abbrev pub is_moved : List Moved → Prefix → Bool
is_moved ms d = list_any (λ m. same_prefix m.prefix d) ms

abbrev pub had_turn : Control → Prefix → Bool
had_turn c d = is_among c.done d

-- nothing is queued, deferred or retired
pub record IsQuiet (c : Control) : Type 0 where
  pub queued : c.queue ≡ []
  pub deferred : c.late ≡ []
  pub retired : c.plane.board.union.retired ≡ []

-- the tables were changed to these: a version more, and what the change touches is queued
pub record IsChanged (c d : Control) (T : Tables) : Type 0 where
  pub setup : d.setup ≡ record c.setup { tables = T }
  pub plane : d.plane ≡ record c.plane { board = board_begun c.plane.board T }
  pub rows : d.rows ≡ c.rows
  pub plies : d.plies ≡ c.plies
  pub known : d.known ≡ c.known
  pub late : d.late ≡ c.late
  pub queue : (e : Prefix) → is_queued d e ≡ is_queued c e || is_touched (tables_in c) T e
  pub done : d.done ≡ []

-- a fault of an edit says why: the first reason; or that fewer objects are free than the edited tables take, with both numbers
abbrev pub TellsEdit : Tables → Limits → Edit → ApplyError → Type 0
TellsEdit S l e (errors.Refused r) = refused S l.room e ≡ Some r
TellsEdit S l e (errors.Crowded free wanted) = (refused S l.room e ≡ None) × (free ≡ l.free) × (wanted ≡ size (edited S e))
    × (free < wanted)
TellsEdit S l e errors.Memory = Unit {0}

abbrev pub TellsApply : Control → Edit → ApplyError → Type 0
TellsApply c e = TellsEdit (tables_in c) (record { room = c.setup.room; free = free_in c.plane.objects }) e

-- a fault of several edits says why: the first that is refused, and its reason; or that none is, but fewer objects are free than the tables after all take
abbrev pub TellsBatch : Tables → Limits → List Edit → BatchApplyError → Type 0
TellsBatch S l es (batch_errors.Refused place r) = edited_in_turn S l.room es ≡ Err (record { place = place; refusal = r })
TellsBatch S l es (batch_errors.Crowded free wanted) =
    (T : Tables) × (edited_in_turn S l.room es ≡ Ok T) × (free ≡ l.free) × (wanted ≡ size T) × (free < wanted)
TellsBatch S l es batch_errors.Memory = Unit {0}

abbrev pub TellsApplyAll : Control → List Edit → BatchApplyError → Type 0
TellsApplyAll c es = TellsBatch (tables_in c) (record { room = c.setup.room; free = free_in c.plane.objects }) es

-- it is no want of objects
abbrev pub IsNotCrowded : ApplyError → Type 0
IsNotCrowded (errors.Refused r) = Unit {0}
IsNotCrowded (errors.Crowded free wanted) = ⊥
IsNotCrowded errors.Memory = Unit {0}

abbrev pub IsBatchNotCrowded : BatchApplyError → Type 0
IsBatchNotCrowded (batch_errors.Refused place r) = Unit {0}
IsBatchNotCrowded (batch_errors.Crowded free wanted) = ⊥
IsBatchNotCrowded batch_errors.Memory = Unit {0}

-- it is a want of objects or of memory
abbrev pub WantsMore : ApplyError → Type 0
WantsMore (errors.Refused r) = ⊥
WantsMore (errors.Crowded free wanted) = Unit {0}
WantsMore errors.Memory = Unit {0}

-- a size that is above a limit
abbrev pub IsTooMuch : Limits → ℕ → ApplyError → Type 0
IsTooMuch l n (errors.Refused r) = (r ≡ refusals.TooLarge) × (l.room < n)
IsTooMuch l n (errors.Crowded free wanted) = (n ≤ l.room) × (free ≡ l.free) × (wanted ≡ n) × (l.free < n)
IsTooMuch l n errors.Memory = Unit {0}

-- beneath these tables: a call that makes no change leaves the tables, what is known of them, and all of the board but its words
pub record IsBeneath (c d : Control) : Type 0 where
  pub setup : d.setup ≡ c.setup
  pub entries : d.entries ≡ c.entries
  pub promise : promise_in d ≡ promise_in c

-- what calls took between two changes they made, things that the size of the tables counts, and what was made stays
abbrev pub Takes : Control → Control → Type 0
Takes c d = Took (tables_in c) (state_now c) (state_now d) (view_in c).free (view_in d).free

abbrev pub noted : Turn → List Prefix → List Prefix
noted turns.Idle done = done
noted (turns.Restacked e stores dropped) done = done ++ e ∷ []

-- a prefix that has its turn had none since the last change
abbrev pub IsDoneAfter : Turn → List Prefix → List Prefix → Type 0
IsDoneAfter turns.Idle before after = after ≡ before
IsDoneAfter (turns.Restacked e stores dropped) before after = (after ≡ before ++ e ∷ []) × (is_among before e ≡ false)

-- how much waits, and that something does
pub record IsBusy (b : Busy) (c : Control) : Type 0 where
  pub queued : b.queued ≡ length c.queue
  pub deferred : b.deferred ≡ length c.late
  pub retired : b.retired ≡ length c.plane.board.union.retired
  pub some : 0 < b.queued + b.deferred + b.retired

-- the last version is settled, and nothing else is other
pub record IsSettled (c d : Control) : Type 0 where
  pub plane : d.plane ≡ record c.plane { board = board_settled c.plane.board }
  pub others : record d { plane = c.plane } ≡ c

-- the same over another board
abbrev pub with_board : Control → Board → Control
with_board c b = record c { plane = record c.plane { board = b } }

-- the board but for its words and for what is settled
abbrev pub but_settled : Board → Board
but_settled b = board_settled (but_words b)
