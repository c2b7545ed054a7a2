-- How a seat's fields, its table and its view belong together.
use Rattle.std.specs.Prelude.{◌≡◌, ℕ, ◌+◌, ◌-◌, ◌*◌, ◌%◌, ◌^◌, ◌<◌, ◌≤◌, List, Bool, false, length, slice_index, if◌then◌else◌}
use Rattle.atomic_table.specs.Table.{Me}
use Rattle.fib_resolve.specs.declared.types.Tables.{Tables}
use Rattle.fib_core_results.specs.declared.record.Version.{Version}
use Rattle.fib_core.specs.declared.word.Word.{Word}
use Rattle.fib_core.specs.Words.{is_edge, value_of}
use Rattle.fib_core.specs.Trails.{IsSoundTrail, stands}
use Rattle.fib_core_lawful.specs.Layout.{words_for}
use Rattle.fib_core_lawful.specs.State.{View}
use Rattle.fib_core_board.specs.Told.{IsWithinLimits}
use Rattle.fib_cells.specs.inner.Told.{control_of, worker_of, IsControl, IsWorker, Tells}

-- what a worker's seat keeps whether it walks or not: of a table with so many words its number, its pass word, the version that it knows, and
-- how many claims it may still draw
pub record IsSat (words : ℕ) (me : Me Tables View) (number pass : ℕ) (knows : Version) (left : ℕ) : Type 0 where
  pub sat : IsWorker me
  pub size : words ≡ words_for (worker_of me.0).objects
  pub few : (worker_of me.0).objects ≤ 131072
  pub named : (worker_of me.0).number ≡ number
  pub small : number < 8
  pub passes : (worker_of me.0).pass ≡ pass
  pub version : (worker_of me.0).knows ≡ knows
  pub claims : length (worker_of me.0).claims + left ≡ 2 ^ 32 - 1

pub record IsResting (words : ℕ) (me : Me Tables View) (number pass : ℕ) (knows : Version) (left : ℕ) : Type 0 where
  pub seat : IsSat words me number pass knows left
  pub even : pass % 2 ≡ 0
  pub rests : (worker_of me.0).walks ≡ false

-- at the object where it stands
pub record IsWalking (words : ℕ) (me : Me Tables View) (number pass : ℕ) (knows : Version) (left at : ℕ) : Type 0 where
  pub seat : IsSat words me number pass knows left
  pub odd : pass % 2 ≡ 1
  pub room : pass + 1 < 2 ^ 64
  pub stays : stands (worker_of me.0).trail ≡ at
  pub sound : IsSoundTrail (worker_of me.0).objects (worker_of me.0).trail

-- the control plane's fields: its copy of the cells, the version, who is out, the pass words at rest, and how many claims came home
pub record IsLive (words objects workers : ℕ) (me : Me Tables View) (copy : List ℕ) (version : Version) (out : List Bool) (rests : List ℕ)
    (gathered : ℕ) : Type 0 where
  pub sat : IsControl me
  pub size : words ≡ words_for objects
  pub limits : IsWithinLimits objects workers
  pub all : (control_of me.0).objects ≡ objects
  pub crew : (control_of me.0).workers ≡ workers
  pub cells : (control_of me.0).union.cells ≡ copy
  pub now : (control_of me.0).log.version ≡ version
  pub outs : (control_of me.0).desk.out ≡ out
  pub eight : length out ≡ 8
  pub rested : (control_of me.0).desk.rests ≡ rests
  pub also : length rests ≡ 8
  pub even : (n : ℕ) → slice_index rests n % 2 ≡ 0
  pub count : length (control_of me.0).gathered ≡ gathered
  pub told : Tells (control_of me.0)

-- the object to which an edge leads, or else this one
abbrev pub moved_to : Word → ℕ → ℕ
moved_to w at = if is_edge w then value_of w else at
