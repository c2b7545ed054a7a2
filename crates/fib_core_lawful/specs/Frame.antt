-- The rule is a frame and a list of parts. The frame says which seats there are, whose views they have, and who may store which word. A part is a
-- fact about the control plane's view, about a worker's view beside it, or about a note beside it.
use Rattle.std.specs.Prelude.{◌≡◌, ℕ, ◌+◌, ◌<◌, ◌≤◌, false, true, List, length, slice_index, slice_index_or}
use mathlib.Core.Option.{some}
use lib.ListN.{get_elem?}
use Rattle.fib_core_results.specs.declared.record.Version.{Version}
use Rattle.fib_core_lawful.specs.Layout.{pass_word, first_cell}
use Rattle.fib_core_lawful.specs.State.{Desk, Control, Worker, View, control, worker, note, spent}

-- the seat has this view
abbrev pub HasView : List View → ℕ → View → Type 0
HasView views seat v = get_elem? views seat ≡ some v

pub record Parts : Type 1 where
  pub of_control : List ℕ → Control → Type 0
  pub of_worker : List ℕ → Control → Worker → Type 0
  pub of_note : List ℕ → Control → Version → Type 0

-- a worker's seat: its number is one of eight, is out and is this seat's alone, and its pass word is as it knows
pub record IsSeated (words : List ℕ) (desk : Desk) (seat_of : ℕ → ℕ) (seat number pass : ℕ) : Type 0 where
  pub below : number < 8
  pub mine : seat_of number ≡ seat
  pub away : slice_index_or desk.out number false ≡ true
  pub holds : slice_index words (pass_word number) ≡ pass

-- the control plane has seat 0 and the rule's own view; a worker's seat and a note have the parts on them
abbrev pub Fits : Parts → List ℕ → Control → (ℕ → ℕ) → ℕ → View → Type 0
Fits P words c seat_of seat (control d) = (seat ≡ 0) × (d ≡ c)
Fits P words c seat_of seat (worker w) = IsSeated words c.desk seat_of seat w.number w.pass × P.of_worker words c w
Fits P words c seat_of seat (note n) = P.of_note words c n
Fits P words c seat_of seat spent = Unit {0}

-- the pass word of a number that isn't out is as it was when that number was last at rest
pub record IsDesk (words : List ℕ) (desk : Desk) : Type 0 where
  pub outs : length desk.out ≡ 8
  pub count : length desk.rests ≡ 8
  pub same : (n : ℕ) → n < 8 → slice_index_or desk.out n false ≡ false
      → slice_index words (pass_word n) ≡ slice_index desk.rests n

-- with this control's view, and this seat for each number that is out
pub record IsFramed (P : Parts) (words : List ℕ) (views : List View) (c : Control) (seat_of : ℕ → ℕ) : Type 0 where
  pub size : first_cell ≤ length words
  pub desk : IsDesk words c.desk
  pub here : P.of_control words c
  pub fits : (seat : ℕ) (v : View) → get_elem? views seat ≡ some v → Fits P words c seat_of seat v

abbrev pub Rule : Parts → List ℕ → List View → Type 0
Rule P words views = (c : Control) × (seat_of : ℕ → ℕ) × IsFramed P words views c seat_of

-- two lists of parts as one
abbrev pub both : Parts → Parts → Parts
both P Q = record {
  of_control = λ words c. P.of_control words c × Q.of_control words c;
  of_worker = λ words c w. P.of_worker words c w × Q.of_worker words c w;
  of_note = λ words c n. P.of_note words c n × Q.of_note words c n;
}
