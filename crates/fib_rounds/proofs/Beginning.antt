-- A control plane over fresh cells, on which a run begins.
use Rattle.std.proofs.Common.{◌≡◌, ◌/◌, ℕ, List, Option, Result, Ok, Err, OnOk, OnErr, false, refl, sym, subst, ap, ◌∙◌, zero, suc, ◌<◌, take, drop, take-append-drop, inl, inr, arith}
use Rattle.std.specs.Prelude.{◌⊎◌, replicate, slice_index, slice_index_or}
use Rattle.fib_outside.specs.Outside.{HasRisen}
use Rattle.fib_resolve.specs.Tables.{fresh}
use Rattle.fib_core_lawful.specs.State.{left_of}
use Rattle.fib_core_board.specs.Boards.{Board}
use Rattle.fib_core_board.specs.Told.{IsWithinLimits}
use Rattle.fib_cells.specs.Seats.{fresh_live}
use Rattle.fib_plane_view.specs.Promise.{Promise}
use Rattle.fib_plane.specs.Views.{promise_of}
use Rattle.fib_control.specs.Controls.{Control, promise_in}
use Rattle.fib_capture.specs.Captures.{Capture}
use Rattle.fib_core.specs.Ranges.{InRange}
use Rattle.fib_rounds_taps.specs.Taps.{Pairs}
use Rattle.fib_core.specs.declared.settings.Settings.{Settings}
use Rattle.fib_rounds.specs.Output.{FirstOutput, Output, OutputWith}
use Rattle.fib_rounds.specs.Runs.{GainsPart, GainsRun, GainsTaken, IsNew}
use Rattle.fib_rounds.specs.Writes.{Gains}

all_off : (m n : ℕ) → slice_index_or (replicate m false) n false ≡ false
all_off zero n = refl
all_off (suc m) zero = refl
all_off (suc m) (suc n) = all_off m n

all_nought : (m n : ℕ) → slice_index (replicate m 0) n ≡ 0
all_nought zero n = refl
all_nought (suc m) zero = refl
all_nought (suc m) (suc n) = all_nought m n

pub within_limits : (s : Settings) → InRange s → IsWithinLimits s.objects s.workers
within_limits s r = record { least = r.enough_objects; most = r.objects_fit; even = r.even_objects; some = r.some_worker; eight = r.few_workers }

pub new_over : (objects workers : ℕ) (id : List ℕ) (b : Board) (c : Control) → b ≡ fresh_live id objects workers → c.setup ≡ record { tables = fresh; room = b.objects / 2 }
    → promise_in c ≡ promise_of b → IsNew workers (objects / 2) c
new_over objects workers id b c is setup same =
    let rest : promise_in c ≡ promise_of (fresh_live id objects workers) = same ∙ ap promise_of is in
    record {
      setup = setup ∙ ap (λ (x : Board). record { tables = fresh; room = x.objects / 2 }) is;
      all = ap (λ (p : Promise). p.rest.workers) rest;
      history = ap (λ (p : Promise). p.rest.log.history) rest;
      version = ap (λ (p : Promise). p.rest.log.version) rest;
      none = λ n. ap (λ (p : Promise). slice_index_or p.rest.out n false) rest ∙ all_off 8 n;
      trails = ap (λ (p : Promise). p.rest.trails) rest;
      gathered = ap (λ (p : Promise). p.rest.gathered) rest;
      left = λ n lt. ap (λ (p : Promise). left_of (slice_index p.rest.rests n)) rest ∙ ap left_of (all_nought 8 n);
    }

-- a run's output is one that the script may have
pub gains_taken : {A E : Type 0} (workers room : ℕ) (script : List (List ℕ)) (packets : Capture) (c : Control) (before after : Option (List ℕ)) (old new : Option Pairs) (r : Result A E)
    → OnOk r (GainsRun workers room script packets c before after old new) → OnOk r (GainsTaken room script packets before after old new)
gains_taken workers room script packets c before after old new (Ok x) g = (g.0, g.1, g.2.output, g.3, g.4)
gains_taken workers room script packets c before after old new (Err e) g = tt

-- the output alone, whatever was taken
pub gains_output : {A E : Type 0} (room : ℕ) (script : List (List ℕ)) (packets : Capture) (before after : Option (List ℕ)) (old new : Option Pairs) (r : Result A E)
    → OnOk r (GainsTaken room script packets before after old new) → OnOk r (Gains (Output room script packets) before after)
gains_output room script packets before after old new (Ok x) g = (g.1, (g.0, g.2), g.3)
gains_output room script packets before after old new (Err e) g = tt

pub gains_first : {A E : Type 0} (room : ℕ) (script : List (List ℕ)) (packets : Capture) (before after : Option (List ℕ)) (old new : Option Pairs) (r : Result A E)
    → OnErr r (GainsPart room script packets before after old new) → OnErr r (Gains (FirstOutput room script packets) before after)
gains_first room script packets before after old new (Ok x) g = tt
gains_first room script packets before after old new (Err e) g =
    let some = g.3 in
    let whole = subst (OutputWith room script packets g.0) (sym (take-append-drop some.0 g.1)) g.2 in
    (take some.0 g.1, (drop some.0 g.1, (g.0, whole)), some.1)

-- a tap that never fails leaves the sink's count as the one that rose
pub sink_alone : (before after : ℕ) → HasRisen before after ⊎ HasRisen 0 0 → HasRisen before after
sink_alone before after (inl h) = h
sink_alone before after (inr h) = absurd (let l : ◌<◌ 0 0 = h (omega arith) in omega (arith, l))
