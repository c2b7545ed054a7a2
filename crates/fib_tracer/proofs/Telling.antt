-- What a traced run tells is what it may print.
use Rattle.std.proofs.Common.{◌≡◌, ◌≤◌, ◌+◌, ◌++◌, ◌/◌, [], ℕ, List, Option, Result, Ok, Err, OnOk, OnErr, length, take, drop, ap, ◌∙◌, sym, subst, take-append-drop, Some, ◌⊎◌, inl, inr}
use Rattle.std.specs.Prelude.{None, min}
use Rattle.fib_resolve.specs.declared.types.Tables.{Tables}
use Rattle.fib_base_lines.specs.Lines.{lines_of}
use Rattle.fib_capture.specs.Captures.{Capture}
use Rattle.fib_outside.specs.Outside.{Appends}
use Rattle.fib_core_board.specs.Boards.{Board}
use Rattle.fib_control.specs.Controls.{Control, tables_in}
use Rattle.fib_worker_crew.specs.Packets.{Matched}
use Rattle.fib_rounds_turns.specs.Changes.{Stays}
use Rattle.fib_rounds_turns.specs.Routers.{KeepsCrew, Progress, applied_in, history_in}
use Rattle.fib_rounds.specs.Stages.{Stage, start}
use Rattle.fib_rounds.specs.Rounds.{stage_of}
use Rattle.fib_rounds.proofs.Rounding.{stage_stays}
use Rattle.fib_rounds.specs.Packets.{last_text}
use Rattle.fib_rounds.specs.Writes.{AppendsSome, Gains}
use Rattle.fib_run.specs.Files.{Holds, IsCapture, IsCommands}
use Rattle.fib_run.specs.Output.{FirstPart}
use Rattle.fib_tracer.specs.declared.run.Told.{Told}
use Rattle.fib_tracer.specs.declared.words.Wanted.{Wanted}
use Rattle.fib_tracer.specs.Lines.{after_trace, before_trace, closing, lines_text, opening}
use Rattle.fib_tracer.specs.Passes.{AreTraced, IsTraced, passes_text}
use Rattle.fib_tracer.specs.TraceOutput.{HasTold, MayTrace, TraceOutput}
use Rattle.fib_tracer.specs.Words.{wanted_in}
use Rattle.fib_tracer.specs.inner.Printing.{told_text}
use Rattle.fib_tracer.specs.inner.Going.{HasGone}
use Rattle.fib_tracer.proofs.Going.{closed_at, opened_at, printed}
use Rattle.fib_tracer.proofs.Standing.{traced_made}

pub tells_output : (room : ℕ) (script : List (List ℕ)) (packets : Capture) (c : Control) (told : Told) → HasTold room script packets c told
    → TraceOutput room script packets (told_text (tables_in c) packets told)
tells_output room script packets c told t =
    let k = (opening room script).router.changes in
    let H = (closing room script).history in
    let rest = λ (S : Tables). passes_text S 0 packets.packets told.passes.items ++ last_text packets.cut in (
      told.passes.items,
      record {
        traced = subst (Matched (IsTraced k H) packets.packets) (sym t.traced.passes) (traced_made k H packets.packets t.traced.made t.traced.each);
        text = ap (λ xs. xs ++ rest (tables_in c)) t.text ∙ ap (λ S. lines_text room script ++ rest S) t.tables;
      },
    )

pub gains_traces : (room : ℕ) (script : List (List ℕ)) (packets : Capture) (c : Control) (told : Told) (before after : Option (List ℕ)) → HasTold room script packets c told
    → Appends before after (told_text (tables_in c) packets told) → Gains (TraceOutput room script packets) before after
gains_traces room script packets c told before after t appended = (told_text (tables_in c) packets told, tells_output room script packets c told t, appended)

pub gains_first : (room : ℕ) (script : List (List ℕ)) (packets : Capture) (c : Control) (told : Told) (before after : Option (List ℕ)) → HasTold room script packets c told
    → AppendsSome before after (told_text (tables_in c) packets told) → Gains (FirstPart (TraceOutput room script packets)) before after
gains_first room script packets c told before after t some =
    let all = told_text (tables_in c) packets told in
    (take some.0 all, (drop some.0 all, subst (TraceOutput room script packets) (sym (take-append-drop some.0 all)) (tells_output room script packets c told t)), some.1)

-- over the files that the words name
module _ (holds : Holds) (w : Wanted) (file : List ℕ) (packets : Capture) (commands : IsCommands (holds w.commands.now) file) (capture : IsCapture holds (Some w.capture.now) packets)
    (before after : Option (List ℕ)) where
  pub files_traced : Gains (TraceOutput (w.objects / 2) (lines_of file) packets) before after → Gains (MayTrace holds (Some (wanted_in w))) before after
  files_traced g = (g.0, (file, packets, commands, capture, g.1), g.2)

  pub files_first : Gains (FirstPart (TraceOutput (w.objects / 2) (lines_of file) packets)) before after → Gains (FirstPart (MayTrace holds (Some (wanted_in w)))) before after
  files_first g = (g.0, (g.1.0, (file, packets, commands, capture, g.1.1)), g.2)

-- ---- a run

stage_kept : (c : Control) (p q : Progress) → q.refused ≡ p.refused → p.batch ≡ None → q.batch ≡ None → stage_of c q ≡ stage_of c p
stage_kept c p q refused alone later =
    ap (λ n. record { router = record { config = c.setup; changes = applied_in c; refused = n; batch = q.batch }; history = history_in c }) refused
    ∙ ap (λ b. record { router = record { config = c.setup; changes = applied_in c; refused = p.refused; batch = b }; history = history_in c }) (later ∙ sym alone)

-- B is the control plane after the lines before `trace`, C settled, D after the tracing, E settled again
module _ (room : ℕ) (script : List (List ℕ)) (packets : Capture) (place from : ℕ) (B C D E : Control) (p1 p2 p3 : Progress) (t1 : List ℕ) (told : Told) (le : place ≤ length script)
    (before : take place script ≡ before_trace script) (after : drop (place + 1) script ≡ after_trace script) (is : from ≡ min (place + 1) (length script))
    (first : HasGone (take place script) 0 (start room) [] place (stage_of B p1) t1) (stays : Stays B C) (refused : p2.refused ≡ p1.refused) (alone : p1.batch ≡ None) (later : p2.batch ≡ None)
    (second : HasGone (take (length script) script) from (stage_of C p2) t1 (length script) (stage_of D p3) told.text.items)
    (traced : AreTraced (applied_in C) (history_in D) packets.packets D.plane.board.trails told.passes.items)
    (settles : Stays D E) (keeps : KeepsCrew D E) (settled : E.plane.board.log.version.settled ≡ applied_in E) where
  same : stage_of C p2 ≡ stage_of B p1
  same = stage_kept C p1 p2 refused alone later ∙ stage_stays B C p1 stays

  opened : stage_of C p2 ≡ opening room script
  opened = opened_at room script place from (stage_of B p1) (stage_of C p2) (stage_of D p3) t1 told.text.items le before after is first same second

  closed : stage_of D p3 ≡ closing room script
  closed = closed_at room script place from (stage_of B p1) (stage_of C p2) (stage_of D p3) t1 told.text.items le before after is first same second

  ended : stage_of E p3 ≡ closing room script
  ended = stage_stays D E p3 settles ∙ closed

  pub told_all : HasTold room script packets E told
  told_all = record {
    text = printed room script place from (stage_of B p1) (stage_of C p2) (stage_of D p3) t1 told.text.items le before after is first same second;
    traced = subst (λ ts. AreTraced (opening room script).router.changes (closing room script).history packets.packets ts told.passes.items) (sym (ap (λ (b : Board). b.trails) keeps))
        (subst (λ H. AreTraced (opening room script).router.changes H packets.packets D.plane.board.trails told.passes.items) (ap (λ (s : Stage). s.history) closed)
        (subst (λ k. AreTraced k (history_in D) packets.packets D.plane.board.trails told.passes.items) (ap (λ (s : Stage). s.router.changes) opened) traced));
    tables = ap (λ (s : Stage). s.router.config.tables) ended;
    history = ap (λ (s : Stage). s.history) ended;
    settled = settled;
  }

-- ---- by what a call answers

pub ok_map : {A E P Q : Type 0} (r : Result A E) → (P → Q) → OnOk r P → OnOk r Q
ok_map (Ok x) f p = f p
ok_map (Err e) f p = tt

pub err_map : {A E P Q : Type 0} (r : Result A E) → (P → Q) → OnErr r P → OnErr r Q
err_map (Ok x) f p = tt
err_map (Err e) f p = f p

pub by_err : {A E P : Type 0} (r : Result A E) (e : E) → OnErr r P → r ≡ Err e → P
by_err {P} r e p is = subst (λ x. OnErr x P) is p

pub part_map : {P Q R : Type 0} → (Q → R) → P ⊎ Q → P ⊎ R
part_map f (inl p) = inl p
part_map f (inr q) = inr (f q)
