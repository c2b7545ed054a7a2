use Rattle.std.proofs.Common.{◌≡◌, ◌/◌, ◌⊎◌, ℕ, List, Ok, subst, Some}
use Rattle.fib_core.specs.declared.settings.Settings.{Settings}
use Rattle.fib_rounds.proofs.Writing.{on_err}
use Rattle.fib_rounds.specs.Writes.{Gains}
use Rattle.fib_run.specs.Files.{IsRead}
use Rattle.fib_run.specs.Output.{FirstPart}
use Rattle.fib_tracer.specs.TraceOutput.{TraceOutput}
use Rattle.fib_tracer.proofs.Telling.{files_first, part_map}
use Rattle.fib_tracer.proofs.top.trace_files.Goals as goal

pub returns-in_err-trace_run-clause-part : goal.returns-in_err-trace_run-clause-part
returns-in_err-trace_run-clause-part g c =
    let before = g.K.Sink.written c.args.out.now in
    let after = g.K.Sink.written c.trace_run.new.out in
    let holds = g.H.Shelf.holds c.args.shelf.now in
    let read = c.in_ok-script.ensures.ok in
    let name = c.args.wanted.capture.now in
    let packets = c.in_ok-packets.packets in
    let capture = subst (λ h. (bytes : List ℕ) × IsRead h (Ok packets) bytes) (c.in_ok-script.ensures.same name) c.in_ok-packets.ensures.ok in
    let part = subst (λ (s : Settings). (after ≡ before) ⊎ Gains (FirstPart (TraceOutput (s.objects / 2) c.in_ok-script.script packets)) before after) c.settings_for.ensures c.in_err-trace_run.ensures.part in
    let over = subst (λ script. (after ≡ before) ⊎ Gains (FirstPart (TraceOutput (c.args.wanted.objects / 2) script packets)) before after) read.2 part in
    on_err c.from_residual-in_err-trace_run.result (part_map (files_first holds c.args.wanted read.0 packets read.1 capture before after) over)
