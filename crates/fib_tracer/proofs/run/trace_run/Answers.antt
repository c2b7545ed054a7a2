use Rattle.std.proofs.Common.{◌∙◌, ◌/◌, subst, inr}
use Rattle.fib_outside.specs.Outside.{Appends}
use Rattle.fib_rounds.specs.Writes.{AppendsSome}
use Rattle.fib_rounds.proofs.Beginning.{new_over}
use Rattle.fib_tracer.specs.inner.Printing.{told_text}
use Rattle.fib_tracer.proofs.Telling.{by_err, err_map, gains_first, gains_traces, ok_map}
use Rattle.fib_tracer.proofs.run.trace_run.Goals as goal

pub trace_on-requires-clause-fresh : goal.trace_on-requires-clause-fresh
trace_on-requires-clause-fresh g c κs within =
    new_over c.args.task.now.settings.objects c.args.task.now.settings.workers _ c.new-board.result c.in_ok-control.control (c.new-board.ensures.board ∙ c.in_ok-cells.ensures)
    c.in_ok-control.ensures.setup c.in_ok-control.ensures.rest

pub returns-clause-ok : goal.returns-clause-ok
returns-clause-ok g c =
    let before = g.K.Sink.written c.args.out.now in
    let after = g.K.Sink.written c.write_told.new.out in
    let told = c.in_ok-told.told in
    ok_map c.write_told.result (λ h. gains_traces (c.args.task.now.settings.objects / 2) c.args.task.now.script.now c.args.task.now.packets.now c.trace_on.new.control told before after
    c.in_ok-told.ensures.told (subst (λ S. Appends before after (told_text S c.args.task.now.packets.now told)) c.tables.ensures.value h)) c.write_told.ensures.ok

pub returns-clause-part : goal.returns-clause-part
returns-clause-part g c =
    let before = g.K.Sink.written c.args.out.now in
    let after = g.K.Sink.written c.write_told.new.out in
    let told = c.in_ok-told.told in
    err_map c.write_told.result (λ h. inr (gains_first (c.args.task.now.settings.objects / 2) c.args.task.now.script.now c.args.task.now.packets.now c.trace_on.new.control told before after
    c.in_ok-told.ensures.told (subst (λ S. AppendsSome before after (told_text S c.args.task.now.packets.now told)) c.tables.ensures.value h))) c.write_told.ensures.some

pub returns-clause-first : goal.returns-clause-first
returns-clause-first g c = λ is.
    let before = g.K.Sink.written c.args.out.now in
    let after = g.K.Sink.written c.write_told.new.out in
    let told = c.in_ok-told.told in
    gains_first (c.args.task.now.settings.objects / 2) c.args.task.now.script.now c.args.task.now.packets.now c.trace_on.new.control told before after
    c.in_ok-told.ensures.told (subst (λ S. AppendsSome before after (told_text S c.args.task.now.packets.now told)) c.tables.ensures.value (by_err c.write_told.result _ c.write_told.ensures.some is))
