use Rattle.std.proofs.Common.{◌++◌, ◌∙◌, subst}
use Rattle.fib_rounds.specs.Packets.{last_text}
use Rattle.fib_rounds.specs.Writes.{AppendsSome}
use Rattle.fib_rounds.proofs.Writing.{on_err}
use Rattle.fib_tracer.specs.Passes.{passes_text}
use Rattle.fib_tracer.specs.inner.Printing.{HasMoved}
use Rattle.fib_tracer.proofs.Moving.{last_cut, last_some, moved_last, moved_some}
use Rattle.fib_tracer.proofs.put.write_told.Goals as goal

pub returns-clause-ok : goal.returns-clause-ok
returns-clause-ok g c =
    let moved = subst (λ qs. HasMoved (g.K.Sink.written c.args.out.now) (g.K.Sink.written c.write_passes.new.out)
    (c.args.told.text.items ++ passes_text c.args.tables.now 0 c.args.packets.now.packets qs) c.write_passes.new.text.items) c.deref.ensures.value c.in_ok-write_passes.ensures.ok in
    moved_last _ _ _ _ _ _ _ _ moved (c.deref-2.ensures.value ∙ c.in_ok-put_last.ensures) c.in_ok-put_all.ensures.ok

pub returns-in_err-write_passes-clause-some : goal.returns-in_err-write_passes-clause-some
returns-in_err-write_passes-clause-some g c =
    let before = g.K.Sink.written c.args.out.now in
    let after = g.K.Sink.written c.write_passes.new.out in
    let some = subst (λ qs. AppendsSome before after (c.args.told.text.items ++ passes_text c.args.tables.now 0 c.args.packets.now.packets qs)) c.deref.ensures.value c.in_err-write_passes.ensures.some in
    on_err c.from_residual.result
    (last_some before after c.args.told.text.items (passes_text c.args.tables.now 0 c.args.packets.now.packets c.args.told.passes.items) (last_text c.args.packets.now.cut) some)

pub returns-in_err-put_last-clause-some : goal.returns-in_err-put_last-clause-some
returns-in_err-put_last-clause-some g c =
    let before = g.K.Sink.written c.args.out.now in
    let after = g.K.Sink.written c.write_passes.new.out in
    let moved = subst (λ qs. HasMoved before after (c.args.told.text.items ++ passes_text c.args.tables.now 0 c.args.packets.now.packets qs) c.write_passes.new.text.items) c.deref.ensures.value
    c.in_ok-write_passes.ensures.ok in
    on_err c.from_residual-in_err-put_last.result
    (last_some before after c.args.told.text.items (passes_text c.args.tables.now 0 c.args.packets.now.packets c.args.told.passes.items) (last_text c.args.packets.now.cut) (moved_some _ _ _ _ moved))

pub returns-in_err-put_all-clause-some : goal.returns-in_err-put_all-clause-some
returns-in_err-put_all-clause-some g c =
    let moved = subst (λ qs. HasMoved (g.K.Sink.written c.args.out.now) (g.K.Sink.written c.write_passes.new.out)
    (c.args.told.text.items ++ passes_text c.args.tables.now 0 c.args.packets.now.packets qs) c.write_passes.new.text.items) c.deref.ensures.value c.in_ok-write_passes.ensures.ok in
    on_err c.from_residual-in_err-put_all.result
    (last_cut _ _ _ _ _ _ _ _ moved (c.deref-2.ensures.value ∙ c.in_ok-put_last.ensures) c.in_err-put_all.ensures.err)
