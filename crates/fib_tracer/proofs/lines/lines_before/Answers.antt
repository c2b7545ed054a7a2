use Rattle.std.proofs.Common.{arith, refl, rules, ◌≡◌, Some, ◌∙◌, sym, true, false}
use Rattle.std.specs.Prelude.{slice_get}
use Rattle.fib_tracer.specs.Lines.{is_trace}
use Rattle.fib_tracer.proofs.Going.{after_at, after_end, after_found, before_at, before_end, before_found}
use Rattle.fib_tracer.proofs.lines.lines_before.Goals as goal

pub lines-preserved : goal.lines-preserved
lines-preserved c =
    let script = c.args.script.now in
    let place = c.lines.place in
    let at : slice_get script place ≡ Some c.line.result.now = search rules in
    let no : is_trace c.line.result.now ≡ false = sym c.is_trace.ensures ∙ c.if-is_trace.false in
    record {
      before = before_at script place c.line.result.now at no c.lines.invariant.before;
      after = after_at script place c.line.result.now at no c.lines.invariant.after;
      inside = omega (arith, c.lines-test.true, c.lines-in-lines.ensures.value);
    }

pub returns-then-is_trace-clause-before : goal.returns-then-is_trace-clause-before
returns-then-is_trace-clause-before c =
    let at : slice_get c.args.script.now c.lines.place ≡ Some c.line.result.now = search rules in
    before_found c.args.script.now c.lines.place c.line.result.now at (sym c.is_trace.ensures ∙ c.if-is_trace.true) c.lines.invariant.before

pub returns-then-is_trace-clause-after : goal.returns-then-is_trace-clause-after
returns-then-is_trace-clause-after c =
    let at : slice_get c.args.script.now c.lines.place ≡ Some c.line.result.now = search rules in
    after_found c.args.script.now c.lines.place c.line.result.now at (sym c.is_trace.ensures ∙ c.if-is_trace.true) c.lines.invariant.after

pub returns-clause-before : goal.returns-clause-before
returns-clause-before c = before_end c.args.script.now c.lines.place (omega (arith, c.lines-test.false, c.lines-in-lines.ensures.value)) c.lines.invariant.before

pub returns-clause-after : goal.returns-clause-after
returns-clause-after c = after_end c.args.script.now c.lines.place (omega (arith, c.lines-test.false, c.lines-in-lines.ensures.value)) c.lines.invariant.after
