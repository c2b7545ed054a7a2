use Rattle.std.proofs.Common.{arith, rules, refl, ap, ◌≡◌, ◌+◌, ◌++◌, sym, ◌∙◌, take, Some}
use Rattle.std.specs.Prelude.{slice_get}
use Rattle.fib_rounds_turns.specs.Routers.{router_of}
use Rattle.fib_rounds.specs.Rounds.{stage_of}
use Rattle.fib_tracer.specs.Lines.{traced_turn}
use Rattle.fib_tracer.proofs.Going.{gone_more, gone_none, stage_line, taken_at}
use Rattle.fib_tracer.proofs.lines.run_lines.Goals as goal

pub lines-init : goal.lines-init
lines-init g c = record {
  gone = gone_none (take c.args.to c.args.task.now.script.now) c.args.from (stage_of c.args.control.now c.args.reading.now.progress) c.args.reading.now.text.items;
  inside = c.requires.order;
  lines = c.requires.lines;
  few = c.requires.few;
  alone = c.requires.alone;
  keeps = refl;
}

pub lines-preserved : goal.lines-preserved
lines-preserved g c =
    let script = c.args.task.now.script.now in
    let place = c.lines.place in
    let line = c.line.result.now in
    let inv = c.lines.invariant in
    let told = c.in_ok-run_line.ensures in
    let number = ap (λ n. n + 1) inv.lines in
    let here : slice_get script place ≡ Some line = search rules in
    let at = taken_at script c.args.to place line c.lines-test.true here in
    let router = told.router ∙ ap (λ n. (traced_turn n (router_of c.lines.control c.lines.reading.progress) line).0) number in
    let text = told.text ∙ ap (λ n. c.lines.reading.text.items ++ (traced_turn n (router_of c.lines.control c.lines.reading.progress) line).1) number in
    record {
      gone = gone_more (take c.args.to script) c.args.from (stage_of c.args.control.now c.args.reading.now.progress) c.args.reading.now.text.items place
          (stage_of c.lines.control c.lines.reading.progress) c.lines.reading.text.items (stage_of c.run_line.new.control c.run_line.new.reading.progress) c.run_line.new.reading.text.items line
          inv.gone at (stage_line (place + 1) c.lines.control c.run_line.new.control c.lines.reading.progress c.run_line.new.reading.progress line told.grown router) text;
      inside = omega (arith, c.lines-test.true);
      lines = told.lines ∙ number;
      few = omega (arith, told.few, told.lines, inv.lines);
      alone = told.alone;
      keeps = told.keeps ∙ inv.keeps;
    }
