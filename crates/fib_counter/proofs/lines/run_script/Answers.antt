use Rattle.std.proofs.Common.{arith, rules, refl, ap, ◌≡◌, ◌+◌, ◌++◌, sym, ◌∙◌}
use Rattle.std.specs.Prelude.{slice_get, Some, codes}
use Rattle.fib_rounds_turns.specs.Routers.{router_of}
use Rattle.fib_rounds.proofs.Lining.{history_by}
use Rattle.fib_rounds.proofs.Turning.{change_turn_steps}
use Rattle.fib_counter.specs.CountOutput.{count_turn}
use Rattle.fib_counter.proofs.Lining.{lines_end, lines_more}
use Rattle.fib_counter.proofs.lines.run_script.Goals as goal

pub lines-init : goal.lines-init
lines-init g c = record {
  router = refl;
  text = refl;
  inside = omega arith;
  lines = ap (λ p. p.lines) c.requires.fresh;
  alone = ap (λ p. p.batch) c.requires.fresh;
  few = omega (arith, c.requires.none);
  history = λ h. h;
  keeps = refl;
}

pub lines-preserved : goal.lines-preserved
lines-preserved g c =
    let script = c.args.script.now in
    let place = c.lines.place in
    let line = c.line-line.result.now in
    let inv = c.lines.invariant in
    let told = c.in_ok-run_change_line.ensures in
    let number = ap (λ n. n + 1) inv.lines in
    let at : slice_get script place ≡ Some line = search rules in
    let r = router_of c.lines.control c.lines.progress in
    let router = told.router ∙ ap (λ n. (count_turn n r line).0) number in
    let text = told.text ∙ ap (λ n. c.lines.text.items ++ (count_turn n r line).1) number in
    let more = lines_more script place line r (router_of c.run_change_line.new.control c.run_change_line.new.progress) c.lines.text.items c.run_change_line.new.out.items at router text in
    record {
      router = more.0 ∙ inv.router;
      text = more.1 ∙ inv.text;
      inside = omega (arith, c.lines-test.true, c.lines-in-lines.ensures.value);
      lines = told.lines ∙ number;
      alone = told.alone;
      few = omega (arith, told.few, told.lines, inv.lines);
      history = λ h. history_by c.lines.control c.run_change_line.new.control c.lines.progress c.run_change_line.new.progress _ told.grown told.router
          (change_turn_steps (codes "not counted") (c.lines.progress.lines + 1) r line) (inv.history h);
      keeps = told.keeps ∙ inv.keeps;
    }

pub returns-clause-router : goal.returns-clause-router
returns-clause-router g c =
    let inv = c.lines.invariant in
    sym (lines_end (c.lines.place + 1) (router_of c.lines.control c.lines.progress) c.args.script.now c.lines.place (omega (arith, c.lines-test.false, c.lines-in-lines.ensures.value))).0 ∙ inv.router

pub returns-clause-text : goal.returns-clause-text
returns-clause-text g c =
    let inv = c.lines.invariant in
    sym ((lines_end (c.lines.place + 1) (router_of c.lines.control c.lines.progress) c.args.script.now c.lines.place (omega (arith, c.lines-test.false, c.lines-in-lines.ensures.value))).1 c.lines.text.items) ∙ inv.text
