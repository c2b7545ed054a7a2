use Rattle.std.proofs.Common.{arith, rules, refl, ap, ◌≡◌, ◌+◌, ◌++◌, sym, ◌∙◌, subst, drop}
use Rattle.std.specs.Prelude.{slice_get, Some, is_some, true, None}
use Rattle.fib_rounds_turns.specs.Routers.{router_of}
use Rattle.fib_rounds_turns.specs.Turns.{asks, turn_of}
use Rattle.fib_rounds.specs.Rounds.{GoesOn, StopsAt, stage_of}
use Rattle.fib_rounds.proofs.Lining.{on_none, on_more, stage_line, history_line, asked_is_same, asked_stage, stops_here, asks_none, lines_asked}
use Rattle.fib_rounds.proofs.lines.run_lines.Goals as goal

pub lines-init : goal.lines-init
lines-init g c = record {
  on = on_none c.args.script.now c.args.from (stage_of c.args.control.now c.args.progress.now) c.args.text.now.items;
  later = omega arith;
  inside = c.requires.inside;
  lines = c.requires.lines;
  few = c.requires.few;
  history = λ h. h;
  keeps = refl;
}

pub lines-preserved : goal.lines-preserved
lines-preserved g c =
    let script = c.args.script.now in
    let place = c.lines.place in
    let line = c.line-line.result.now in
    let inv = c.lines.invariant in
    let told = c.in_ok-asked.ensures in
    let number = ap (λ n. n + 1) inv.lines in
    let at : slice_get script place ≡ Some line = search rules in
    let none : asks (router_of c.lines.control c.lines.progress) line ≡ None = asks_none c.in_ok-asked.asked _ told.asks (sym c.is_some.ensures ∙ c.if-is_some.false) in
    let router = told.router ∙ ap (λ n. (turn_of n (router_of c.lines.control c.lines.progress) line).0) number in
    let text = told.text ∙ ap (λ n. c.lines.text.items ++ (turn_of n (router_of c.lines.control c.lines.progress) line).1) number in
    record {
      on = on_more script c.args.from (stage_of c.args.control.now c.args.progress.now) c.args.text.now.items place (stage_of c.lines.control c.lines.progress) c.lines.text.items (stage_of c.run_line.new.control c.run_line.new.progress) c.run_line.new.out.items line
          inv.on inv.later at none (stage_line (place + 1) c.lines.control c.run_line.new.control c.lines.progress c.run_line.new.progress line told.grown router) text;
      later = omega (arith, inv.later);
      inside = omega (arith, c.lines-test.true, c.lines-in-lines.ensures.value);
      lines = told.lines ∙ number;
      few = omega (arith, told.few, told.lines, inv.lines);
      history = λ h. history_line (place + 1) c.lines.control c.run_line.new.control c.lines.progress c.run_line.new.progress line told.grown router (inv.history h);
      keeps = told.keeps ∙ inv.keeps;
    }

pub returns-then-is_some-clause-on : goal.returns-then-is_some-clause-on
returns-then-is_some-clause-on g c =
    let told = c.in_ok-asked.ensures in
    let inv = c.lines.invariant in
    let some : is_some c.in_ok-asked.asked ≡ true = sym c.is_some.ensures ∙ c.if-is_some.true in
    let same = asked_is_same (c.lines.progress.lines + 1) (router_of c.lines.control c.lines.progress) (router_of c.run_line.new.control c.run_line.new.progress) c.line-line.result.now c.lines.text.items c.run_line.new.out.items c.in_ok-asked.asked told.asks some told.router told.text in
    let stage = asked_stage c.lines.control c.run_line.new.control c.lines.progress c.run_line.new.progress same.0 told.grown in
    subst (λ t. GoesOn c.args.script.now c.args.from (stage_of c.args.control.now c.args.progress.now) c.args.text.now.items c.lines.place (stage_of c.run_line.new.control c.run_line.new.progress) t) (sym same.1)
    (subst (λ s. GoesOn c.args.script.now c.args.from (stage_of c.args.control.now c.args.progress.now) c.args.text.now.items c.lines.place s c.lines.text.items) (sym stage) inv.on)

pub returns-then-is_some-clause-stops : goal.returns-then-is_some-clause-stops
returns-then-is_some-clause-stops g c =
    let told = c.in_ok-asked.ensures in
    let some : is_some c.in_ok-asked.asked ≡ true = sym c.is_some.ensures ∙ c.if-is_some.true in
    let same = asked_is_same (c.lines.progress.lines + 1) (router_of c.lines.control c.lines.progress) (router_of c.run_line.new.control c.run_line.new.progress) c.line-line.result.now c.lines.text.items c.run_line.new.out.items c.in_ok-asked.asked told.asks some told.router told.text in
    let at : slice_get c.args.script.now c.lines.place ≡ Some c.line-line.result.now = search rules in
    subst (λ r. StopsAt (drop c.lines.place c.args.script.now) r c.in_ok-asked.asked) (sym same.0) (stops_here c.args.script.now c.lines.place (router_of c.lines.control c.lines.progress) c.line-line.result.now c.in_ok-asked.asked at told.asks some)

pub returns-then-is_some-clause-few : goal.returns-then-is_some-clause-few
returns-then-is_some-clause-few g c =
    let told = c.in_ok-asked.ensures in
    let some : is_some c.in_ok-asked.asked ≡ true = sym c.is_some.ensures ∙ c.if-is_some.true in
    let same = asked_is_same (c.lines.progress.lines + 1) (router_of c.lines.control c.lines.progress) (router_of c.run_line.new.control c.run_line.new.progress) c.line-line.result.now c.lines.text.items c.run_line.new.out.items c.in_ok-asked.asked told.asks some told.router told.text in
    omega (arith, ap (λ r. r.changes) same.0, c.lines.invariant.few)

pub returns-then-is_some-clause-history : goal.returns-then-is_some-clause-history
returns-then-is_some-clause-history g c =
    let told = c.in_ok-asked.ensures in
    λ h. history_line (c.lines.progress.lines + 1) c.lines.control c.run_line.new.control c.lines.progress c.run_line.new.progress c.line-line.result.now told.grown told.router (c.lines.invariant.history h)

pub returns-then-is_some-clause-lines : goal.returns-then-is_some-clause-lines
returns-then-is_some-clause-lines g c =
    let told = c.in_ok-asked.ensures in
    let some : is_some c.in_ok-asked.asked ≡ true = sym c.is_some.ensures ∙ c.if-is_some.true in
    lines_asked c.run_line.new.progress.lines c.lines.place c.in_ok-asked.asked some (told.lines ∙ ap (λ n. n + 1) c.lines.invariant.lines)
