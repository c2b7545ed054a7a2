use Rattle.std.proofs.Common.{◌≡◌, ◌≤◌, ◌+◌, ◌-◌, length, arith, sym, ap, ◌∙◌, subst}
use Rattle.std.specs.Prelude.{slice_get}
use Rattle.fib_resolve.specs.declared.types.Tables.{Tables}
use Rattle.fib_checker.specs.Ready.{IsReady}
use Rattle.fib_checker.proofs.Lines.{lines_end, lines_more}
use Rattle.fib_checker.proofs.run.run_script.Goals as goal

pub loop-before-preserved : goal.loop-before-preserved
loop-before-preserved c =
    let script = c.args.script.now in
    let place = c.loop-before.before in
    let old = c.loop-before.checker in
    let new = c.run_line.new.checker in
    let t = c.in_ok-run_line.ensures in
    let number : place ≡ place + 1 - 1 = omega arith in
    record {
      ready = subst (λ (S : Tables). IsReady S new) (sym t.ready.tables) t.ready;
      printed = lines_more script place c.line.result.now old.config.tables new.config.tables c.loop-before.out.items c.run_line.new.out.items
          (ap (λ n. slice_get script n) number ∙ c.line.ensures) t.ready.tables t.printed ∙ c.loop-before.invariant.printed;
    }

pub returns : goal.returns
returns c =
    let script = c.args.script.now in
    let past : length script ≤ c.loop-before.before = omega (arith, c.loop-before-test.false, c.lines-before-end.ensures.value) in
    sym (lines_end (c.loop-before.before + 1) c.loop-before.checker.config.tables script c.loop-before.before c.loop-before.out.items past) ∙ c.loop-before.invariant.printed
