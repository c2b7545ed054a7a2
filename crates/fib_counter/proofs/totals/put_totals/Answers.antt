use Rattle.std.proofs.Common.{arith, refl, ap, ◌∙◌, suc, ◌++◌}
use Rattle.fib_core_lawful.specs.Claims.{times}
use Rattle.fib_counter.specs.CountOutput.{all_totals}
use Rattle.fib_counter.proofs.Printing.{totals_begin, totals_end, totals_more}
use Rattle.fib_counter.proofs.totals.put_totals.Goals as goal

pub loop-word-init : goal.loop-word-init
loop-word-init c = record {
  text = totals_begin c.args.tables.now (λ w. times w c.args.keeper.now.tally) c.args.out.now.items;
  same = refl;
}

pub loop-word-preserved : goal.loop-word-preserved
loop-word-preserved c =
    let tally = c.args.keeper.now.tally in
    let w = c.loop-word.word in
    let inv = c.loop-word.invariant in
    record {
      text = λ more is. totals_more c.args.tables.now (λ v. times v tally) w more c.total-total.result c.loop-word.out.items c.put_total.new.out.items
          (c.args.out.now.items ++ all_totals c.args.tables.now (λ v. times v tally)) (c.total-total.ensures.total ∙ ap (λ k. times w k.tally) inv.same)
          c.in_ok-put_total.ensures (inv.text (suc more) (omega (arith, is)));
      same = c.total-total.ensures.same ∙ inv.same;
    }

pub returns : goal.returns
returns c =
    totals_end c.args.tables.now (λ v. times v c.args.keeper.now.tally) c.loop-word.word c.loop-word.out.items _
    (c.loop-word.invariant.text 0 (omega (arith, c.loop-word-test.false, c.loop-word.auto.word-end)))
