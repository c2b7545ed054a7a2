use Rattle.std.proofs.Common.{sym, ap, ◌∙◌}
use Rattle.std.proofs.lemmas.Bool.{false≢true}
use Rattle.std.proofs.lemmas.Result.{on_ok_weaker}
use Rattle.fib_base_interned.proofs.Finding.{none_some}
use Rattle.fib_entries_rows.specs.Known.{row_of}
use Rattle.fib_follow_plan.proofs.Growing.{grows_none, row_grows}
use Rattle.fib_follow_plan.proofs.asked.push_host.Goals as goal

pub returns-then-is_changed-clause-grows : goal.returns-then-is_changed-clause-grows
returns-then-is_changed-clause-grows c = grows_none c.args.view.now c.args.covers.now c.args.out.now.items

pub returns-then-is_changed-clause-seen : goal.returns-then-is_changed-clause-seen
returns-then-is_changed-clause-seen c = λ r off at. absurd (false≢true (sym off ∙ (sym c.is_changed.ensures ∙ c.if-is_changed.true)))

pub returns-in-Some-clause-grows : goal.returns-in-Some-clause-grows
returns-in-Some-clause-grows c =
    let at = ap (λ b. row_of b.rows c.args.e) (sym c.before-2.ensures) ∙ sym c.in-Some.ensures.value in
    on_ok_weaker c.push_row.result
    (λ y. (row_grows c.args.view.now c.args.covers.now c.args.out.now.items c.push_row.new.out.items c.in-Some.row.now c.args.e at
    (sym c.is_changed.ensures ∙ c.if-is_changed.false) y).0) c.push_row.ensures

pub returns-in-Some-clause-seen : goal.returns-in-Some-clause-seen
returns-in-Some-clause-seen c =
    let at = ap (λ b. row_of b.rows c.args.e) (sym c.before-2.ensures) ∙ sym c.in-Some.ensures.value in
    on_ok_weaker c.push_row.result
    (λ y r off there. (row_grows c.args.view.now c.args.covers.now c.args.out.now.items c.push_row.new.out.items c.in-Some.row.now c.args.e at
    (sym c.is_changed.ensures ∙ c.if-is_changed.false) y).1) c.push_row.ensures

pub returns-in-None-clause-grows : goal.returns-in-None-clause-grows
returns-in-None-clause-grows c = grows_none c.args.view.now c.args.covers.now c.args.out.now.items

pub returns-in-None-clause-seen : goal.returns-in-None-clause-seen
returns-in-None-clause-seen c = λ r off at.
    absurd (none_some r (c.in-None.ensures.value ∙ (ap (λ b. row_of b.rows c.args.e) c.before-2.ensures ∙ at)))
