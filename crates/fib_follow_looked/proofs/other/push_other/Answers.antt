use Rattle.std.proofs.Common.{inl, inr, refl, sym, ◌∙◌, ap}
use Rattle.std.proofs.lemmas.Bool.{false≢true}
use Rattle.std.proofs.lemmas.Result.{on_ok_weaker}
use Rattle.fib_entries_rows.specs.Known.{row_of}
use Rattle.fib_follow_looked.proofs.other.push_other.Goals as goal

pub returns-then-is_as_found-clause-grown : goal.returns-then-is_as_found-clause-grown
returns-then-is_as_found-clause-grown c = inl refl

pub returns-then-is_as_found-clause-step : goal.returns-then-is_as_found-clause-step
returns-then-is_as_found-clause-step c = λ S T h fresh covered.
    inl (
      refl,
      (c.is_as_found.ensures c.args.before.now S T (sym c.lists.ensures)
          (c.row.ensures.value ∙ ap (row_of c.args.before.now.rows) c.prefix.ensures) h fresh).0 c.if-is_as_found.true,
    )

pub returns-clause-grown : goal.returns-clause-grown
returns-clause-grown c = on_ok_weaker c.push.result (λ is. inr (c.anew_of.result, c.anew_of.ensures.prefix, is)) c.push.ensures.ok

pub returns-clause-step : goal.returns-clause-step
returns-clause-step c = on_ok_weaker c.push.result
    (λ is. λ S T h fresh covered. inr (
      c.anew_of.result,
      c.anew_of.ensures.prefix,
      is,
      c.anew_of.ensures.made T fresh covered,
      λ same. false≢true (sym c.if-is_as_found.false
          ∙ (c.is_as_found.ensures c.args.before.now S T (sym c.lists.ensures)
          (c.row.ensures.value ∙ ap (row_of c.args.before.now.rows) c.prefix.ensures) h fresh).1 same),
    )) c.push.ensures.ok
