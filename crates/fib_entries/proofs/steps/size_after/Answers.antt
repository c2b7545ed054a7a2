use Rattle.std.proofs.Common.{sym, ap, ◌∙◌, subst}
use Rattle.std.proofs.lemmas.Result.{IfOk-weaker}
use Rattle.fib_entries_rows.specs.Known.{Known}
use Rattle.fib_entries.specs.inner.Planned.{AreRowsNoted}
use Rattle.fib_entries.proofs.steps.size_after.Goals as goal

pub sized-requires : goal.sized-requires
sized-requires c = c.rows.ensures.rows ∙ ap (λ (v : Known). v.rows) c.before-2.ensures

pub returns : goal.returns
returns c =
    let k = c.args.course.now in
    let noted = subst (λ (v : Known). AreRowsNoted v k.features.now) (sym c.requires.same) c.requires.noted in
    IfOk-weaker c.sized.result _ _ (λ n f. λ S h. f S k.after.now.tables h (c.in_ok-held.ensures S k.after.now.tables h noted)) c.sized.ensures.size
