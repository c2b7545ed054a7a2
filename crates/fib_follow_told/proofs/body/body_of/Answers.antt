use Rattle.std.proofs.Common.{◌∙◌, ap, map}
use Rattle.fib_follow_told.specs.inner.Marks.{met_by}
use Rattle.fib_follow_told.proofs.Marking.{marks_are, mets_are}
use Rattle.fib_follow_told.proofs.body.body_of.Goals as goal

pub returns-clause-body : goal.returns-clause-body
returns-clause-body c = λ S h part.
    let v = c.args.view.now in
    let T = c.args.config.now.tables in
    let e = c.args.e in
    let loops = c.in_ok-looped.ensures S T h part in
    record {
      looped = c.from_vec.ensures ∙ loops;
      met = c.from_vec-2.ensures ∙ (c.in_ok-met.ensures ∙ (ap (λ l. map (met_by v) l) c.chosen.ensures.value ∙ mets_are v S T h e));
      marked = c.from_vec-3.ensures ∙ (c.in_ok-marked.ensures ∙ marks_are v S T h e c.as_slice.result.now (c.as_slice.ensures.value ∙ loops));
    }
