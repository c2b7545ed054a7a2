use Rattle.std.proofs.Common.{arith, ap, ◌∙◌, length, refl}
use Rattle.std.proofs.lemmas.Option.{slice_get_read}
use Rattle.fib_follow_told.specs.inner.Marks.{mark_by, marks_by}
use Rattle.fib_follow_told.proofs.Marking.{marks_step, marks_whole}
use Rattle.fib_follow_told.proofs.body.marks_over.Goals as goal

pub paths-preserved : goal.paths-preserved
paths-preserved c =
    let paths = c.chosen-paths.result.now in
    let f = mark_by c.args.config.now.tables c.args.view.now c.args.cover.now c.args.e in
    let p = c.index-paths-place.result in
    marks_step f paths c.args.looped.now c.paths.place p c.mark.result c.paths.out.items c.push.new.self.items
    (slice_get_read paths (length paths) c.paths.place p refl c.paths-test.true c.index-paths-place.is)
    c.paths.invariant (c.mark.ensures ∙ ap (f p) c.flag_at-flag.ensures) c.in_ok-push.ensures.items

pub returns : goal.returns
returns c =
    let over = c.paths-test.false in
    let paths = c.chosen-paths.result.now in
    let f = mark_by c.args.config.now.tables c.args.view.now c.args.cover.now c.args.e in
    marks_whole f paths c.args.looped.now c.paths.place c.paths.out.items (omega (arith, over)) c.paths.invariant
    ∙ ap (λ l. marks_by f l c.args.looped.now) c.chosen-paths.ensures.value
