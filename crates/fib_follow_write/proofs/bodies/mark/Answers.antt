use Rattle.std.proofs.Common.{length, refl, sym, ◌∙◌, ap}
use Rattle.std.specs.Prelude.{slice_set}
use Rattle.std.proofs.lemmas.Option.{slice_get_read}
use Rattle.fib_follow_write.specs.Written.{with_marks}
use Rattle.fib_entries_rows.proofs.Linking.{no_row_at}
use Rattle.fib_entries_rows.proofs.Standing.{row_there}
use Rattle.fib_follow_write.proofs.Upon.{upon_none, upon_set}
use Rattle.fib_follow_write.proofs.bodies.mark.Goals as goal

pub returns-in-Some : goal.returns-in-Some
returns-in-Some c =
    let rows = c.args.rows.now in
    let read = slice_get_read rows (length rows) c.in-Some.place c.index_mut.result.now refl c.in-Some.ensures.inside c.index_mut.ensures.value in
    let t = row_there rows c.args.marks.prefix c.index_mut.result.now (sym c.in-Some.ensures.value ∙ read) in
    ap (slice_set rows c.in-Some.place) c.set_marks.ensures
    ∙ upon_set c.args.marks.prefix (with_marks c.args.marks) rows c.requires c.in-Some.place c.index_mut.result.now read t.1

pub returns-in-None : goal.returns-in-None
returns-in-None c =
    sym (upon_none c.args.marks.prefix (with_marks c.args.marks) c.args.rows.now (no_row_at c.args.rows.now c.args.marks.prefix c.in-None.ensures.value))
