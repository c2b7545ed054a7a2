use Rattle.std.proofs.Common.{length, refl, sym, ◌∙◌, ap}
use Rattle.std.specs.Prelude.{slice_set}
use Rattle.std.proofs.lemmas.Option.{slice_get_read}
use Rattle.fib_entries_rows.specs.inner.Coming.{with_pairs}
use Rattle.fib_entries_rows.proofs.Linking.{no_row_at}
use Rattle.fib_entries_rows.proofs.Standing.{row_there}
use Rattle.fib_follow_write.proofs.Upon.{upon_none, upon_set}
use Rattle.fib_follow_write.proofs.bodies.pair.Goals as goal

pub returns-in-Some : goal.returns-in-Some
returns-in-Some c =
    let rows = c.args.rows.now in
    let read = slice_get_read rows (length rows) c.in-Some.place c.index_mut.result.now refl c.in-Some.ensures.inside c.index_mut.ensures.value in
    let t = row_there rows c.args.entry.prefix c.index_mut.result.now (sym c.in-Some.ensures.value ∙ read) in
    ap (slice_set rows c.in-Some.place) c.set_pairs.ensures
    ∙ upon_set c.args.entry.prefix (with_pairs c.args.entry.pairs) rows c.requires c.in-Some.place c.index_mut.result.now read t.1

pub returns-in-None : goal.returns-in-None
returns-in-None c =
    sym (upon_none c.args.entry.prefix (with_pairs c.args.entry.pairs) c.args.rows.now
    (no_row_at c.args.rows.now c.args.entry.prefix c.in-None.ensures.value))
