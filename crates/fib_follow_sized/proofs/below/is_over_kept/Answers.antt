use Rattle.std.proofs.Common.{arith, ◌<◌, ◌∙◌, ap, length, map, refl, sym}
use Rattle.std.proofs.lemmas.Option.{slice_get_read}
use Rattle.fib_entries_rows.specs.Known.{prefix_of}
use Rattle.fib_follow_view.specs.inner.Told.{entry_in}
use Rattle.fib_follow_sized.proofs.Walking.{key_at, map_length, walked_end, walked_found, walked_more, walked_start, walked_stop}
use Rattle.fib_follow_sized.proofs.below.is_over_kept.Goals as goal

pub rows-init : goal.rows-init
rows-init c = walked_start (map prefix_of c.args.rows.now) c.args.q (entry_in c.args.view.now) c.row_past-start.result c.row_past-start.ensures.past

pub rows-preserved : goal.rows-preserved
rows-preserved c =
    let xs = c.args.rows.now in
    let lt : c.rows.place < length xs = (let t = c.rows-test.true in let n = c.len-place-end.ensures in omega (arith, t, n)) in
    let e = c.behind-rows.inside.prefix in
    let here = key_at prefix_of xs c.rows.place c.index.result.now e
    (slice_get_read xs (length xs) c.rows.place c.index.result.now refl lt c.index.ensures)
    (sym (ap (λ z. z.prefix) c.behind-rows.view_is)) in
    walked_more (map prefix_of xs) c.args.q (entry_in c.args.view.now) c.rows.place e here (sym c.is_entry.ensures.value ∙ c.if-is_entry.false) c.rows.invariant

pub returns-then-not-is_below : goal.returns-then-not-is_below
returns-then-not-is_below c =
    let xs = c.args.rows.now in
    let lt : c.rows.place < length xs = (let t = c.rows-test.true in let n = c.len-place-end.ensures in omega (arith, t, n)) in
    let e = c.behind-rows.inside.prefix in
    let here = key_at prefix_of xs c.rows.place c.index.result.now e
    (slice_get_read xs (length xs) c.rows.place c.index.result.now refl lt c.index.ensures)
    (sym (ap (λ z. z.prefix) c.behind-rows.view_is)) in
    walked_stop (map prefix_of xs) c.args.q (entry_in c.args.view.now) c.row_past-start.result c.rows.place e c.requires c.row_past-start.ensures.past
    c.rows.auto.place here c.is_below.ensures.ply c.is_below.ensures.entry (sym c.is_below.ensures.value ∙ c.if-not-is_below.true) c.rows.invariant

pub returns-then-is_entry : goal.returns-then-is_entry
returns-then-is_entry c =
    let xs = c.args.rows.now in
    let lt : c.rows.place < length xs = (let t = c.rows-test.true in let n = c.len-place-end.ensures in omega (arith, t, n)) in
    let e = c.behind-rows.inside.prefix in
    let here = key_at prefix_of xs c.rows.place c.index.result.now e
    (slice_get_read xs (length xs) c.rows.place c.index.result.now refl lt c.index.ensures)
    (sym (ap (λ z. z.prefix) c.behind-rows.view_is)) in
    walked_found (map prefix_of xs) c.args.q (entry_in c.args.view.now) c.rows.place e here (sym c.is_below.ensures.value ∙ c.if-not-is_below.false)
    (sym c.is_entry.ensures.value ∙ c.if-is_entry.true)

pub returns : goal.returns
returns c =
    let over = c.rows-test.false in
    let n = c.len-place-end.ensures in
    let m = map_length prefix_of c.args.rows.now in
    walked_end (map prefix_of c.args.rows.now) c.args.q (entry_in c.args.view.now) c.rows.place (omega (arith, over, n, m)) c.rows.invariant
