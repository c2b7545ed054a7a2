use Rattle.std.proofs.Common.{arith, ◌<◌, ◌∙◌, length, map, refl, sym}
use Rattle.std.proofs.lemmas.Option.{slice_get_read}
use Rattle.fib_follow_view.specs.Views.{anew_prefix}
use Rattle.fib_follow_view.specs.inner.Told.{entry_in}
use Rattle.fib_follow_sized.proofs.Walking.{key_at, map_length, walked_end, walked_found, walked_more, walked_start, walked_stop}
use Rattle.fib_follow_sized.proofs.below.is_over_made.Goals as goal

pub changed-init : goal.changed-init
changed-init c = walked_start (map anew_prefix c.args.changed.now) c.args.q (entry_in c.args.view.now) c.made_past-start.result c.made_past-start.ensures.past

pub changed-preserved : goal.changed-preserved
changed-preserved c =
    let xs = c.args.changed.now in
    let lt : c.changed.place < length xs = (let t = c.changed-test.true in let n = c.len-place-end.ensures in omega (arith, t, n)) in
    let e = c.index.result.now.prefix in
    let here = key_at anew_prefix xs c.changed.place c.index.result.now e
    (slice_get_read xs (length xs) c.changed.place c.index.result.now refl lt c.index.ensures) refl in
    walked_more (map anew_prefix xs) c.args.q (entry_in c.args.view.now) c.changed.place e here
    (sym c.is_entry.ensures.value ∙ c.if-is_entry.false) c.changed.invariant

pub returns-then-not-is_below : goal.returns-then-not-is_below
returns-then-not-is_below c =
    let xs = c.args.changed.now in
    let lt : c.changed.place < length xs = (let t = c.changed-test.true in let n = c.len-place-end.ensures in omega (arith, t, n)) in
    let e = c.index.result.now.prefix in
    let here = key_at anew_prefix xs c.changed.place c.index.result.now e
    (slice_get_read xs (length xs) c.changed.place c.index.result.now refl lt c.index.ensures) refl in
    walked_stop (map anew_prefix xs) c.args.q (entry_in c.args.view.now) c.made_past-start.result c.changed.place e c.requires c.made_past-start.ensures.past
    c.changed.auto.place here c.is_below.ensures.ply c.is_below.ensures.entry (sym c.is_below.ensures.value ∙ c.if-not-is_below.true) c.changed.invariant

pub returns-then-is_entry : goal.returns-then-is_entry
returns-then-is_entry c =
    let xs = c.args.changed.now in
    let lt : c.changed.place < length xs = (let t = c.changed-test.true in let n = c.len-place-end.ensures in omega (arith, t, n)) in
    let e = c.index.result.now.prefix in
    let here = key_at anew_prefix xs c.changed.place c.index.result.now e
    (slice_get_read xs (length xs) c.changed.place c.index.result.now refl lt c.index.ensures) refl in
    walked_found (map anew_prefix xs) c.args.q (entry_in c.args.view.now) c.changed.place e here (sym c.is_below.ensures.value ∙ c.if-not-is_below.false)
    (sym c.is_entry.ensures.value ∙ c.if-is_entry.true)

pub returns : goal.returns
returns c =
    let over = c.changed-test.false in
    let n = c.len-place-end.ensures in
    let m = map_length anew_prefix c.args.changed.now in
    walked_end (map anew_prefix c.args.changed.now) c.args.q (entry_in c.args.view.now) c.changed.place (omega (arith, over, n, m)) c.changed.invariant
