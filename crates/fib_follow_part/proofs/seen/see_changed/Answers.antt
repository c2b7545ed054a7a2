use Rattle.std.proofs.Common.{arith, ◌≡◌, Some, length, map, refl, slice_get}
use Rattle.std.proofs.lemmas.Option.{slice_get_read}
use Rattle.fib_entries_rows.proofs.Loopings.{sees_none, sees_step, sees_whole}
use Rattle.fib_follow_view.specs.Views.{anew_prefix}
use Rattle.fib_follow_part.proofs.Searching.{get_map, map_length, only_same, only_step}
use Rattle.fib_follow_part.proofs.seen.see_changed.Goals as goal

pub changed-init : goal.changed-init
changed-init c =
    let list = map anew_prefix c.args.changed.now in (sees_none list c.args.seen.now c.requires, only_same list c.args.seen.now)

pub see-requires : goal.see-requires
see-requires c = c.changed.invariant.0.1

pub changed-preserved : goal.changed-preserved
changed-preserved c =
    let xs = c.args.changed.now in
    let x = c.index.result.now in
    let here : slice_get xs c.changed.place ≡ Some x =
    slice_get_read xs (length xs) c.changed.place x refl
    (let lt = c.changed-test.true in let n = c.len-place-end.ensures in omega (arith, lt, n)) c.index.ensures in (
      sees_step (map anew_prefix xs) c.changed.place x.prefix c.args.seen.now c.changed.seen c.see.new.seen
          (get_map anew_prefix xs c.changed.place x here) c.changed.invariant.0 c.in_ok-see.ensures.seen,
      only_step anew_prefix xs c.changed.place x c.args.seen.now c.changed.seen c.see.new.seen here c.changed.invariant.1 c.in_ok-see.ensures.only,
    )

pub returns-clause-seen : goal.returns-clause-seen
returns-clause-seen c =
    let over = c.changed-test.false in
    let n = c.len-place-end.ensures in
    let m = map_length anew_prefix c.args.changed.now in
    sees_whole (map anew_prefix c.args.changed.now) c.changed.place c.args.seen.now c.changed.seen (omega (arith, over, n, m)) c.changed.invariant.0

pub returns-clause-only : goal.returns-clause-only
returns-clause-only c = c.changed.invariant.1
