use Rattle.std.proofs.Common.{arith, ◌≡◌, true, [], Some, length, refl, slice_get}
use Rattle.std.specs.Prelude.{Contains}
use Rattle.std.proofs.lemmas.Option.{slice_get_read, slice_get_within}
use Rattle.fib_base_list.proofs.Lists.{Contains-nil}
use Rattle.fib_entries_rows.proofs.PlyOrder.{index_of}
use Rattle.fib_entries_rows.proofs.Seeing.{each_more, more_in, more_self}
use Rattle.fib_follow_part.specs.inner.Searched.{is_led}
use Rattle.fib_follow_part.proofs.Searching.{then_sees}
use Rattle.fib_follow_part.proofs.seen.see_all_led.Goals as goal

pub changed-init : goal.changed-init
changed-init c = ((more_self c.args.seen.now, c.requires, λ t k. absurd (Contains-nil t k)), λ i x lt at. absurd (omega (arith, lt)))

pub see_led-requires : goal.see_led-requires
see_led-requires c = c.changed.invariant.0.1

pub changed-preserved : goal.changed-preserved
changed-preserved c =
    let v = c.args.view.now in
    let xs = c.args.changed.now in
    let x = c.index.result.now in
    let here : slice_get xs c.changed.place ≡ Some x =
    slice_get_read xs (length xs) c.changed.place x refl
    (let lt = c.changed-test.true in let n = c.len-place-end.ensures in omega (arith, lt, n)) c.index.ensures in
    let more = c.in_ok-see_led.ensures.more in (
      then_sees [] c.args.seen.now c.changed.seen c.see_led.new.seen c.changed.invariant.0 more,
      each_more (λ y l. is_led v c.args.in_any_case y.prefix ≡ true → Contains l y.prefix) (λ y a b m f k. more_in a b m y.prefix (f k))
          xs c.changed.place x c.changed.seen c.see_led.new.seen here more.0 c.changed.invariant.1 c.in_ok-see_led.ensures.led,
    )

pub returns-clause-more : goal.returns-clause-more
returns-clause-more c = c.changed.invariant.0

pub returns-clause-led : goal.returns-clause-led
returns-clause-led c = λ x k is.
    let xs = c.args.changed.now in
    let g = index_of xs x k in
    let inside = slice_get_within xs g.0 x g.1 in
    let over = c.changed-test.false in
    let n = c.len-place-end.ensures in
    c.changed.invariant.1 g.0 x (omega (arith, inside, over, n)) g.1 is
