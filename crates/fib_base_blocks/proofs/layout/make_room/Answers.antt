use Rattle.std.proofs.Common.{arith, ◌<◌, length, ◌∙◌, ap, subst}
use Rattle.std.specs.Prelude.{slice_get, flat_map}
use Rattle.fib_base_ordered.specs.inner.Blocks.{row}
use Rattle.fib_base_blocks.specs.inner.Layout.{IsPlace, items_of}
use Rattle.fib_base_blocks.proofs.Laid.{row_is, roomy_low, roomy_high}
use Rattle.fib_base_blocks.proofs.Edits.{list_split}
use Rattle.fib_base_blocks.proofs.layout.make_room.Goals as goal

pub returns-then-at-le-HALF-clause-same : goal.returns-then-at-le-HALF-clause-same
returns-then-at-le-HALF-clause-same g c =
    let at = subst (λ l. IsPlace l c.args.place c.find-at.result.block c.find-at.result.slot) c.as_slice.ensures.value c.find-at.ensures in
    let s = c.in_ok-split.ensures.split in
    ap (λ l. flat_map items_of l) s.whole ∙ list_split items_of c.args.blocks.now.items c.find-at.result.block 128 s.low s.high at.inside s.first s.rest

pub returns-then-at-le-HALF-clause-place : goal.returns-then-at-le-HALF-clause-place
returns-then-at-le-HALF-clause-place g c =
    let bs = c.args.blocks.now.items in
    let at = subst (λ l. IsPlace l c.args.place c.find-at.result.block c.find-at.result.slot) c.as_slice.ensures.value c.find-at.ensures in
    let same = ap length (row_is bs c.find-at.result.block c.index.result.now at.inside c.index.ensures) in
    let long : 128 < length (row items_of (slice_get bs c.find-at.result.block)) = omega (arith, same, c.len.ensures, c.index.result.now.ok.0, c.if-len-lt-MOST.false) in
    roomy_low bs c.args.starts.now.items c.find-at.result.block c.requires.laid at.inside c.split.new.blocks.items c.in_ok-split.ensures.split long c.args.place c.find-at.result.slot at.place c.if-at-le-HALF.true

pub returns-clause-same : goal.returns-clause-same
returns-clause-same g c =
    let at = subst (λ l. IsPlace l c.args.place c.find-at.result.block c.find-at.result.slot) c.as_slice.ensures.value c.find-at.ensures in
    let s = c.in_ok-split.ensures.split in
    ap (λ l. flat_map items_of l) s.whole ∙ list_split items_of c.args.blocks.now.items c.find-at.result.block 128 s.low s.high at.inside s.first s.rest

pub returns-clause-place : goal.returns-clause-place
returns-clause-place g c =
    let bs = c.args.blocks.now.items in
    let at = subst (λ l. IsPlace l c.args.place c.find-at.result.block c.find-at.result.slot) c.as_slice.ensures.value c.find-at.ensures in
    let same = ap length (row_is bs c.find-at.result.block c.index.result.now at.inside c.index.ensures) in
    let long : 128 < length (row items_of (slice_get bs c.find-at.result.block)) = omega (arith, same, c.len.ensures, c.index.result.now.ok.0, c.if-len-lt-MOST.false) in
    roomy_high bs c.args.starts.now.items c.find-at.result.block c.requires.laid at.inside c.split.new.blocks.items c.in_ok-split.ensures.split long c.args.place c.find-at.result.slot at.place at.slot (omega (arith, c.if-at-le-HALF.false))
