use Rattle.std.proofs.Common.{arith, ◌≡◌, ◌+◌, ◌<◌, ◌≤◌, get_or, length, sym, ◌∙◌, ap, subst}
use Rattle.std.specs.Prelude.{flat_map}
use Rattle.std.specs.List.Sorted.{IsNonDecreasingBy, IsPartitionPoint}
use Rattle.std.specs.Ordering.{ordering_index}
use Rattle.std.specs.declared.cmp.Ordering.TheVariants.{Less, Equal, Greater}
use Rattle.fib_base_blocks.specs.inner.Layout.{items_of}
use Rattle.fib_base_blocks.proofs.Laid.{laid_long, laid_start}
use Rattle.fib_base_blocks.proofs.Searching.{inside, within, read, parted}
use Rattle.fib_base_blocks.proofs.search.search.Goals as goal

pub bounds-starts-block : goal.bounds-starts-block
bounds-starts-block g c = omega (arith, laid_long c.args.blocks.now c.args.starts.now c.requires.laid, c.block_for-block.ensures.inside)

pub returns-in-Ok-clause-bound : goal.returns-in-Ok-clause-bound
returns-in-Ok-clause-bound g c =
    let bs = c.args.blocks.now in
    let i = c.block_for-block.result in
    omega (arith, laid_start bs c.args.starts.now i 0 c.requires.laid c.block_for-block.ensures.inside, within (g.S.Sought.order c.args.sought.now) bs i c.index-blocks-block.result c.block_for-block.ensures.inside c.index-blocks-block.is c.in-Ok.slot (omega (arith, c.in-Ok.ensures.bound, ap length c.as_slice.ensures.value)))

pub returns-in-Ok-clause-position : goal.returns-in-Ok-clause-position
returns-in-Ok-clause-position g c = λ d.
    let order = g.S.Sought.order c.args.sought.now in
    let bs = c.args.blocks.now in
    let i = c.block_for-block.result in
    let j = c.in-Ok.slot in
    let start = laid_start bs c.args.starts.now i 0 c.requires.laid c.block_for-block.ensures.inside in
    let less : c.in-Ok.slot < length c.index-blocks-block.result.items = omega (arith, c.in-Ok.ensures.bound, ap length c.as_slice.ensures.value) in
    let here : order (get_or c.as_slice.result.now j d) ≡ Equal = c.in-Ok.ensures.position d in
    ap (λ n. order (get_or (flat_map items_of bs) (n + j) d)) start ∙ (ap order (read order bs i c.index-blocks-block.result c.block_for-block.ensures.inside c.index-blocks-block.is j d less) ∙ (ap (λ l. order (get_or l j d)) (sym c.as_slice.ensures.value) ∙ here))

pub returns-in-Err-clause-bound : goal.returns-in-Err-clause-bound
returns-in-Err-clause-bound g c =
    let bs = c.args.blocks.now in
    let i = c.block_for-block.result in
    omega (arith, laid_start bs c.args.starts.now i 0 c.requires.laid c.block_for-block.ensures.inside, inside (g.S.Sought.order c.args.sought.now) bs i c.index-blocks-block.result c.block_for-block.ensures.inside c.index-blocks-block.is c.in-Err.slot (omega (arith, c.in-Err.ensures.bound, ap length c.as_slice.ensures.value)))

pub returns-in-Err-clause-position : goal.returns-in-Err-clause-position
returns-in-Err-clause-position g c =
    let bs = c.args.blocks.now in
    let i = c.block_for-block.result in
    let start = laid_start bs c.args.starts.now i 0 c.requires.laid c.block_for-block.ensures.inside in
    let order = g.S.Sought.order c.args.sought.now in
    let le : c.in-Err.slot ≤ length c.index-blocks-block.result.items = omega (arith, c.in-Err.ensures.bound, ap length c.as_slice.ensures.value) in
    let here = c.in-Err.ensures.position in
    λ rises.
    subst (λ n. IsPartitionPoint (λ y. order y ≡ Less) (λ y. order y ≡ Greater) (flat_map items_of bs) (n + c.in-Err.slot)) (sym start)
    (parted order bs i c.index-blocks-block.result c.block_for-block.ensures.inside c.index-blocks-block.is rises c.requires.laid.filled c.block_for-block.ensures.low c.block_for-block.ensures.high c.in-Err.slot le
    (subst (λ l. IsNonDecreasingBy (λ y. ordering_index (order y)) l → IsPartitionPoint (λ y. order y ≡ Less) (λ y. order y ≡ Greater) l c.in-Err.slot) c.as_slice.ensures.value here))

pub overflow_add-result : goal.overflow_add-result
overflow_add-result g c =
    let bs = c.args.blocks.now in
    let i = c.block_for-block.result in
    omega (arith, c.requires.few, laid_start bs c.args.starts.now i 0 c.requires.laid c.block_for-block.ensures.inside, within (g.S.Sought.order c.args.sought.now) bs i c.index-blocks-block.result c.block_for-block.ensures.inside c.index-blocks-block.is c.in-Ok.slot (omega (arith, c.in-Ok.ensures.bound, ap length c.as_slice.ensures.value)))

pub overflow_add-result-in-Err : goal.overflow_add-result-in-Err
overflow_add-result-in-Err g c =
    let bs = c.args.blocks.now in
    let i = c.block_for-block.result in
    omega (arith, c.requires.few, laid_start bs c.args.starts.now i 0 c.requires.laid c.block_for-block.ensures.inside, inside (g.S.Sought.order c.args.sought.now) bs i c.index-blocks-block.result c.block_for-block.ensures.inside c.index-blocks-block.is c.in-Err.slot (omega (arith, c.in-Err.ensures.bound, ap length c.as_slice.ensures.value)))
