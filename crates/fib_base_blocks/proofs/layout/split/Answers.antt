use Rattle.std.proofs.Common.{arith, ◌+◌, ◌<◌, Global, List, get_or, length, take, drop, sym, ◌∙◌, ap, subst}
use Rattle.std.specs.Prelude.{slice_get, slice_set, Vec}
use Rattle.std.specs.List.{insert}
use Rattle.fib_base_ordered.specs.inner.Blocks.{row}
use Rattle.fib_base_blocks.specs.inner.Layout.{AreBlocks, IsSplit, items_of}
use Rattle.fib_base_blocks.proofs.Laid.{laid_long, laid_start, row_is, split_laid}
use Rattle.fib_base_blocks.proofs.Edits.{whole_long}
use Rattle.fib_base_blocks.proofs.layout.split.Goals as goal

pub index-requires : goal.index-requires
index-requires g c = omega (arith, laid_long c.args.blocks.now.items c.args.starts.now.items c.requires.laid, c.requires.inside, c.in_ok-reserve-2.ensures.len)

pub overflow_add-start : goal.overflow_add-start
overflow_add-start g c =
    let start = c.index.ensures ∙ (ap (λ l. get_or l c.args.at c.index.result.now) c.in_ok-reserve-2.ensures.items ∙ laid_start c.args.blocks.now.items c.args.starts.now.items c.args.at c.index.result.now c.requires.laid c.requires.inside) in
    omega (arith, start, whole_long items_of c.args.blocks.now.items c.args.at c.requires.inside, c.requires.long, c.requires.few)

pub insert-requires-2 : goal.insert-requires-2
insert-requires-2 g c = omega (arith, laid_long c.args.blocks.now.items c.args.starts.now.items c.requires.laid, c.requires.inside, c.in_ok-reserve-2.ensures.len)

pub returns-clause-split : goal.returns-clause-split
returns-clause-split g c =
    let same = row_is c.reserve.new.self.items c.args.at c.index_mut-row.result.now (subst (λ (l : List (Vec g.row.T.Denot Global)). c.args.at < length l) (sym c.in_ok-reserve.ensures.items) c.requires.inside) c.index_mut-row.ensures.value in
    let was = ap (λ (l : List (Vec g.row.T.Denot Global)). row items_of (slice_get l c.args.at)) (sym c.in_ok-reserve.ensures.items) ∙ same in
    record {
      low = c.split_off.new.self;
      high = c.in_ok-upper.upper;
      first = c.in_ok-upper.ensures.items ∙ ap (take 128) (sym was);
      rest = c.in_ok-upper.ensures.tail ∙ ap (drop 128) (sym was);
      whole = c.in-Ok.ensures.items ∙ ap (λ (l : List (Vec g.row.T.Denot Global)). insert (slice_set l c.args.at c.split_off.new.self) (c.args.at + 1) c.in_ok-upper.upper) c.in_ok-reserve.ensures.items;
    }

pub returns-clause-laid : goal.returns-clause-laid
returns-clause-laid g c =
    let bs = c.args.blocks.now.items in
    let same = row_is c.reserve.new.self.items c.args.at c.index_mut-row.result.now (subst (λ (l : List (Vec g.row.T.Denot Global)). c.args.at < length l) (sym c.in_ok-reserve.ensures.items) c.requires.inside) c.index_mut-row.ensures.value in
    let was = ap (λ (l : List (Vec g.row.T.Denot Global)). row items_of (slice_get l c.args.at)) (sym c.in_ok-reserve.ensures.items) ∙ same in
    let split : IsSplit bs c.insert.new.self.items c.args.at = record {
      low = c.split_off.new.self;
      high = c.in_ok-upper.upper;
      first = c.in_ok-upper.ensures.items ∙ ap (take 128) (sym was);
      rest = c.in_ok-upper.ensures.tail ∙ ap (drop 128) (sym was);
      whole = c.in-Ok.ensures.items ∙ ap (λ (l : List (Vec g.row.T.Denot Global)). insert (slice_set l c.args.at c.split_off.new.self) (c.args.at + 1) c.in_ok-upper.upper) c.in_ok-reserve.ensures.items;
    } in
    let start = c.index.ensures ∙ ap (λ l. get_or l c.args.at c.index.result.now) c.in_ok-reserve-2.ensures.items in
    let starts = c.in-Ok-insert.ensures.items ∙ (ap (λ l. insert l (c.args.at + 1) (c.index.result.now + 128)) c.in_ok-reserve-2.ensures.items ∙ ap (λ k. insert c.args.starts.now.items (c.args.at + 1) (k + 128)) start) in
    subst (AreBlocks c.insert.new.self.items) (sym starts)
    (split_laid bs c.args.starts.now.items c.args.at c.requires.laid c.requires.inside c.insert.new.self.items split c.requires.long c.index.result.now)
