use Rattle.std.proofs.Common.{arith, ◌<◌, take, refl, sym, subst}
use Rattle.std.proofs.lemmas.Option.{slice_get_read}
use Rattle.fib_base_interned.proofs.Finding.{contains_at}
use Rattle.fib_cover.proofs.Sets.{take_whole}
use Rattle.fib_follow_features.specs.FoundBy.{AreExact}
use Rattle.fib_follow_features.proofs.Holding.{taken}
use Rattle.fib_follow_features.proofs.Noting.{exact_more}
use Rattle.fib_follow_features.proofs.features.Features.of.Goals as goal

pub note_row-requires : goal.note_row-requires
note_row-requires c =
    let inside = subst (λ n. c.rows.place < n) c.len-place-end.ensures c.rows-test.true in
    let at = slice_get_read c.args.rows.now _ c.rows.place c.index.result.now refl inside c.index.ensures in
    λ p k. c.requires c.index.result.now p (contains_at c.args.rows.now c.rows.place c.index.result.now at) k

pub rows-preserved : goal.rows-preserved
rows-preserved c =
    let rs = c.args.rows.now in
    let i = c.rows.place in
    let r = c.index.result.now in
    let inside = subst (λ n. i < n) c.len-place-end.ensures c.rows-test.true in
    subst (λ l. AreExact c.args.lists.now c.args.order.now l c.note_row.new.found) (sym (taken rs i r inside c.index.ensures))
    (exact_more c.args.lists.now c.args.order.now (take i rs) r c.rows.found c.note_row.new.found c.rows.invariant c.in_ok-note_row.ensures)

pub returns : goal.returns
returns c =
    let over = c.rows-test.false in
    let n = c.len-place-end.ensures in
    subst (λ l. AreExact c.args.lists.now c.args.order.now l c.rows.found)
    (take_whole c.args.rows.now c.rows.place (omega (arith, over, n))) c.rows.invariant
