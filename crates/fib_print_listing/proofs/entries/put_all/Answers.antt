use Rattle.std.proofs.Common.{sym, ap, ◌∙◌, ◌++◌, take, append_assoc}
use Rattle.std.specs.Prelude.{flat_map}
use Rattle.fib_resolve.specs.Pairs.{entries}
use Rattle.fib_print_listing.specs.Entries.{entry_text}
use Rattle.fib_print_listing.specs.Order.{in_order, prefix_before}
use Rattle.fib_print_listing.proofs.Taking.{flat_at}
use Rattle.fib_print_listing.proofs.entries.put_all.Goals as goal

pub loop-place-preserved : goal.loop-place-preserved
loop-place-preserved c =
    let S = c.args.view.now in
    let all = in_order prefix_before (entries S) in
    let n = c.loop-place.place in
    let e = c.entry.result in
    let before = c.args.out.now.items in
    c.in_ok-put_entry.ensures
    ∙ ap (λ l. l ++ entry_text S e) c.loop-place.invariant
    ∙ append_assoc before (flat_map (entry_text S) (take n all)) (entry_text S e)
    ∙ ap (λ l. before ++ l) (sym (flat_at (entry_text S) all n e c.entry.ensures))
