use Rattle.std.proofs.Common.{◌∙◌, ◌++◌, ◌∷◌, ◌≤◌, [], ap, arith, length, map, sym}
use Rattle.std.proofs.lemmas.List.{length-map}
use Rattle.fib_entries_rows.specs.Known.{prefix_of}
use Rattle.fib_urpf.proofs.Requeued.{one_more, take_all}
use Rattle.fib_urpf.proofs.queueing.entries_of.Goals as goal

pub loop-place-preserved : goal.loop-place-preserved
loop-place-preserved c =
    c.in_ok-push.ensures.items ∙ ap (λ l. l ++ c.at.result ∷ []) c.loop-place.invariant ∙ sym (one_more (map prefix_of c.args.entries.now.rows) c.loop-place.place c.at.result c.at.ensures)

pub returns : goal.returns
returns c =
    let long = length-map c.args.entries.now.rows prefix_of in
    let over : length (map prefix_of c.args.entries.now.rows) ≤ c.loop-place.place = grind (arith, long) in
    c.loop-place.invariant ∙ take_all (map prefix_of c.args.entries.now.rows) c.loop-place.place over
