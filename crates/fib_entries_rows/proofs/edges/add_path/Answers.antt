use Rattle.std.proofs.Common.{◌≡◌, [], ◌∷◌, refl, sym, ◌∙◌, subst}
use Rattle.std.proofs.lemmas.Option.{slice_get_read}
use Rattle.fib_resolve.specs.Loops.{kind_targets}
use Rattle.fib_base_interned.proofs.Finding.{some_is}
use Rattle.fib_entries_rows.proofs.Looking.{one_in_order}
use Rattle.fib_entries_rows.proofs.Edging.{one_path}
use Rattle.fib_entries_rows.proofs.edges.add_path.Goals as goal

pub returns : goal.returns
returns c = λ e at.
    let read = slice_get_read c.args.order.now _ c.args.from c.index-order-from.result refl c.requires.inside c.index-order-from.is in
    let same = some_is c.index-order-from.result e (sym read ∙ at) in
    one_path c.args.meaning.now c.args.order.now c.args.from c.in-Some-place_of.to e c.in-Some.target c.args.kind c.args.out.now.items c.push.new.self.items (one_in_order c.args.order.now c.requires.ascending)
    (subst (λ z. c.in-Some.target ∷ [] ≡ kind_targets c.args.meaning.now z c.args.kind) same c.in-Some.ensures) c.in-Some-place_of.ensures.found c.in_ok-push.ensures.items
