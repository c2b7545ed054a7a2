use Rattle.std.proofs.Common.{subst, sym, ap, ◌∙◌, length}
use Rattle.std.proofs.lemmas.List.{length-map}
use Rattle.fib_entries_rows.specs.Known.{StandsFor, prefix_of}
use Rattle.fib_print_listing.proofs.Listed.{listed_are}
use Rattle.fib_print_listing.proofs.view.View.count.Goals as goal

pub returns : goal.returns
returns c =
    let stands = subst (λ T. StandsFor c.self.inside.entries.now T) c.self.view_is c.self.invariant.stands in
    let rows = c.self.inside.entries.now.rows in
    c.len.ensures ∙ sym (length-map rows prefix_of) ∙ ap length (listed_are c.self.inside.entries.now c.args.self.now stands)
