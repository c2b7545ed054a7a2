use Rattle.std.proofs.Common.{subst, sym, ap, ◌∙◌, length, ◌<◌, slice_get}
use Rattle.std.proofs.lemmas.List.{length-map}
use Rattle.fib_entries_rows.specs.Known.{StandsFor, prefix_of}
use Rattle.fib_print_listing.proofs.Listed.{listed_are}
use Rattle.fib_print_listing.proofs.view.View.entry.Goals as goal

pub at-requires : goal.at-requires
at-requires c =
    let stands = subst (λ T. StandsFor c.self.inside.entries.now T) c.self.view_is c.self.invariant.stands in
    let rows = c.self.inside.entries.now.rows in
    subst (λ n. c.args.place < n) (sym (ap length (listed_are c.self.inside.entries.now c.args.self.now stands)) ∙ length-map rows prefix_of) c.requires

pub returns : goal.returns
returns c =
    let stands = subst (λ T. StandsFor c.self.inside.entries.now T) c.self.view_is c.self.invariant.stands in
    ap (λ l. slice_get l c.args.place) (sym (listed_are c.self.inside.entries.now c.args.self.now stands)) ∙ c.at.ensures
