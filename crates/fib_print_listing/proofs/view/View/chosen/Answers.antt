use Rattle.std.proofs.Common.{subst}
use Rattle.fib_entries_rows.specs.Known.{StandsFor}
use Rattle.fib_print_listing.proofs.Listed.{nothing_chosen}
use Rattle.fib_print_listing.proofs.view.View.chosen.Goals as goal

pub returns-in-None : goal.returns-in-None
returns-in-None c =
    let stands = subst (λ T. StandsFor c.self.inside.entries.now T) c.self.view_is c.self.invariant.stands in
    nothing_chosen c.args.self.now c.args.e (c.in-None.ensures c.args.self.now stands)
