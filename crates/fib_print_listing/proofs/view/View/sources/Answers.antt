use Rattle.std.proofs.Common.{subst}
use Rattle.fib_entries_rows.specs.Known.{StandsFor}
use Rattle.fib_print_listing.proofs.Listed.{sources_are}
use Rattle.fib_print_listing.proofs.view.View.sources.Goals as goal

pub returns : goal.returns
returns c =
    let stands = subst (λ T. StandsFor c.self.inside.entries.now T) c.self.view_is c.self.invariant.stands in
    sources_are c.self.inside.entries.now.lists c.args.self.now c.args.e c.pairs.result.now (c.pairs.ensures.pairs c.args.self.now stands)
