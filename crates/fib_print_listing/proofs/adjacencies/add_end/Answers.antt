use Rattle.std.proofs.Common.{sym, subst}
use Rattle.fib_resolve.specs.declared.pairs.Adjacency.{Adjacency}
use Rattle.fib_print_listing.specs.inner.Hops.{AddsHops, end_hops}
use Rattle.fib_print_listing.proofs.Hops.{hop_one}
use Rattle.fib_print_listing.proofs.adjacencies.add_end.Goals as goal

pub returns-in_ok-insert-in-Hop : goal.returns-in_ok-insert-in-Hop
returns-in_ok-insert-in-Hop c =
    let key : Adjacency = record { interface = c.in-Hop.interface; next_hop = c.in-Hop.next_hop } in
    let old = c.args.hops.now.entries in
    let new = c.insert.new.self.entries in
    subst (λ e. AddsHops (end_hops e) old new) (sym c.in-Hop.is) (hop_one key c.in-Hop.mac old new c.in_ok-insert-in-Hop.ensures.updates.0)
