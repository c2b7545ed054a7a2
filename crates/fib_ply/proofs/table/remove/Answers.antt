use Rattle.std.proofs.Common.{◌+◌, ◌*◌, ◌^◌, ◌-◌, ◌%◌, ap, sym, subst, ◌∙◌}
use Rattle.fib_plane_view.proofs.Frames.{beside_then}
use Rattle.fib_ply.proofs.Undropped.{none_then}
use Rattle.fib_ply.specs.Prefixes.{Look}
use Rattle.fib_ply.specs.inner.Change.{IsPromised}
use Rattle.fib_ply.proofs.Adds.{from_fits, to_fits, last_below}
use Rattle.fib_ply.proofs.Removes.{remove_starts, remove_prunes, remove_ends}
use Rattle.fib_ply.proofs.table.remove.Goals as goal

pub refresh-requires-clause-ready : goal.refresh-requires-clause-ready
refresh-requires-clause-ready g c =
    let p = c.requires.prefix in
    let x_is = ap (λ i. (i * 2 ^ (32 - c.args.len)) % 18446744073709551616) c.from.ensures ∙ from_fits c.args.top c.args.len p.1 p.2 in
    let to_is = ap (λ i. ((i + 1) * 2 ^ (32 - c.args.len)) % 18446744073709551616) c.from-2.ensures ∙ to_fits c.args.top c.args.len p.1 p.2 in
    let look = g.S.Prefixes.look c.args.set.now in
    let u = g.P.Objects.view c.args.on.now in
    let q = c.requires.table in remove_starts look c.args.len c.args.top (g.S.Prefixes.look c.remove.new.self) _ _ u p.0 p.1 p.2 c.remove.ensures.look x_is to_is q.0 q.1 q.2 q.3 q.6 (g.P.Objects.promise c.args.on.now) q.4 q.5

pub refresh-requires-clause-range : goal.refresh-requires-clause-range
refresh-requires-clause-range g c =
    let p = c.requires.prefix in rw (c.from-2.ensures, to_fits c.args.top c.args.len p.1 p.2) (last_below c.args.top c.args.len p.1 p.2)

pub prune-requires : goal.prune-requires
prune-requires g c =
    let p = c.requires.prefix in
    let x_is = ap (λ i. (i * 2 ^ (32 - c.args.len)) % 18446744073709551616) c.from.ensures ∙ from_fits c.args.top c.args.len p.1 p.2 in
    let to_is = ap (λ i. ((i + 1) * 2 ^ (32 - c.args.len)) % 18446744073709551616) c.from-2.ensures ∙ to_fits c.args.top c.args.len p.1 p.2 in
    let look = g.S.Prefixes.look c.args.set.now in
    let u = g.P.Objects.view c.args.on.now in
    let q = c.requires.table in remove_prunes look c.args.len c.args.top (g.S.Prefixes.look c.remove.new.self) _ _ u p.0 p.1 p.2 c.remove.ensures.look x_is to_is q.0 q.1 q.2 q.3 q.6 (g.P.Objects.view c.refresh.new.on) c.refresh.ensures.change (g.P.Objects.promise c.refresh.new.on) (q.4 ∙ sym c.refresh.ensures.promise) q.5

pub returns-clause-table : goal.returns-clause-table
returns-clause-table g c =
    let p = c.requires.prefix in
    let x_is = ap (λ i. (i * 2 ^ (32 - c.args.len)) % 18446744073709551616) c.from.ensures ∙ from_fits c.args.top c.args.len p.1 p.2 in
    let to_is = ap (λ i. ((i + 1) * 2 ^ (32 - c.args.len)) % 18446744073709551616) c.from-2.ensures ∙ to_fits c.args.top c.args.len p.1 p.2 in
    let look = g.S.Prefixes.look c.args.set.now in
    let u = g.P.Objects.view c.args.on.now in
    λ wants there n table same promised. remove_ends look c.args.len c.args.top (g.S.Prefixes.look c.remove.new.self) _ _ u p.0 p.1 p.2 c.remove.ensures.look x_is to_is wants there n table (subst (λ (l : Look). IsPromised wants look l) c.remove.ensures.look promised) (g.P.Objects.view c.refresh.new.on) c.refresh.ensures.change (g.P.Objects.view c.prune.new.on) c.prune.result c.prune.ensures.few c.prune.ensures.pruned

pub returns-clause-promise : goal.returns-clause-promise
returns-clause-promise g c =
    c.prune.ensures.promise ∙ c.refresh.ensures.promise

pub returns-clause-beside : goal.returns-clause-beside
returns-clause-beside g c =
    beside_then _ _ _ c.refresh.ensures.beside c.prune.ensures.beside

pub returns-clause-none_dropped : goal.returns-clause-none_dropped
returns-clause-none_dropped g c =
    none_then _ _ _ c.refresh.ensures.none_dropped c.prune.ensures.none_dropped
