use Rattle.std.proofs.Common.{◌≡◌, ℕ, ◌+◌, ◌*◌, ◌/◌, ◌^◌, ◌-◌, ◌%◌, ◌≤◌, true, ap, sym, subst, ◌∙◌, arith}
use Rattle.fib_plane_view.specs.Promise.{Promise}
use Rattle.fib_plane_view.proofs.Frames.{beside_then}
use Rattle.fib_ply.proofs.Undropped.{none_then}
use Rattle.fib_ply.specs.Prefixes.{Look, Needs}
use Rattle.fib_ply.specs.inner.Change.{IsPromised}
use Rattle.fib_ply.proofs.Adds.{add_starts, add_ends, first_fits, from_fits, to_fits, last_below}
use Rattle.fib_ply.proofs.table.add.Goals as goal

pub grow-plies-requires-clause-ready : goal.grow-plies-requires-clause-ready
grow-plies-requires-clause-ready g c =
    let q = c.requires.table in (q.0, q.1, g.S.Prefixes.look c.args.set.now, g.S.Prefixes.look c.args.set.now, 0, q.2, q.3.at, q.4)

pub grow-plies-requires-clause-room : goal.grow-plies-requires-clause-room
grow-plies-requires-clause-room g c =
    let q = c.requires.table in let p = c.requires.prefix in (omega (arith, p.1), omega (arith, p.1, c.requires.free), omega (arith, p.1, q.5))

pub refresh-requires-clause-ready : goal.refresh-requires-clause-ready
refresh-requires-clause-ready g c =
    let p = c.requires.prefix in
    let x_is = ap (λ i. (i * 2 ^ (32 - c.args.len)) % 18446744073709551616) c.from.ensures ∙ from_fits c.args.top c.args.len p.1 p.2 in
    let to_is = ap (λ i. ((i + 1) * 2 ^ (32 - c.args.len)) % 18446744073709551616) c.from-2.ensures ∙ to_fits c.args.top c.args.len p.1 p.2 in
    let look = g.S.Prefixes.look c.args.set.now in
    let u = g.P.Objects.view c.args.on.now in
    let v = g.P.Objects.view c.grow-plies.new.on in
    let kind = c.grow-plies.ensures.beside.balances c.args.object c.requires.balance.0 in
    let few : c.grow-plies.result ≤ 7 = omega (arith, c.grow-plies.ensures.few, p.1) in
    let q = c.requires.table in add_starts look (g.S.Prefixes.look c.insert.new.self) c.args.len c.args.top c.args.object _ _ c.grow-plies.result u v p.0 p.1 p.2 c.grow-plies.ensures.grows kind c.insert.ensures.look x_is to_is few q.0 q.1 q.2 q.3 (λ z t lt. c.grow-plies.ensures.beside.cells c.args.object t c.requires.balance.0 ∙ c.requires.balance.1 (ap (λ (r : Promise). r.applied) (sym q.4) ∙ z) t lt) q.6 (g.P.Objects.promise c.grow-plies.new.on) (q.4 ∙ sym c.grow-plies.ensures.promise) q.5

pub refresh-requires-clause-range : goal.refresh-requires-clause-range
refresh-requires-clause-range g c =
    let p = c.requires.prefix in rw (c.from-2.ensures, to_fits c.args.top c.args.len p.1 p.2) (last_below c.args.top c.args.len p.1 p.2)

pub returns-clause-table : goal.returns-clause-table
returns-clause-table g c =
    let p = c.requires.prefix in
    let x_is = ap (λ i. (i * 2 ^ (32 - c.args.len)) % 18446744073709551616) c.from.ensures ∙ from_fits c.args.top c.args.len p.1 p.2 in
    let to_is = ap (λ i. ((i + 1) * 2 ^ (32 - c.args.len)) % 18446744073709551616) c.from-2.ensures ∙ to_fits c.args.top c.args.len p.1 p.2 in
    let look = g.S.Prefixes.look c.args.set.now in
    let u = g.P.Objects.view c.args.on.now in
    let v = g.P.Objects.view c.grow-plies.new.on in
    let kind = c.grow-plies.ensures.beside.balances c.args.object c.requires.balance.0 in
    let few : c.grow-plies.result ≤ 7 = omega (arith, c.grow-plies.ensures.few, p.1) in
    λ wants there n table same promised. add_ends look (g.S.Prefixes.look c.insert.new.self) c.args.len c.args.top c.args.object _ _ c.grow-plies.result u v p.0 p.1 p.2 c.grow-plies.ensures.grows kind c.insert.ensures.look x_is to_is few wants there n table (λ z t lt. c.grow-plies.ensures.beside.cells c.args.object t c.requires.balance.0 ∙ c.requires.balance.1 (ap (λ (r : Promise). r.applied) (sym same) ∙ z) t lt) (subst (λ (l : Look). IsPromised wants look l) c.insert.ensures.look promised) (g.P.Objects.view c.refresh.new.on) c.refresh.ensures.change

pub returns-clause-promise : goal.returns-clause-promise
returns-clause-promise g c =
    c.refresh.ensures.promise ∙ c.grow-plies.ensures.promise

pub returns-clause-beside : goal.returns-clause-beside
returns-clause-beside g c =
    beside_then _ _ _ c.grow-plies.ensures.beside c.refresh.ensures.beside

pub returns-clause-none_dropped : goal.returns-clause-none_dropped
returns-clause-none_dropped g c =
    none_then _ _ _ c.grow-plies.ensures.none_dropped c.refresh.ensures.none_dropped

pub returns-clause-free : goal.returns-clause-free
returns-clause-free g c = omega (arith, c.grow-plies.ensures.free, c.refresh.ensures.free)

pub returns-clause-bare : goal.returns-clause-bare
returns-clause-bare g c = λ d lt le needs.
    let p = c.requires.prefix in
    let q = c.requires.table in
    let e : ℕ = d - 1 in
    let few : c.grow-plies.result ≤ (c.args.len - 1) / 4 = c.grow-plies.ensures.few in
    let d_is : d ≡ e + 1 = omega (arith, lt, few) in
    c.grow-plies.ensures.bare q.0 q.1 (g.S.Prefixes.look c.args.set.now) (g.S.Prefixes.look c.args.set.now) 0 q.2 q.3.at d lt le
    (subst (λ (i : ℕ). q.1 d (i / 2 ^ (32 - 4 * d)) ≡ true) (sym (first_fits c.args.top c.args.len p.1 p.2))
    (subst (λ (i : ℕ). q.1 i (c.args.top * 2 ^ (32 - c.args.len) / 2 ^ (32 - 4 * i)) ≡ true) (sym d_is)
    (q.3.at.wider e (c.args.top * 2 ^ (32 - c.args.len) / 2 ^ (32 - 4 * (e + 1))) (subst (λ (i : ℕ). Needs (g.S.Prefixes.look c.args.set.now) i (c.args.top * 2 ^ (32 - c.args.len) / 2 ^ (32 - 4 * i))) d_is needs))))
