use Rattle.std.proofs.Common.{ℕ, ◌+◌, ◌*◌, inl, inr, sym, ◌∙◌, subst}
use Rattle.fib_plane_view.specs.Promise.{Promise, MayPut}
use Rattle.fib_plane_view.specs.View.{IsLive}
use Rattle.fib_core.specs.declared.word.Word.TheVariants.{ToBalance}
use Rattle.fib_ply.proofs.Pushes.{cell_at, push_may, push_spare, kind_is, calm_is, moved_on, spent_on, pos_small, pos_below, best_some, block_small}
use Rattle.fib_ply.proofs.pushing.push.Goals as goal

pub best-requires-clause-top : goal.best-requires-clause-top
best-requires-clause-top g c =
    let q = c.requires.ready in
    let u = g.P.Objects.view c.args.on.now in
    let new = g.S.Prefixes.look c.args.set.now in
    let p = c.find-at.result in
    let cell = cell_at q.0 q.1 q.2 new c.args.addr q.3 u q.4 p.ply p.depth p.slot c.find-at.ensures in
    block_small c.args.addr p.depth cell.few.1 c.ranges.addr.fits

pub unwrap-object-requires : goal.unwrap-object-requires
unwrap-object-requires g c =
    let q = c.requires.ready in
    let u = g.P.Objects.view c.args.on.now in
    let new = g.S.Prefixes.look c.args.set.now in
    let p = c.find-at.result in
    let cell = cell_at q.0 q.1 q.2 new c.args.addr q.3 u q.4 p.ply p.depth p.slot c.find-at.ensures in
    best_some new (4 * (p.depth + 1)) _ q.4.sound.whole (block_small c.args.addr p.depth cell.few.1 c.ranges.addr.fits) c.best.result c.best.ensures

pub put-requires-clause-promise : goal.put-requires-clause-promise
put-requires-clause-promise g c =
    let q = c.requires.ready in
    let u = g.P.Objects.view c.args.on.now in
    let new = g.S.Prefixes.look c.args.set.now in
    let p = c.find-at.result in
    let cell = cell_at q.0 q.1 q.2 new c.args.addr q.3 u q.4 p.ply p.depth p.slot c.find-at.ensures in
    let is = sym c.best.ensures ∙ c.unwrap-object.ensures in
    subst (λ (r : Promise). MayPut r u p.ply p.slot (ToBalance c.unwrap-object.result)) q.5 (push_may q.0 q.1 q.2 new c.args.addr q.3 u q.4 p.ply p.depth p.slot c.unwrap-object.result cell is)

pub put-requires-clause-ply : goal.put-requires-clause-ply
put-requires-clause-ply g c =
    let q = c.requires.ready in
    let u = g.P.Objects.view c.args.on.now in
    let new = g.S.Prefixes.look c.args.set.now in
    let p = c.find-at.result in
    let cell = cell_at q.0 q.1 q.2 new c.args.addr q.3 u q.4 p.ply p.depth p.slot c.find-at.ensures in
    q.4.fits.held p.ply cell.path.0

pub put-requires-clause-spare : goal.put-requires-clause-spare
put-requires-clause-spare g c =
    let q = c.requires.ready in
    let u = g.P.Objects.view c.args.on.now in
    let new = g.S.Prefixes.look c.args.set.now in
    let p = c.find-at.result in
    let cell = cell_at q.0 q.1 q.2 new c.args.addr q.3 u q.4 p.ply p.depth p.slot c.find-at.ensures in
    let is = sym c.best.ensures ∙ c.unwrap-object.ensures in
    λ y l. push_spare q.0 q.1 q.2 new c.args.addr q.3 u q.4 p.ply p.depth p.slot c.unwrap-object.result cell is q.6

pub put-requires-clause-target : goal.put-requires-clause-target
put-requires-clause-target g c =
    let q = c.requires.ready in
    let u = g.P.Objects.view c.args.on.now in
    let new = g.S.Prefixes.look c.args.set.now in
    let p = c.find-at.result in
    let cell = cell_at q.0 q.1 q.2 new c.args.addr q.3 u q.4 p.ply p.depth p.slot c.find-at.ensures in
    let is = sym c.best.ensures ∙ c.unwrap-object.ensures in
    let k = kind_is q.0 q.1 q.2 new c.args.addr q.3 u q.4 p.ply p.depth p.slot c.unwrap-object.result cell is in λ y l. subst (λ (i : ℕ). IsLive u i) l (inr (inl k.0))

pub put-requires-clause-kind : goal.put-requires-clause-kind
put-requires-clause-kind g c =
    let q = c.requires.ready in
    let u = g.P.Objects.view c.args.on.now in
    let new = g.S.Prefixes.look c.args.set.now in
    let p = c.find-at.result in
    let cell = cell_at q.0 q.1 q.2 new c.args.addr q.3 u q.4 p.ply p.depth p.slot c.find-at.ensures in
    let is = sym c.best.ensures ∙ c.unwrap-object.ensures in
    kind_is q.0 q.1 q.2 new c.args.addr q.3 u q.4 p.ply p.depth p.slot c.unwrap-object.result cell is

pub put-requires-clause-calm : goal.put-requires-clause-calm
put-requires-clause-calm g c =
    let q = c.requires.ready in
    let u = g.P.Objects.view c.args.on.now in
    let new = g.S.Prefixes.look c.args.set.now in
    let p = c.find-at.result in
    let cell = cell_at q.0 q.1 q.2 new c.args.addr q.3 u q.4 p.ply p.depth p.slot c.find-at.ensures in
    let is = sym c.best.ensures ∙ c.unwrap-object.ensures in
    calm_is q.0 q.1 q.2 new c.args.addr q.3 u q.4 p.ply p.depth p.slot c.unwrap-object.result cell is

pub returns-clause-change : goal.returns-clause-change
returns-clause-change g c =
    let u = g.P.Objects.view c.args.on.now in
    let new = g.S.Prefixes.look c.args.set.now in
    let p = c.find-at.result in
    let is = sym c.best.ensures ∙ c.unwrap-object.ensures in
    λ wants there old n at.
    (let cell = cell_at wants there old new c.args.addr n u at p.ply p.depth p.slot c.find-at.ensures in
    let v = g.P.Objects.view c.put.new.on in
    let small = pos_small wants there old new c.args.addr n u at p.ply p.depth p.slot c.unwrap-object.result cell is c.ranges.addr.fits in
    let moved = moved_on wants there old new c.args.addr n u at p.ply p.depth p.slot c.unwrap-object.result cell is v c.put.ensures.put c.put.ensures.beside (g.met.P.Objects.sound c.put.new.on).kinds in
    let spent = spent_on wants there old new c.args.addr n u at p.ply p.depth p.slot c.unwrap-object.result cell is v c.put.ensures.put in
    rw (c.from.ensures, small) (moved, spent))

pub returns-clause-further : goal.returns-clause-further
returns-clause-further g c =
    let q = c.requires.ready in
    let u = g.P.Objects.view c.args.on.now in
    let new = g.S.Prefixes.look c.args.set.now in
    let p = c.find-at.result in
    let cell = cell_at q.0 q.1 q.2 new c.args.addr q.3 u q.4 p.ply p.depth p.slot c.find-at.ensures in
    let is = sym c.best.ensures ∙ c.unwrap-object.ensures in
    let small = pos_small q.0 q.1 q.2 new c.args.addr q.3 u q.4 p.ply p.depth p.slot c.unwrap-object.result cell is c.ranges.addr.fits in rw (c.from.ensures, small) (pos_below q.0 q.1 q.2 new c.args.addr q.3 u q.4 p.ply p.depth p.slot c.unwrap-object.result cell is)
