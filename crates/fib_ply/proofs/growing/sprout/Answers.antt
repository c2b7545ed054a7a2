use Rattle.std.proofs.Common.{subst, inl, inr, ℕ, sym, ◌∙◌, arith}
use Rattle.fib_core.specs.declared.word.Word.TheVariants.{ToPly}
use Rattle.fib_plane_view.specs.Promise.{Promise, MayPut}
use Rattle.fib_plane_view.specs.View.{IsLive}
use Rattle.fib_plane_view.proofs.Frames.{beside_then}
use Rattle.fib_ply.proofs.Undropped.{none_then}
use Rattle.fib_ply.proofs.Sprouts.{can_fill, object_kind, sprout_may, sprout_ply, sprout_target, sprout_kind, sprout_calm, sprout_on, frame_put, frame_taken, frame_then}
use Rattle.fib_ply.proofs.growing.sprout.Goals as goal

pub fill-requires-clause-ready : goal.fill-requires-clause-ready
fill-requires-clause-ready g c =
    let q = c.requires.ready in
    let p = c.args.at in
    let u0 = g.P.Objects.view c.args.on.now in
    let u1 = g.P.Objects.view c.take.new.on in
    let k1 = (g.met.P.Objects.sound c.take.new.on).kinds in
    let was = sym c.word.ensures ∙ c.in-ToBalance.is in
    can_fill q.0 q.1 q.2 q.3 q.4 q.5 u0 u1 c.args.addr p.ply p.depth p.slot c.in-ToBalance.object c.in-Some.ply q.6 q.7 was c.in-Some.ensures.some c.ranges.addr.fits c.in-Some.ensures.beside k1 _ (q.8 ∙ sym c.in-Some.ensures.promise)

pub fill-requires-clause-empty : goal.fill-requires-clause-empty
fill-requires-clause-empty g c =
    λ t lt. c.in-Some.ensures.some.dropped t lt

pub fill-requires-clause-balance : goal.fill-requires-clause-balance
fill-requires-clause-balance g c =
    let q = c.requires.ready in
    let p = c.args.at in
    let u0 = g.P.Objects.view c.args.on.now in
    let u1 = g.P.Objects.view c.take.new.on in
    let k1 = (g.met.P.Objects.sound c.take.new.on).kinds in
    let was = sym c.word.ensures ∙ c.in-ToBalance.is in
    object_kind q.0 q.1 q.2 q.3 q.4 q.5 u0 u1 c.args.addr p.ply p.depth p.slot c.in-ToBalance.object c.in-Some.ply q.6 q.7 was c.in-Some.ensures.some c.ranges.addr.fits c.in-Some.ensures.beside k1

pub put-requires-clause-ply : goal.put-requires-clause-ply
put-requires-clause-ply g c =
    let q = c.requires.ready in
    let p = c.args.at in
    let u0 = g.P.Objects.view c.args.on.now in
    let u1 = g.P.Objects.view c.take.new.on in
    let k1 = (g.met.P.Objects.sound c.take.new.on).kinds in
    let was = sym c.word.ensures ∙ c.in-ToBalance.is in
    sprout_ply q.0 q.1 q.2 q.3 q.4 q.5 u0 u1 c.args.addr p.ply p.depth p.slot c.in-ToBalance.object c.in-Some.ply q.6 q.7 was c.in-Some.ensures.some c.ranges.addr.fits c.in-Some.ensures.beside k1 (g.P.Objects.view c.fill.new.on) c.fill.ensures.aside c.fill.ensures.filled c.requires.room.0

pub put-requires-clause-target : goal.put-requires-clause-target
put-requires-clause-target g c =
    let q = c.requires.ready in
    let p = c.args.at in
    let u0 = g.P.Objects.view c.args.on.now in
    let u1 = g.P.Objects.view c.take.new.on in
    let k1 = (g.met.P.Objects.sound c.take.new.on).kinds in
    let was = sym c.word.ensures ∙ c.in-ToBalance.is in
    λ y l. subst (λ (i : ℕ). IsLive (g.P.Objects.view c.fill.new.on) i) l (inr (inl (sprout_target q.0 q.1 q.2 q.3 q.4 q.5 u0 u1 c.args.addr p.ply p.depth p.slot c.in-ToBalance.object c.in-Some.ply q.6 q.7 was c.in-Some.ensures.some c.ranges.addr.fits c.in-Some.ensures.beside k1 (g.P.Objects.view c.fill.new.on) c.fill.ensures.aside c.fill.ensures.filled c.requires.room.0)))

pub put-requires-clause-promise : goal.put-requires-clause-promise
put-requires-clause-promise g c =
    let q = c.requires.ready in
    let p = c.args.at in
    let u0 = g.P.Objects.view c.args.on.now in
    let u1 = g.P.Objects.view c.take.new.on in
    let k1 = (g.met.P.Objects.sound c.take.new.on).kinds in
    let was = sym c.word.ensures ∙ c.in-ToBalance.is in
    subst (λ (r : Promise). MayPut r (g.P.Objects.view c.fill.new.on) p.ply p.slot (ToPly c.in-Some.ply)) (q.8 ∙ sym c.in-Some.ensures.promise ∙ sym c.fill.ensures.promise) (sprout_may q.0 q.1 q.2 q.3 q.4 q.5 u0 u1 c.args.addr p.ply p.depth p.slot c.in-ToBalance.object c.in-Some.ply q.6 q.7 was c.in-Some.ensures.some c.ranges.addr.fits c.in-Some.ensures.beside k1 (g.P.Objects.view c.fill.new.on) c.fill.ensures.aside c.fill.ensures.filled c.requires.room.0)

pub put-requires-clause-kind : goal.put-requires-clause-kind
put-requires-clause-kind g c =
    let q = c.requires.ready in
    let p = c.args.at in
    let u0 = g.P.Objects.view c.args.on.now in
    let u1 = g.P.Objects.view c.take.new.on in
    let k1 = (g.met.P.Objects.sound c.take.new.on).kinds in
    let was = sym c.word.ensures ∙ c.in-ToBalance.is in
    sprout_kind q.0 q.1 q.2 q.3 q.4 q.5 u0 u1 c.args.addr p.ply p.depth p.slot c.in-ToBalance.object c.in-Some.ply q.6 q.7 was c.in-Some.ensures.some c.ranges.addr.fits c.in-Some.ensures.beside k1 (g.P.Objects.view c.fill.new.on) c.fill.ensures.aside c.fill.ensures.filled c.requires.room.0

pub put-requires-clause-calm : goal.put-requires-clause-calm
put-requires-clause-calm g c =
    let q = c.requires.ready in
    let p = c.args.at in
    let u0 = g.P.Objects.view c.args.on.now in
    let u1 = g.P.Objects.view c.take.new.on in
    let k1 = (g.met.P.Objects.sound c.take.new.on).kinds in
    let was = sym c.word.ensures ∙ c.in-ToBalance.is in
    sprout_calm q.0 q.1 q.2 q.3 q.4 q.5 u0 u1 c.args.addr p.ply p.depth p.slot c.in-ToBalance.object c.in-Some.ply q.6 q.7 was c.in-Some.ensures.some c.ranges.addr.fits c.in-Some.ensures.beside k1 (g.P.Objects.view c.fill.new.on) c.fill.ensures.aside c.fill.ensures.filled c.requires.room.0

pub put-requires-clause-spare : goal.put-requires-clause-spare
put-requires-clause-spare g c =
    λ y l. omega (arith, c.requires.room.2, c.in-Some.ensures.some.spare, c.fill.ensures.spare)

pub returns-clause-beside : goal.returns-clause-beside
returns-clause-beside g c =
    beside_then _ _ _ (beside_then _ _ _ c.in-Some.ensures.beside c.fill.ensures.beside) c.put.ensures.beside

pub returns-clause-none_dropped : goal.returns-clause-none_dropped
returns-clause-none_dropped g c =
    none_then _ _ _ (none_then _ _ _ c.in-Some.ensures.none_dropped c.fill.ensures.none_dropped) c.put.ensures.none_dropped

pub returns-clause-frame : goal.returns-clause-frame
returns-clause-frame g c =
    frame_put _ _ _ _ _ _ (frame_then _ _ _ (frame_taken _ _ _ c.in-Some.ensures.some) c.fill.ensures.frame) c.put.ensures.put

pub returns-clause-spare : goal.returns-clause-spare
returns-clause-spare g c =
    omega (arith, c.in-Some.ensures.some.spare, c.fill.ensures.spare, c.put.ensures.put.spare)

pub returns-clause-free : goal.returns-clause-free
returns-clause-free g c =
    omega (arith, c.in-Some.ensures.some.free, c.fill.ensures.free, c.put.ensures.put.free)

pub returns-clause-sprouted : goal.returns-clause-sprouted
returns-clause-sprouted g c = λ wants there old new pos n at cell.
    (let p = c.args.at in
    let u0 = g.P.Objects.view c.args.on.now in
    let u1 = g.P.Objects.view c.take.new.on in
    let v = g.P.Objects.view c.put.new.on in
    let k1 = (g.met.P.Objects.sound c.take.new.on).kinds in
    let was = sym c.word.ensures ∙ c.in-ToBalance.is in
    sprout_on wants there old new pos n u0 u1 c.args.addr p.ply p.depth p.slot c.in-ToBalance.object c.in-Some.ply at cell was c.in-Some.ensures.some c.ranges.addr.fits c.in-Some.ensures.beside k1 (g.P.Objects.view c.fill.new.on) c.fill.ensures.aside c.fill.ensures.filled c.requires.room.0 v c.put.ensures.put c.put.ensures.beside (g.met.P.Objects.sound c.put.new.on).kinds c.fill.ensures.spare c.fill.ensures.stores c.fill.ensures.plies)
