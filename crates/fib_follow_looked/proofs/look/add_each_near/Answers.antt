use Rattle.std.proofs.Common.{◌⊎◌, arith, inl, length, refl, subst}
use Rattle.std.specs.Prelude.{Contains}
use Rattle.std.proofs.lemmas.Option.{slice_get_read}
use Rattle.fib_cover.proofs.Sets.{take_whole}
use Rattle.fib_follow_looked.specs.inner.Turning.{HasNearEach, IsNearAny}
use Rattle.fib_follow_looked.proofs.Nearing.{each_none, each_step, only_step}
use Rattle.fib_follow_looked.proofs.look.add_each_near.Goals as goal

pub turned-init : goal.turned-init
turned-init c = (λ q k. k, λ S h are. each_none c.args.after.now.tables c.as_slice-turned.result.now c.args.set.now, λ S h are q k. inl k)

pub turned-preserved : goal.turned-preserved
turned-preserved c =
    let T = c.args.after.now.tables in
    let xs = c.as_slice-turned.result.now in
    let here = slice_get_read xs (length xs) c.turned.place c.index-turned-place.result refl c.turned-test.true c.index-turned-place.is in (
      λ q k. c.in_ok-add_near.ensures.more q (c.turned.invariant.0 q k),
      λ S h are. each_step T xs c.turned.place c.index-turned-place.result c.turned.set c.add_near.new.set here (c.turned.invariant.1 S h are)
          c.in_ok-add_near.ensures.more (c.in_ok-add_near.ensures.near S h are),
      λ S h are. only_step T xs c.turned.place c.index-turned-place.result c.args.set.now c.turned.set c.add_near.new.set here
          (c.turned.invariant.2 S h are) (c.in_ok-add_near.ensures.only S h are),
    )

pub returns-clause-more : goal.returns-clause-more
returns-clause-more c = c.turned.invariant.0

pub returns-clause-near : goal.returns-clause-near
returns-clause-near c = λ S h are.
    let over = c.turned-test.false in
    subst (λ l. HasNearEach c.args.after.now.tables l c.turned.set) c.as_slice-turned.ensures.value
    (subst (λ l. HasNearEach c.args.after.now.tables l c.turned.set) (take_whole c.as_slice-turned.result.now c.turned.place (omega (arith, over)))
    (c.turned.invariant.1 S h are))

pub returns-clause-only : goal.returns-clause-only
returns-clause-only c = λ S h are q k.
    let over = c.turned-test.false in
    subst (λ l. Contains c.args.set.now q ⊎ IsNearAny c.args.after.now.tables l q) c.as_slice-turned.ensures.value
    (subst (λ l. Contains c.args.set.now q ⊎ IsNearAny c.args.after.now.tables l q)
    (take_whole c.as_slice-turned.result.now c.turned.place (omega (arith, over))) (c.turned.invariant.2 S h are q k))
