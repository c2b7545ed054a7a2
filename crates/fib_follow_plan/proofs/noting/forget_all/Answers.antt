use Rattle.std.proofs.Common.{sym, subst}
use Rattle.fib_cover.proofs.Sets.{take_whole}
use Rattle.fib_follow_features.specs.Holders.{Forgets}
use Rattle.fib_follow_plan.specs.Noted.{ForgetsAll}
use Rattle.fib_follow_plan.proofs.Growing.{take_none}
use Rattle.fib_follow_plan.proofs.Keeping.{gone_more, keeps_more}
use Rattle.fib_follow_plan.proofs.noting.forget_all.Goals as goal

pub loop-x-init : goal.loop-x-init
loop-x-init c = (
  λ lists order rows full noted. noted,
  λ f q. (λ k. (k, λ y early off. take_none c.args.list.now y early), λ k. k.0),
)

pub loop-x-preserved : goal.loop-x-preserved
loop-x-preserved c =
    let x = c.x-item.result in
    let forgets = subst (Forgets c.loop-x.features c.forget.new.self x.prefix x.old.items) c.as_slice-in-loop-x.ensures.value
    (subst (λ l. Forgets c.loop-x.features c.forget.new.self x.prefix l c.as_slice-in-loop-x.result.now) c.as_slice.ensures.value c.forget.ensures) in (
      keeps_more c.args.list.now x c.args.features.now c.loop-x.features c.forget.new.self
          (c.loop-x.x-index, c.loop-x-test.true, sym c.x-item.is) c.loop-x.invariant.0 forgets,
      gone_more c.args.list.now c.loop-x.x-index x c.args.features.now c.loop-x.features c.forget.new.self c.loop-x-test.true c.x-item.is
          c.loop-x.invariant.1 forgets,
    )

pub returns-clause-gone : goal.returns-clause-gone
returns-clause-gone c =
    subst (λ l. ForgetsAll l c.args.features.now c.loop-x.features) (take_whole c.args.list.now c.loop-x.x-index c.loop-x-test.false) c.loop-x.invariant.1

pub returns-clause-stays : goal.returns-clause-stays
returns-clause-stays c = c.loop-x.invariant.0
