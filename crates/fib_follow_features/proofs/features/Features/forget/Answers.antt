use Rattle.std.proofs.Common.{[], ◌∷◌, ◌++◌, take, sym, ◌∙◌, subst}
use Rattle.fib_cover.proofs.Sets.{take_whole}
use Rattle.fib_follow_features.specs.Holders.{Forgets}
use Rattle.fib_follow_features.proofs.Holding.{forgets_kept, forgets_more, forgets_none, taken}
use Rattle.fib_follow_features.proofs.Same.{listed, unlisted}
use Rattle.fib_follow_features.proofs.features.Features.forget.Goals.{then-not-contains, else-not-contains}
use Rattle.fib_follow_features.proofs.features.Features.forget.Goals as goal

pub loop-feature-init : goal.loop-feature-init
loop-feature-init c = forgets_none c.args.self.now c.args.e c.args.new.now

pub loop-feature-preserved : goal.loop-feature-preserved
loop-feature-preserved c =
    let fs = c.args.old.now in
    let news = c.args.new.now in
    let i = c.loop-feature.feature-index in
    let f = c.feature-item.result in
    subst (λ l. Forgets c.args.self.now c.if-not-contains.self c.args.e l news) (sym (taken fs i f c.loop-feature-test.true c.feature-item.is))
    (elim c.if-not-contains.branch [
      | then-not-contains w ↦ subst (λ z. Forgets c.args.self.now z c.args.e (take i fs ++ f ∷ []) news) (sym w.self-is)
          (forgets_more c.args.self.now c.loop-feature.self c.args.e (take i fs) news f c.loop-feature.invariant w.take_out.new.self
          (unlisted news f (sym c.contains.ensures.value ∙ w.if-not-contains.true)) w.take_out.ensures)
      | else-not-contains w ↦ subst (λ z. Forgets c.args.self.now z c.args.e (take i fs ++ f ∷ []) news) (sym w.self-is)
          (forgets_kept c.args.self.now c.loop-feature.self c.args.e (take i fs) news f c.loop-feature.invariant
          (listed news f (sym c.contains.ensures.value ∙ w.if-not-contains.false)))
    ])

pub returns : goal.returns
returns c =
    subst (λ l. Forgets c.args.self.now c.loop-feature.self c.args.e l c.args.new.now)
    (take_whole c.args.old.now c.loop-feature.feature-index c.loop-feature-test.false) c.loop-feature.invariant
