use Rattle.std.proofs.Common.{subst, sym, ◌∙◌, ap}
use Rattle.std.proofs.lemmas.Result.{on_ok_weaker}
use Rattle.fib_addr.specs.Prefixes.{Prefix}
use Rattle.fib_resolve.specs.Pairs.{cover}
use Rattle.fib_follow_looked.specs.inner.Finding.{IsCovered, IsGrown, IsStep}
use Rattle.fib_follow_looked.proofs.other.look.Goals as goal

pub returns-clause-grown : goal.returns-clause-grown
returns-clause-grown c = on_ok_weaker c.push_other.result
    (λ g. subst (λ (z : Prefix). IsGrown z c.args.changed.now c.push_other.new.changed) c.in_ok-fresh.ensures.prefix g) c.push_other.ensures.grown

pub returns-clause-step : goal.returns-clause-step
returns-clause-step c = on_ok_weaker c.push_other.result
    (λ step. λ S h are hop.
    let T = c.args.after.now.tables in
    let is = c.in_ok-fresh.ensures.prefix in
    let covered : IsCovered T c.args.e c.cover-cover.result = λ long. c.cover-cover.ensures S T h are ∙ ap (cover T) c.bits.ensures in
    subst (λ (z : Prefix). IsStep S T z c.args.changed.now c.push_other.new.changed) is
    (step S T h (c.in_ok-fresh.ensures.fresh (c.in_ok-host.ensures covered hop))
    (subst (λ (z : Prefix). IsCovered T z c.cover-cover.result) (sym is) covered))) c.push_other.ensures.step
