use Rattle.std.proofs.Common.{sym, subst, ◌∙◌}
use Rattle.std.specs.Prelude.{Contains}
use Rattle.std.proofs.lemmas.Result.{IfOk-weaker}
use Rattle.fib_base_interned.proofs.Finding.{none_some, some_is}
use Rattle.fib_cover.specs.Covers.{is_inside}
use Rattle.fib_resolve.proofs.Covering.{filter_in}
use Rattle.fib_follow_features.specs.Holders.{IsFound, holders}
use Rattle.fib_follow_features.specs.declared.feature.Feature.TheVariants as features
use Rattle.fib_follow_plan.proofs.asked.hosts_of.Goals as goal

pub returns-in-Some : goal.returns-in-Some
returns-in-Some c =
    let sets = c.args.features.now in
    let cover = c.in-Some.cover in
    IfOk-weaker c.holders_inside.result _ _
    (λ v is z e under found inside. subst (λ l. Contains l e) (sym is)
    (filter_in (is_inside c.args.x.now.prefix) (holders sets (features.Under cover)) e
    (subst (λ w. IsFound sets (features.Under w) e) (some_is z cover (sym (c.lost_cover.ensures z under) ∙ c.in-Some.is)) found) inside))
    c.holders_inside.ensures

pub returns-in-None : goal.returns-in-None
returns-in-None c = λ z e under found inside. absurd (none_some z (sym c.in-None.is ∙ c.lost_cover.ensures z under))
