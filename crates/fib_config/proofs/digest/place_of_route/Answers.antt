use Rattle.std.proofs.Common.{◌∙◌, ap, subst}
use Rattle.std.specs.List.{position_or_len}
use Rattle.fib_resolve.specs.Tables.{is_route}
use Rattle.fib_config.specs.inner.Digest.{AreKeys, route_key}
use Rattle.fib_config.proofs.Keying.{by_keys, route_match}
use Rattle.fib_config.proofs.digest.place_of_route.Goals as goal

pub returns-in-Some : goal.returns-in-Some
returns-in-Some c =
    c.place_of.ensures
    ∙ ap (position_or_len _) (subst (AreKeys route_key c.args.routes.now) c.in-Some.is c.requires)
    ∙ by_keys route_key _ (is_route c.args.prefix c.args.source) (λ r. route_match c.args.prefix c.args.source c.rank.result r c.rank.ensures.value) c.args.routes.now
