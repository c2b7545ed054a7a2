use Rattle.std.proofs.Common.{◌∙◌, ap, subst}
use Rattle.std.specs.List.{position_or_len}
use Rattle.fib_config.specs.inner.Digest.{AreKeys, is_neighbor, neighbor_key}
use Rattle.fib_config.proofs.Keying.{by_keys, neighbor_match}
use Rattle.fib_config.proofs.digest.place_of_neighbor.Goals as goal

pub returns-in-Some : goal.returns-in-Some
returns-in-Some c =
    c.place_of.ensures
    ∙ ap (position_or_len _) (subst (AreKeys neighbor_key c.args.neighbors.now) c.in-Some.is c.requires)
    ∙ by_keys neighbor_key _ (is_neighbor c.args.interface c.args.addr) (neighbor_match c.args.interface c.args.addr) c.args.neighbors.now
