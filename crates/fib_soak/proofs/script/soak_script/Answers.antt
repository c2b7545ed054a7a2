use Rattle.std.proofs.Common.{◌∙◌}
use Rattle.fib_soak.proofs.Texts.{whole_script}
use Rattle.fib_soak.proofs.script.soak_script.Goals as goal

pub returns : goal.returns
returns c =
    whole_script _ _ _ _ _ _ _ _ _ _ (c.from_state-draws.ensures ∙ c.from.ensures) c.in_ok-put_targets.ensures.state c.in_ok-put_routes.ensures.state c.new-out.ensures.items
    c.in_ok-put_interfaces.ensures c.in_ok-put_neighbors.ensures c.in_ok-put_targets.ensures.text c.in_ok-put_routes.ensures.text c.in_ok-put_rounds.ensures.text
