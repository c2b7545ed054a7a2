use Rattle.std.proofs.Common.{arith, ◌∙◌}
use Rattle.fib_config.proofs.Keying.{route_keys_put}
use Rattle.fib_config.proofs.changes.put_route_again.Goals as goal

pub returns-clause-keys : goal.returns-clause-keys
returns-clause-keys c =
    rw c.replace-new.ensures.list (
    route_keys_put c.args.routes.now c.args.place c.args.old c.replace-new.result c.args.keys.now c.keep_where.new.keys c.replace-new.ensures.value
    (omega (arith, c.if-place-len.false, c.len.ensures))
    (λ is. c.keep_where.ensures.kept (c.is_route.ensures ∙ is)) (λ isnt. c.keep_where.ensures.gone (c.is_route.ensures ∙ isnt)) c.requires
    )
