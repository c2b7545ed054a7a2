use Rattle.std.proofs.Common.{sym, ◌∙◌}
use Rattle.fib_config.proofs.Lists.{long_mixed, long_long}
use Rattle.fib_config.proofs.reasons.refused_long_list.Goals as goal

pub returns-then-drops_or_is_local : goal.returns-then-drops_or_is_local
returns-then-drops_or_is_local c = sym (long_mixed c.args.tables.now c.args.paths.now c.args.specs.now c.requires (sym c.drops_or_is_local.ensures ∙ c.if-drops_or_is_local.true))

pub returns-else-drops_or_is_local : goal.returns-else-drops_or_is_local
returns-else-drops_or_is_local c = sym (long_long c.args.tables.now c.args.paths.now c.args.specs.now c.requires (sym c.drops_or_is_local.ensures ∙ c.if-drops_or_is_local.false))
