use Rattle.std.proofs.Common.{subst}
use Rattle.fib_resolve.specs.Tables.{IsSound}
use Rattle.fib_follow_pairs.proofs.Hosted.{short_is}
use Rattle.fib_follow_pairs.proofs.fresh.short_pairs.Goals as goal

pub returns : goal.returns
returns c =
    short_is c.args.config.now.tables (subst IsSound c.tables-tables.ensures.value c.tables-tables.ensures.sound) c.args.prefix
    c.in_ok-found.found.items c.requires c.in_ok-found.ensures
