use Rattle.std.proofs.Common.{subst}
use Rattle.fib_resolve.specs.Tables.{IsSound}
use Rattle.fib_follow_looked.proofs.Naming.{are_named}
use Rattle.fib_follow_looked.proofs.named.Named.of.Goals as goal

pub returns : goal.returns
returns c = λ S h.
    are_named c.args.before.now c.args.changes.now S c.args.after.now.tables h.stands
    (subst IsSound c.tables-tables.ensures.value c.tables-tables.ensures.sound) _ c.in_ok-prefixes.ensures c.in_ok-hops.ensures c.len-count.ensures.prefixes
