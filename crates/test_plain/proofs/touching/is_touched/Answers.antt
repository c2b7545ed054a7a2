use Rattle.std.proofs.Common.{sym, subst}
use Rattle.fib_resolve.specs.Tables.{IsSound}
use Rattle.fib_resolve.proofs.Touching.{same_pairs_chosen}
use Rattle.test_plain.proofs.touching.is_touched.Goals as goal

pub changes-requires : goal.changes-requires
changes-requires c = record {
  same = same_pairs_chosen c.args.before.now c.args.after.now c.args.e (subst IsSound c.known.ensures c.tables-tables.ensures.sound) (sym c.if-not-has_same_pairs.ensures);
}
