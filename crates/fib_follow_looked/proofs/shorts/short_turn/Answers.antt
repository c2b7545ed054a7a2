use Rattle.std.proofs.Common.{subst}
use Rattle.fib_resolve.specs.Tables.{IsSound}
use Rattle.fib_follow_looked.proofs.Turning.{turn_found}
use Rattle.fib_follow_looked.proofs.shorts.short_turn.Goals as goal

pub returns : goal.returns
returns c = λ S h t.
    let T = c.args.after.now.tables in
    turn_found S T c.args.q c.in_ok-fresh.fresh c.chosen.result.now c.attached_of.result c.attached.result c.is_entry.result c.is_made.result
    c.is_same-same.result
    h.sound (subst IsSound c.tables-tables.ensures.value c.tables-tables.ensures.sound) c.requires c.in_ok-fresh.ensures.prefix c.in_ok-fresh.ensures.fresh
    (c.is_entry.ensures.before S h) c.is_made.ensures (c.chosen.ensures.before S h) c.attached_of.ensures
    (λ sound is short. c.attached.ensures T sound is short)
    c.is_same-same.ensures c.turn_by.result c.turn_by.ensures t
