use Rattle.std.proofs.Common.{sym, ap, ◌∙◌, subst}
use Rattle.fib_follow_write.specs.Written.{AreKept, IsSpent, pairs_in}
use Rattle.fib_follow_write.proofs.spending.give_row.Goals as goal

pub give_pairs-requires-clause-kept : goal.give_pairs-requires-clause-kept
give_pairs-requires-clause-kept c = subst (AreKept c.args.lists.now) (sym (c.pairs.ensures ∙ ap pairs_in c.in-Some.ensures)) c.requires.kept

pub give_pairs-requires-clause-counted : goal.give_pairs-requires-clause-counted
give_pairs-requires-clause-counted c =
    (c.requires.counted.0, subst (IsSpent c.requires.counted.0 c.args.lists.now) (sym (c.pairs.ensures ∙ ap pairs_in c.in-Some.ensures)) c.requires.counted.1)

pub returns-in-Some : goal.returns-in-Some
returns-in-Some c = λ g s. c.give_pairs.ensures g (subst (IsSpent g c.args.lists.now) (sym (c.pairs.ensures ∙ ap pairs_in c.in-Some.ensures)) s)
