use Rattle.std.proofs.Common.{List, subst, sym, ◌≤◌}
use Rattle.fib_stack_ledger.specs.Ledgers.{times}
use Rattle.fib_stack_ledger.specs.declared.ledger.Use.{Use}
use Rattle.fib_stack.specs.Records.{AreObjects}
use Rattle.trial_plain.proofs.records.listed_users.Goals as goal

pub give_all-requires-clause-users : goal.give_all-requires-clause-users
give_all-requires-clause-users g c = λ m. subst (λ (us : List Use). times m us ≤ (g.P.Objects.view c.take_listed.new.on).users m) (sym c.as_slice.ensures.value) (c.in_ok-uses.ensures.users m)

pub give_all-requires-clause-objects : goal.give_all-requires-clause-objects
give_all-requires-clause-objects g c = subst (λ (us : List Use). AreObjects (g.P.Objects.view c.take_listed.new.on) us) (sym c.as_slice.ensures.value) c.in_ok-uses.ensures.objects

pub give_all-requires-clause-promise : goal.give_all-requires-clause-promise
give_all-requires-clause-promise g c = c.in_ok-uses.ensures.clear
