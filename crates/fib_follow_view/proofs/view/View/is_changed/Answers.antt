use Rattle.std.proofs.Common.{sym}
use Rattle.fib_follow_view.proofs.After.{none_made, some_made}
use Rattle.fib_follow_view.proofs.view.View.is_changed.Goals as goal

pub returns-in-Some : goal.returns-in-Some
returns-in-Some c = sym (some_made c.args.self.now.changed c.args.e c.in-Some.field-0.now (sym c.in-Some.ensures))

pub returns-in-None : goal.returns-in-None
returns-in-None c = sym (none_made c.args.self.now.changed c.args.e (sym c.in-None.ensures))
