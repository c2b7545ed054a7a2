use Rattle.std.proofs.Common.{◌∙◌, ◌-◌, ℕ, ap, arith, rules}
use Rattle.std.specs.Prelude.{Option}
use Rattle.fib_addr.specs.Prefixes.{Prefix}
use Rattle.fib_ply.specs.Tables.{object_in}
use Rattle.fib_stack.proofs.Calling.{gives_calls, gives_none}
use Rattle.fib_stack.proofs.Finishing.{added_here, added_there, none_came, some_length}
use Rattle.fib_stack.proofs.finish.place.Goals as goal

pub add-requires-clause-prefix : goal.add-requires-clause-prefix
add-requires-clause-prefix g c = some_length (g.P.Objects.promise c.args.on.now) c.args.table.now (g.P.Objects.view c.args.on.now) c.args.entry c.requires.stands c.len-length.ensures.prefix (search rules)

pub returns-then-is_none-clause-here : goal.returns-then-is_none-clause-here
returns-then-is_none-clause-here g c = ap (λ (f : Prefix → Option ℕ). f c.args.entry) c.add.ensures.object ∙ added_here (object_in c.args.table.now) c.args.entry c.args.object

pub returns-then-is_none-clause-others : goal.returns-then-is_none-clause-others
returns-then-is_none-clause-others g c = λ d ne. ap (λ (f : Prefix → Option ℕ). f d) c.add.ensures.object ∙ added_there (object_in c.args.table.now) c.args.entry c.args.object d ne

pub returns-then-is_none-clause-came : goal.returns-then-is_none-clause-came
returns-then-is_none-clause-came g c = (c.add.new.self.plies - c.args.table.now.plies, c.add.ensures.came, omega (arith, c.add.ensures.free, c.add.ensures.plies))

pub returns-else-is_none-clause-came : goal.returns-else-is_none-clause-came
returns-else-is_none-clause-came g c = (0, none_came (object_in c.args.table.now) c.args.entry, omega arith)

pub returns-then-is_none-clause-given : goal.returns-then-is_none-clause-given
returns-then-is_none-clause-given g c = gives_calls _ _ c.add.ensures.none_dropped

pub returns-else-is_none-clause-given : goal.returns-else-is_none-clause-given
returns-else-is_none-clause-given g c = gives_none _
