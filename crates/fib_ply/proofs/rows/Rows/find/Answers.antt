use Rattle.std.proofs.Common.{arith, sym, ap, ◌∙◌}
use Rattle.fib_base_ordered.specs.Sets.{found}
use Rattle.fib_ply.specs.Rows.{rank}
use Rattle.fib_ply.proofs.Rowing.{found_some, found_none}
use Rattle.fib_ply.proofs.rows.Rows.find.Goals as goal

pub returns-in-Some : goal.returns-in-Some
returns-in-Some c = rw (← c.self.view_is) (found_some c.self.inside.rows.members c.self.invariant c.args.prefix (let l = c.key_of.ensures.prefix.short in omega (arith, l)) c.in-Some.row (sym c.in-Some.is ∙ c.find.ensures ∙ ap (found rank c.self.inside.rows.members) c.key_of.ensures.key))

pub returns-in-None : goal.returns-in-None
returns-in-None c = rw (← c.self.view_is) (found_none c.self.inside.rows.members c.self.invariant c.args.prefix (let l = c.key_of.ensures.prefix.short in omega (arith, l)) (sym c.in-None.is ∙ c.find.ensures ∙ ap (found rank c.self.inside.rows.members) c.key_of.ensures.key))
