use Rattle.std.proofs.Common.{arith, sym, subst}
use Rattle.fib_base_ordered.specs.Sets.{below, above}
use Rattle.fib_ply.specs.Rows.{ArePrefixes, rank}
use Rattle.fib_ply.proofs.Rowing.{held_removed, each_filter, each_join}
use Rattle.fib_ply.proofs.rows.Rows.take_out.Goals as goal

pub invariant_of-self : goal.invariant_of-self
invariant_of-self c = subst ArePrefixes (sym c.remove.ensures.members) (each_join (below rank c.key_of.result c.self.inside.rows.members) (above rank c.key_of.result c.self.inside.rows.members) (each_filter _ c.self.inside.rows.members c.self.invariant) (each_filter _ c.self.inside.rows.members c.self.invariant))

pub returns-clause-held : goal.returns-clause-held
returns-clause-held c = rw (← c.self.view_is) (held_removed c.self.inside.rows.members c.remove.new.self.members c.self.invariant (subst ArePrefixes (sym c.remove.ensures.members) (each_join (below rank c.key_of.result c.self.inside.rows.members) (above rank c.key_of.result c.self.inside.rows.members) (each_filter _ c.self.inside.rows.members c.self.invariant) (each_filter _ c.self.inside.rows.members c.self.invariant))) c.args.prefix (let l = c.key_of.ensures.prefix.short in omega (arith, l)) (rw (← c.key_of.ensures.key) c.remove.ensures.found))
