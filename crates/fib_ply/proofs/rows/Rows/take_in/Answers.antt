use Rattle.std.proofs.Common.{◌∷◌, arith, sym, subst, refl}
use Rattle.fib_base_ordered.specs.Sets.{below, above}
use Rattle.fib_ply.specs.Rows.{ArePrefixes, rank}
use Rattle.fib_ply.proofs.Rowing.{held_added, each_filter, each_join, key, absent_row}
use Rattle.fib_ply.proofs.rows.Rows.take_in.Goals as goal

pub insert-requires-clause-absent : goal.insert-requires-clause-absent
insert-requires-clause-absent c = absent_row c.self.inside.rows.members c.self.invariant c.args.prefix (let l = c.len-length.ensures.prefix.short in omega (arith, l)) (rw (← c.self.view_is) at c.requires.absent)

pub invariant_of-self : goal.invariant_of-self
invariant_of-self c = subst ArePrefixes (sym c.insert.ensures.members) (each_join (below rank (key c.args.prefix) c.self.inside.rows.members) (record { prefix = c.args.prefix; object = c.args.object } ∷ above rank (key c.args.prefix) c.self.inside.rows.members) (each_filter _ c.self.inside.rows.members c.self.invariant) (c.len-length.ensures.prefix, each_filter _ c.self.inside.rows.members c.self.invariant))

pub returns-clause-held : goal.returns-clause-held
returns-clause-held c = rw (← c.self.view_is) (held_added c.self.inside.rows.members c.insert.new.self.members c.self.invariant (subst ArePrefixes (sym c.insert.ensures.members) (each_join (below rank (key c.args.prefix) c.self.inside.rows.members) (record { prefix = c.args.prefix; object = c.args.object } ∷ above rank (key c.args.prefix) c.self.inside.rows.members) (each_filter _ c.self.inside.rows.members c.self.invariant) (c.len-length.ensures.prefix, each_filter _ c.self.inside.rows.members c.self.invariant))) c.args.prefix (let l = c.len-length.ensures.prefix.short in omega (arith, l)) c.args.object (record { prefix = c.args.prefix; object = c.args.object }) refl c.insert.ensures.found)
