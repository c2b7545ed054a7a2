use Rattle.std.proofs.Common.{arith, ◌<◌, List, ap, length, map, subst, sym, ◌∙◌}
use Rattle.std.specs.List.{remove}
use Rattle.std.specs.HashMap.{get}
use Rattle.fib_base_keyed.specs.inner.Rows.{AreKnown, key_of}
use Rattle.fib_base_keyed.specs.declared.rows.Row.{Row}
use Rattle.fib_base_keyed.proofs.Keys.{known_out, long, map_out}
use Rattle.fib_base_keyed.proofs.keyed.Keyed.remove.Goals as goal

pub invariant_of-self : goal.invariant_of-self
invariant_of-self g c =
    let eq = g.K.PartialEq.eq in
    let rows = c.self.inside.rows in
    let lt : c.args.place < length rows = omega (arith, c.requires, ap length c.self.view_is, long rows) in
    subst (λ (rs : List (Row g.row.K.Denot)). AreKnown eq rs (get eq c.remove-stamp.new.self)) (sym c.remove-row.ensures.list)
    (known_out eq g.met.K.Eq.laws c.self.inside.stamps c.remove-stamp.new.self rows c.args.place c.remove-row.result c.self.invariant lt c.remove-row.ensures.value c.remove-stamp.ensures.updates.0)

pub returns : goal.returns
returns g c = ap (map key_of) c.remove-row.ensures.list ∙ map_out key_of c.self.inside.rows c.args.place ∙ ap (λ l. remove l c.args.place) c.self.view_is
