use Rattle.std.proofs.Common.{List, ap, map, subst, sym, ◌∙◌}
use Rattle.std.specs.List.{insert}
use Rattle.std.specs.HashMap.{get}
use Rattle.fib_base_keyed.specs.inner.Rows.{AreKnown, key_of}
use Rattle.fib_base_keyed.specs.declared.rows.Row.{Row}
use Rattle.fib_base_keyed.proofs.Keys.{known_put, map_put}
use Rattle.fib_base_keyed.proofs.keyed.Keyed.with_again.Goals as goal

pub invariant_of-result : goal.invariant_of-result
invariant_of-result g c =
    let eq = g.K.PartialEq.eq in
    subst (λ (rs : List (Row g.row.K.Denot)). AreKnown eq rs (get eq c.in_ok-stamps.stamps)) (sym c.put_back.ensures)
    (known_put eq g.met.K.Eq.laws c.self.inside.stamps c.in_ok-stamps.stamps c.self.inside.rows c.args.place (record { key = c.args.key; stamp = c.args.gone.stamp }) c.self.invariant c.in_ok-stamps.ensures)

pub returns : goal.returns
returns g c = ap (map key_of) c.put_back.ensures ∙ map_put key_of c.self.inside.rows c.args.place (record { key = c.args.key; stamp = c.args.gone.stamp }) ∙ ap (λ l. insert l c.args.place c.args.key) c.self.view_is
