use Rattle.std.proofs.Common.{List, length, subst, sym, ◌∙◌}
use Rattle.std.specs.HashMap.{get}
use Rattle.std.proofs.lemmas.List.Edits.{insert_end}
use Rattle.fib_base_keyed.specs.inner.Rows.{AreKnown}
use Rattle.fib_base_keyed.specs.declared.rows.Row.{Row}
use Rattle.fib_base_keyed.proofs.Keys.{known_put}
use Rattle.fib_base_keyed.proofs.keyed.Keyed.with_last.Goals as goal

pub invariant_of-result : goal.invariant_of-result
invariant_of-result g c =
    let eq = g.K.PartialEq.eq in
    let rows = c.self.inside.rows in
    let row : Row g.row.K.Denot = record { key = c.args.key; stamp = c.in_ok-stamp.stamp } in
    subst (λ (rs : List (Row g.row.K.Denot)). AreKnown eq rs (get eq c.in_ok-stamps.stamps)) (sym (c.in-Ok.ensures.ok ∙ sym (insert_end rows row)))
    (known_put eq g.met.K.Eq.laws c.self.inside.stamps c.in_ok-stamps.stamps rows (length rows) row c.self.invariant c.in_ok-stamps.ensures)
