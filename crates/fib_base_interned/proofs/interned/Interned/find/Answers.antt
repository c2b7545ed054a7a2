use Rattle.std.proofs.Common.{map, nat_eq, sym, ap, ◌∙◌, subst}
use Rattle.std.specs.Prelude.{IfNone}
use Rattle.std.specs.HashMap.{get}
use Rattle.fib_base_interned.specs.Interned.{kept_of, IsAbsent}
use Rattle.fib_base_interned.proofs.Books.{kept_here}
use Rattle.fib_base_interned.proofs.Finding.{key_passes}
use Rattle.fib_base_interned.proofs.Rows.{shown, map_at, rows_absent}
use Rattle.fib_base_interned.proofs.interned.Interned.find.Goals as goal

pub returns-in_err-held-clause-absent : goal.returns-in_err-held-clause-absent
returns-in_err-held-clause-absent g c =
    subst (λ r. IfNone r (IsAbsent (g.Q.Equivalent.equivalent c.args.content) c.args.self.now)) (sym c.from_residual.ensures)
    (subst (IsAbsent _) c.self.view_is (rows_absent _ c.self.inside.rows.entries (sym c.in_err-held.ensures.key)))

pub returns-clause-found : goal.returns-clause-found
returns-clause-found g c =
    let at = map_at shown c.self.inside.rows.entries c.in_ok-held.field-0-0 _ c.in_ok-held.ensures.entry in (
      _,
      ap (λ v. kept_of v c.in_ok-held.held.now.id) (sym c.self.view_is)
          ∙ kept_here (map shown c.self.inside.rows.entries) (get nat_eq c.self.inside.places) c.self.invariant c.in_ok-held.field-0-0 _ at,
      key_passes _ c.self.inside.rows.entries c.in_ok-held.field-0-1.now (sym c.in_ok-held.ensures.key),
    )
