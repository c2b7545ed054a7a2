use Rattle.std.proofs.Common.{nat_eq, map, is_some, sym, ap, ◌∙◌}
use Rattle.std.specs.HashMap.{get}
use Rattle.fib_base_interned.specs.Interned.{kept_of}
use Rattle.fib_base_interned.proofs.Books.{has_place}
use Rattle.fib_base_interned.proofs.Rows.{shown}
use Rattle.fib_base_interned.proofs.interned.Interned.has.Goals as goal

pub returns : goal.returns
returns g c =
    let same = c.contains_key.ensures ∙ (has_place (map shown c.self.inside.rows.entries) (get nat_eq c.self.inside.places) c.self.invariant c.args.id
    ∙ ap (λ v. is_some (kept_of v c.args.id)) c.self.view_is) in
    (λ h. sym same ∙ h, λ h. same ∙ h)
