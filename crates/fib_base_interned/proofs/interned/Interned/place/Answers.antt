use Rattle.std.proofs.Common.{◌≡◌, Some, None, slice_get, nat_eq, sym, ap, ◌∙◌, is_some, map}
use Rattle.std.specs.HashMap.{get}
use Rattle.std.proofs.lemmas.Bool.{false≢true}
use Rattle.fib_base_interned.specs.Interned.{kept_of}
use Rattle.fib_base_interned.specs.inner.Book.{kept_at}
use Rattle.fib_base_interned.proofs.Books.{kept_by_place}
use Rattle.fib_base_interned.proofs.Rows.{shown}
use Rattle.fib_base_interned.proofs.interned.Interned.place.Goals as goal

pub unreachable-requires : goal.unreachable-requires
unreachable-requires g c =
    let rows = map shown c.self.inside.rows.entries in
    let by = kept_by_place rows (get nat_eq c.self.inside.places) c.self.invariant c.args.id in
    let none : get nat_eq c.self.inside.places c.args.id ≡ None = sym c.in_default.ensures.value in
    false≢true (ap is_some (sym (ap (λ v. kept_of v c.args.id) (sym c.self.view_is) ∙ (by ∙ ap (kept_at rows) none))) ∙ c.requires)

pub returns : goal.returns
returns g c =
    let rows = map shown c.self.inside.rows.entries in
    let by = kept_by_place rows (get nat_eq c.self.inside.places) c.self.invariant c.args.id in
    let at : get nat_eq c.self.inside.places c.args.id ≡ Some c.in-Some.place.now = sym c.in-Some.ensures.value in
    ap (λ v. slice_get v c.in-Some.place.now) (sym c.self.view_is)
    ∙ (sym (ap (kept_at rows) at) ∙ (sym by ∙ ap (λ v. kept_of v c.args.id) c.self.view_is))
