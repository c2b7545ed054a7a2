use Rattle.std.proofs.Common.{◌-◌, map, slice_get, nat_eq, sym, ap, ◌∙◌, subst, arith}
use Rattle.std.specs.HashMap.{get}
use Rattle.std.specs.List.{IsDistinct}
use Rattle.fib_base_interned.specs.inner.Book.{IsBook}
use Rattle.fib_base_interned.proofs.Books.{book_set, given_by}
use Rattle.fib_base_interned.proofs.Rows.{shown, map_at, map_set, keys_set, rows_interned}
use Rattle.fib_base_interned.proofs.Undoing.{lowered_back}
use Rattle.fib_base_interned.proofs.interned.Interned.lower.Goals as goal

pub overflow_sub-held : goal.overflow_sub-held
overflow_sub-held g c =
    let at = map_at shown c.self.inside.rows.entries c.args.place _ c.pair_mut-held.ensures.value in
    let more = c.requires.held _ (ap (λ l. slice_get l c.args.place) (sym c.self.view_is) ∙ at) in omega (arith, more)

pub invariant_of-self : goal.invariant_of-self
invariant_of-self g c =
    let at = map_at shown c.self.inside.rows.entries c.args.place _ c.pair_mut-held.ensures.value in
    let more = c.requires.held _ (ap (λ l. slice_get l c.args.place) (sym c.self.view_is) ∙ at) in
    subst (λ l. IsBook l (get nat_eq c.self.inside.places))
    (sym (map_set c.self.inside.rows.entries c.args.place _ _ c.pair_mut-held.ensures.value))
    (book_set (map shown c.self.inside.rows.entries) (get nat_eq c.self.inside.places) c.self.invariant c.args.place
    (c.pair_mut-held.result.1.now.users - 1) _ at (omega (arith, more)))

pub returns-clause-given : goal.returns-clause-given
returns-clause-given g c =
    let at = map_at shown c.self.inside.rows.entries c.args.place _ c.pair_mut-held.ensures.value in
    let more = c.requires.held _ (ap (λ l. slice_get l c.args.place) (sym c.self.view_is) ∙ at) in
    λ k is. given_by c.args.self.now (map shown c.self.inside.rows.entries) _ (get nat_eq c.self.inside.places) c.self.invariant c.self.view_is
    c.args.place _ k at is more (map_set c.self.inside.rows.entries c.args.place _ _ c.pair_mut-held.ensures.value)

pub returns-clause-interned : goal.returns-clause-interned
returns-clause-interned g c =
    rows_interned _ g.met.T.Eq.laws.refl _ (get nat_eq c.self.inside.places) (invariant_of-self g c)
    (subst (IsDistinct _) (sym (keys_set c.self.inside.rows.entries c.args.place _)) c.pair_mut-held.ensures.unique)

pub returns-clause-back : goal.returns-clause-back
returns-clause-back g c =
    let at = map_at shown c.self.inside.rows.entries c.args.place _ c.pair_mut-held.ensures.value in
    let more = c.requires.held _ (ap (λ l. slice_get l c.args.place) (sym c.self.view_is) ∙ at) in
    λ k is. lowered_back c.args.self.now (map shown c.self.inside.rows.entries) _ (get nat_eq c.self.inside.places) c.self.invariant c.self.view_is
    c.args.place _ k at is more (map_set c.self.inside.rows.entries c.args.place _ _ c.pair_mut-held.ensures.value)
