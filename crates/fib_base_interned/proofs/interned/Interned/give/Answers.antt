use Rattle.std.proofs.Common.{◌≡◌, sym, ap, ◌∙◌, subst, arith, refl}
use Rattle.std.proofs.lemmas.Bool.{false≢true}
use Rattle.std.proofs.lemmas.Option.{slice_get_within}
use Rattle.fib_base_interned.specs.Interned.{kept_of, users_in, Gives}
use Rattle.fib_base_interned.proofs.Finding.{some_is}
use Rattle.fib_base_interned.proofs.Books.{kept_there, kept_id, lowered_gone, lowered_some}
use Rattle.fib_base_interned.proofs.interned.Interned.give.Goals as goal

pub returns-then-users-gt1-clause-given : goal.returns-then-users-gt1-clause-given
returns-then-users-gt1-clause-given g c =
    let k = kept_there (kept_of c.args.self.now c.args.id) c.requires in
    subst (λ z. Gives c.args.self.now c.lower.new.self z) (kept_id c.args.self.now c.args.id k.0 k.1) (c.lower.ensures.given k.0 (c.place-place.ensures ∙ k.1))

pub returns-then-users-gt1-clause-forgotten : goal.returns-then-users-gt1-clause-forgotten
returns-then-users-gt1-clause-forgotten g c =
    let k = kept_there (kept_of c.args.self.now c.args.id) c.requires in
    let n : c.users.result ≡ k.0.users = c.users.ensures.count ∙ ap users_in k.1 in
    let more = c.if-users-gt1.true in
    (λ h. absurd (false≢true h), λ gone. absurd (lowered_some _ k.0 k.1 (omega (arith, n, more)) (sym (returns-then-users-gt1-clause-given g c).given ∙ gone)))

pub forget-requires-clause-within : goal.forget-requires-clause-within
forget-requires-clause-within g c =
    let k = kept_there (kept_of c.args.self.now c.args.id) c.requires in
    slice_get_within c.args.self.now c.place-place.result k.0 (c.place-place.ensures ∙ k.1)

pub forget-requires-clause-held : goal.forget-requires-clause-held
forget-requires-clause-held g c =
    let o = kept_there (kept_of c.args.self.now c.args.id) c.requires in
    λ k at. (let e = some_is k o.0 (sym at ∙ (c.place-place.ensures ∙ o.1)) in
    let n : c.users.result ≡ k.users = c.users.ensures.count ∙ (ap users_in o.1 ∙ ap (λ z. z.users) (sym e)) in
    let low = c.if-users-gt1.false in
    let some = c.users.ensures.some in omega (arith, n, low, some))

pub returns-clause-given : goal.returns-clause-given
returns-clause-given g c =
    let k = kept_there (kept_of c.args.self.now c.args.id) c.requires in
    subst (λ z. Gives c.args.self.now c.forget.new.self z) (kept_id c.args.self.now c.args.id k.0 k.1) (c.forget.ensures.given k.0 (c.place-place.ensures ∙ k.1))

pub returns-clause-forgotten : goal.returns-clause-forgotten
returns-clause-forgotten g c =
    let k = kept_there (kept_of c.args.self.now c.args.id) c.requires in
    let n : c.users.result ≡ k.0.users = c.users.ensures.count ∙ ap users_in k.1 in
    let low = c.if-users-gt1.false in
    let some = c.users.ensures.some in
    (λ h. (returns-clause-given g c).given ∙ lowered_gone _ k.0 k.1 (omega (arith, n, low, some)), λ h. refl)
