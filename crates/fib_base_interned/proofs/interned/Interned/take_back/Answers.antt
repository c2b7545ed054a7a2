use Rattle.std.proofs.Common.{arith, ◌≡◌, ◌+◌, ◌-◌, ◌<◌, length, sym, ap, ◌∙◌, refl, subst}
use Rattle.std.proofs.lemmas.Option.{slice_get_within}
use Rattle.fib_base_interned.specs.Interned.{kept_of, users_in, untaken, Gives}
use Rattle.fib_base_interned.proofs.Finding.{some_is}
use Rattle.fib_base_interned.proofs.Books.{kept_there, kept_id}
use Rattle.fib_base_interned.proofs.interned.Interned.take_back.Goals as goal

pub returns-then-users-gt1-clause-back : goal.returns-then-users-gt1-clause-back
returns-then-users-gt1-clause-back g c =
    let k = kept_there (kept_of c.args.self.now c.args.id) c.requires.kept in
    c.lower.ensures.back k.0 (c.place-place.ensures ∙ k.1) ∙ ap (λ n. untaken n c.args.self.now) (kept_id c.args.self.now c.args.id k.0 k.1)

pub returns-then-users-gt1-clause-given : goal.returns-then-users-gt1-clause-given
returns-then-users-gt1-clause-given g c =
    let k = kept_there (kept_of c.args.self.now c.args.id) c.requires.kept in
    subst (λ z. Gives c.args.self.now c.lower.new.self z) (kept_id c.args.self.now c.args.id k.0 k.1) (c.lower.ensures.given k.0 (c.place-place.ensures ∙ k.1))

pub forget-requires-clause-within : goal.forget-requires-clause-within
forget-requires-clause-within g c =
    let k = kept_there (kept_of c.args.self.now c.args.id) c.requires.kept in
    slice_get_within c.args.self.now c.place-place.result k.0 (c.place-place.ensures ∙ k.1)

pub forget-requires-clause-held : goal.forget-requires-clause-held
forget-requires-clause-held g c =
    let o = kept_there (kept_of c.args.self.now c.args.id) c.requires.kept in
    λ k at. (let e = some_is k o.0 (sym at ∙ (c.place-place.ensures ∙ o.1)) in
    let n : c.users.result ≡ k.users = c.users.ensures.count ∙ (ap users_in o.1 ∙ ap (λ z. z.users) (sym e)) in
    let low = c.if-users-gt1.false in
    let some = c.users.ensures.some in omega (arith, n, low, some))

pub returns-else-users-gt1-clause-back : goal.returns-else-users-gt1-clause-back
returns-else-users-gt1-clause-back g c =
    let k = kept_there (kept_of c.args.self.now c.args.id) c.requires.kept in
    let at = c.place-place.ensures ∙ k.1 in
    let n : c.users.result ≡ k.0.users = c.users.ensures.count ∙ ap users_in k.1 in
    let low = c.if-users-gt1.false in
    let some = c.users.ensures.some in
    let one : k.0.users ≡ 1 = omega (arith, n, low, some) in
    let inside = slice_get_within c.args.self.now c.place-place.result k.0 at in
    let same = c.count-count.ensures.interned.numbers_apart _ _ k.0 k.0 at (c.requires.last k.0 k.1 one) refl in
    c.forget.ensures.back k.0 at (omega (arith, same, inside)) ∙ ap (λ n. untaken n c.args.self.now) (kept_id c.args.self.now c.args.id k.0 k.1)

pub returns-else-users-gt1-clause-given : goal.returns-else-users-gt1-clause-given
returns-else-users-gt1-clause-given g c =
    let k = kept_there (kept_of c.args.self.now c.args.id) c.requires.kept in
    subst (λ z. Gives c.args.self.now c.forget.new.self z) (kept_id c.args.self.now c.args.id k.0 k.1) (c.forget.ensures.given k.0 (c.place-place.ensures ∙ k.1))
