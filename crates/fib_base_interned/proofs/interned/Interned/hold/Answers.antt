use Rattle.std.proofs.Common.{◌∙◌, subst}
use Rattle.fib_base_interned.specs.Interned.{kept_of, Takes, TakesBack}
use Rattle.fib_base_interned.proofs.Books.{kept_id, kept_there}
use Rattle.fib_base_interned.proofs.interned.Interned.hold.Goals as goal

pub returns-clause-held : goal.returns-clause-held
returns-clause-held g c = λ k is.
    subst (λ z. Takes c.args.self.now c.raise.new.self k.content z) (kept_id c.args.self.now c.args.id k is) (c.raise.ensures.taken k (c.place-place.ensures ∙ is))

pub returns-clause-back : goal.returns-clause-back
returns-clause-back g c =
    let k = kept_there (kept_of c.args.self.now c.args.id) c.requires.kept in
    subst (λ z. TakesBack c.args.self.now c.raise.new.self z) (kept_id c.args.self.now c.args.id k.0 k.1) (c.raise.ensures.back k.0 (c.place-place.ensures ∙ k.1))
