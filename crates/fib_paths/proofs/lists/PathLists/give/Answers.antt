use Rattle.std.proofs.Common.{map, IsSome, sym, subst}
use Rattle.fib_base_interned.specs.Interned.{kept_of, Gives}
use Rattle.fib_paths.specs.inner.Vectors.{listed}
use Rattle.fib_paths.proofs.Listing.{some_listed, gives_listed, interned_listed, apart_given}
use Rattle.fib_paths.proofs.lists.PathLists.give.Goals as goal

pub give-requires : goal.give-requires
give-requires c = some_listed c.self.inside.rows c.id.inside.0 (subst (λ v. IsSome (kept_of v c.id.inside.0)) (sym c.self.view_is) (subst (λ n. IsSome (kept_of c.args.self.now n)) (sym c.id.view_is) c.requires))

pub invariant_of-self : goal.invariant_of-self
invariant_of-self c = apart_given c.self.inside.rows c.give.new.self c.id.inside.0 c.self.invariant c.give.ensures.given

pub returns-clause-given : goal.returns-clause-given
returns-clause-given c =
    subst (λ n. Gives c.args.self.now (map listed c.give.new.self) n) c.id.view_is
    (subst (λ v. Gives v (map listed c.give.new.self) c.id.inside.0) c.self.view_is (gives_listed c.self.inside.rows c.give.new.self c.id.inside.0 c.give.ensures.given))

pub returns-clause-interned : goal.returns-clause-interned
returns-clause-interned c =
    interned_listed c.give.new.self c.give.ensures.interned (apart_given c.self.inside.rows c.give.new.self c.id.inside.0 c.self.invariant c.give.ensures.given)
