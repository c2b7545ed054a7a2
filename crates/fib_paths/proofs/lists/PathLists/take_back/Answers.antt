use Rattle.std.proofs.Common.{◌≡◌, List, map, IsSome, sym, ap, ◌∙◌, subst}
use Rattle.fib_base_interned.specs.Interned.{kept_of, untaken, IsLastToGo}
use Rattle.fib_paths.specs.PathLists.{KeptList}
use Rattle.fib_paths.specs.inner.Vectors.{listed}
use Rattle.fib_paths.proofs.Listing.{some_listed, untaken_listed, last_listed, interned_listed, apart_given}
use Rattle.fib_paths.proofs.lists.PathLists.take_back.Goals as goal

pub take_back-requires-clause-kept : goal.take_back-requires-clause-kept
take_back-requires-clause-kept c = some_listed c.self.inside.rows c.id.inside.0 (subst (λ v. IsSome (kept_of v c.id.inside.0)) (sym c.self.view_is) (subst (λ n. IsSome (kept_of c.args.self.now n)) (sym c.id.view_is) c.requires.kept))

pub take_back-requires-clause-last : goal.take_back-requires-clause-last
take_back-requires-clause-last c =
    last_listed c.self.inside.rows c.id.inside.0 c.count-count.ensures.interned
    (subst (λ v. IsLastToGo v c.id.inside.0) (sym c.self.view_is) (subst (λ n. IsLastToGo c.args.self.now n) (sym c.id.view_is) c.requires.last))

pub invariant_of-self : goal.invariant_of-self
invariant_of-self c = apart_given c.self.inside.rows c.take_back.new.self c.id.inside.0 c.self.invariant c.take_back.ensures.given

pub returns-clause-back : goal.returns-clause-back
returns-clause-back c =
    ap (map listed) c.take_back.ensures.back ∙ (untaken_listed c.self.inside.rows c.id.inside.0
    ∙ (ap (λ (l : List KeptList). untaken c.id.inside.0 l) c.self.view_is ∙ ap (λ n. untaken n c.args.self.now) c.id.view_is))

pub returns-clause-interned : goal.returns-clause-interned
returns-clause-interned c =
    interned_listed c.take_back.new.self c.take_back.ensures.interned (apart_given c.self.inside.rows c.take_back.new.self c.id.inside.0 c.self.invariant c.take_back.ensures.given)
