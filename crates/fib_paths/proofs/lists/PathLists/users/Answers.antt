use Rattle.std.proofs.Common.{IsSome, sym, ap, ◌∙◌, subst}
use Rattle.fib_base_interned.specs.Interned.{kept_of, users_of}
use Rattle.fib_paths.proofs.Listing.{some_listed, users_listed}
use Rattle.fib_paths.proofs.lists.PathLists.users.Goals as goal

pub users-requires : goal.users-requires
users-requires c = some_listed c.self.inside.rows c.id.inside.0 (subst (λ v. IsSome (kept_of v c.id.inside.0)) (sym c.self.view_is) (subst (λ n. IsSome (kept_of c.args.self.now n)) (sym c.id.view_is) c.requires))

pub returns-clause-count : goal.returns-clause-count
returns-clause-count c =
    c.users.ensures.count ∙ (sym (users_listed c.self.inside.rows c.id.inside.0) ∙ (ap (λ v. users_of v c.id.inside.0) c.self.view_is ∙ ap (users_of c.args.self.now) c.id.view_is))
