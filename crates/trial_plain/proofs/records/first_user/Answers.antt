use Rattle.std.proofs.Common.{None, Ok, Option, ℕ, arith, subst}
use Rattle.fib_pool.specs.Records.{adjacency}
use Rattle.fib_plane_view.specs.View.{TookOne}
use Rattle.fib_control_quiet.proofs.Early.{empty_took, may_clear}
use Rattle.trial_plain.proofs.records.first_user.Goals as goal

pub take_adj-requires-clause-promise : goal.take_adj-requires-clause-promise
take_adj-requires-clause-promise g c = may_clear (g.P.Objects.promise c.args.on.now) (g.P.Objects.view c.args.on.now) c.requires.empty

pub returns-in-Some-clause-empty : goal.returns-in-Some-clause-empty
returns-in-Some-clause-empty g c = empty_took (g.P.Objects.promise c.args.on.now) (g.P.Objects.promise c.take_adj.new.self) (g.P.Objects.view c.args.on.now) (g.P.Objects.view c.take_adj.new.self) (adjacency 3 7 None) c.in-Some.object c.requires.empty c.take_adj.ensures.promise
    (subst (λ (r : Option ℕ). TookOne (g.P.Objects.view c.args.on.now) (g.P.Objects.view c.take_adj.new.self) (adjacency 3 7 None) (Ok r)) c.in-Some.is c.in_ok-object.ensures.took)

pub returns-in-Some-clause-one : goal.returns-in-Some-clause-one
returns-in-Some-clause-one g c =
    let mine = (subst (λ (r : Option ℕ). TookOne (g.P.Objects.view c.args.on.now) (g.P.Objects.view c.take_adj.new.self) (adjacency 3 7 None) (Ok r))
    c.in-Some.is c.in_ok-object.ensures.took).mine in
    let none = c.requires.none (adjacency 3 7 None) in
    omega (arith, mine, none)
