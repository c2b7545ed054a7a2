use Rattle.std.proofs.Common.{None, Ok, Option, ℕ, arith, subst, sym, ◌∙◌}
use Rattle.fib_pool.specs.Records.{adjacency}
use Rattle.fib_plane_view.specs.View.{TookOne}
use Rattle.fib_control_quiet.proofs.Early.{may_clear}
use Rattle.trial_plain.proofs.records.second_user.Goals as goal

pub take_adj-requires-clause-few : goal.take_adj-requires-clause-few
take_adj-requires-clause-few g c = let one = c.requires.one in omega (arith, one)

pub take_adj-requires-clause-promise : goal.take_adj-requires-clause-promise
take_adj-requires-clause-promise g c = may_clear (g.P.Objects.promise c.args.on.now) (g.P.Objects.view c.args.on.now) c.requires.empty

pub returns-in-Some : goal.returns-in-Some
returns-in-Some g c =
    let took = subst (λ (r : Option ℕ). TookOne (g.P.Objects.view c.args.on.now) (g.P.Objects.view c.take_adj.new.self) (adjacency 3 7 None) (Ok r))
    c.in-Some.is c.in_ok-object.ensures.took in
    let one = c.requires.one in
    record { same = sym (took.kept (adjacency 3 7 None) (omega (arith, one))) ∙ took.here }
