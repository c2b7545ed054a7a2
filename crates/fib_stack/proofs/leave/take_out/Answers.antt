use Rattle.std.proofs.Common.{◌≡◌, ◌∙◌, ◌<◌, ℕ, ap, sym, subst, arith}
use Rattle.std.specs.Prelude.{Option, Some}
use Rattle.fib_addr.specs.Prefixes.{Prefix}
use Rattle.fib_plane_view.specs.Promise.{Promise}
use Rattle.fib_ply.specs.Tables.{Stands, object_in}
use Rattle.fib_stack.proofs.Finishing.{gone_none, left_stands, may_let_go, removed_here, removed_there}
use Rattle.fib_stack.proofs.leave.take_out.Goals as goal

pub returns-in-Some-clause-here : goal.returns-in-Some-clause-here
returns-in-Some-clause-here g c = ap (λ (f : Prefix → Option ℕ). f c.args.entry) c.remove.ensures.object ∙ removed_here (object_in c.args.table.now) c.args.entry

pub returns-in-Some-clause-others : goal.returns-in-Some-clause-others
returns-in-Some-clause-others g c = λ d ne. ap (λ (f : Prefix → Option ℕ). f d) c.remove.ensures.object ∙ removed_there (object_in c.args.table.now) c.args.entry d ne

pub let_go-requires-clause-promise : goal.let_go-requires-clause-promise
let_go-requires-clause-promise g c =
    let here = ap (λ (f : Prefix → Option ℕ). f c.args.entry) c.remove.ensures.object ∙ removed_here (object_in c.args.table.now) c.args.entry in
    let at : object_in c.args.table.now c.args.entry ≡ Some c.in-Some.object = sym c.object.ensures ∙ c.in-Some.is in
    let none = gone_none (object_in c.args.table.now) (object_in c.remove.new.self) c.args.entry c.in-Some.object here (λ d ne. ap (λ (f : Prefix → Option ℕ). f d) c.remove.ensures.object ∙ removed_there (object_in c.args.table.now) c.args.entry d ne) at c.requires.apart in
    let lt : (g.P.Objects.promise c.remove.new.on).settled < (g.P.Objects.promise c.remove.new.on).applied = subst (λ (p : Promise). p.settled < p.applied) (sym c.remove.ensures.promise) c.requires.changing in
    may_let_go (g.P.Objects.promise c.remove.new.on) c.remove.new.self (g.P.Objects.view c.remove.new.on) c.in-Some.object lt c.remove.ensures.stands none

pub returns-in-Some-clause-stands : goal.returns-in-Some-clause-stands
returns-in-Some-clause-stands g c =
    let here = ap (λ (f : Prefix → Option ℕ). f c.args.entry) c.remove.ensures.object ∙ removed_here (object_in c.args.table.now) c.args.entry in
    let at : object_in c.args.table.now c.args.entry ≡ Some c.in-Some.object = sym c.object.ensures ∙ c.in-Some.is in
    let none = gone_none (object_in c.args.table.now) (object_in c.remove.new.self) c.args.entry c.in-Some.object here (λ d ne. ap (λ (f : Prefix → Option ℕ). f d) c.remove.ensures.object ∙ removed_there (object_in c.args.table.now) c.args.entry d ne) at c.requires.apart in
    let lt : (g.P.Objects.promise c.remove.new.on).settled < (g.P.Objects.promise c.remove.new.on).applied = subst (λ (p : Promise). p.settled < p.applied) (sym c.remove.ensures.promise) c.requires.changing in
    subst (λ (p : Promise). Stands p c.remove.new.self (g.P.Objects.view c.let_go.new.self)) (sym c.let_go.ensures.promise)
    (left_stands (g.P.Objects.promise c.remove.new.on) c.remove.new.self (g.P.Objects.view c.remove.new.on) c.in-Some.object lt c.remove.ensures.stands none (g.P.Objects.view c.let_go.new.self) (g.met.P.Objects.sound c.let_go.new.self)
    (c.remove.ensures.beside.balances c.in-Some.object (c.requires.held c.in-Some.object at)) c.let_go.ensures.gone)

pub returns-in-Some-clause-free : goal.returns-in-Some-clause-free
returns-in-Some-clause-free g c = omega (arith, c.remove.ensures.free, c.let_go.ensures.gone.swept.free)
