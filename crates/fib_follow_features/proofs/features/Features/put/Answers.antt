use Rattle.std.proofs.Common.{Some, sym, ◌∙◌, ap, subst, is_some}
use Rattle.std.proofs.lemmas.Result.{on_ok_weaker, on_err_weaker}
use Rattle.fib_follow_features.specs.Holders.{holders, members_of}
use Rattle.fib_follow_features.specs.inner.Puts.{Puts, AreSame}
use Rattle.fib_follow_features.proofs.Holding.{puts_in, same_in, Updated}
use Rattle.fib_follow_features.proofs.Same.{lookup_is, updated_is}
use Rattle.fib_follow_features.proofs.features.Features.put.Goals as goal

pub returns-in-Some-clause-ok : goal.returns-in-Some-clause-ok
returns-in-Some-clause-ok c =
    let old = c.self.inside.sets.entries in
    let new = (c.get_mut.follows.lender c.insert.new.set).entries in
    let set = Some c.insert.new.set in
    let f = c.args.feature in
    let known = ap is_some (sym c.in-Some.ensures.value) in
    on_ok_weaker c.insert.result
    (puts_in c.args.self.now new f set
    (subst (λ l. Updated l new f set) c.self.view_is (updated_is old new f set ((c.get_mut.follows.holds c.insert.new.set).3 known).0))
    c.in-Some.set.now
    (ap (λ l. holders l f) (sym c.self.view_is) ∙ ap members_of (sym (c.in-Some.ensures.value ∙ lookup_is f old))) c.args.e)
    c.insert.ensures.ok

pub returns-in-Some-clause-err : goal.returns-in-Some-clause-err
returns-in-Some-clause-err c =
    let old = c.self.inside.sets.entries in
    let new = (c.get_mut.follows.lender c.insert.new.set).entries in
    let set = Some c.insert.new.set in
    let f = c.args.feature in
    let known = ap is_some (sym c.in-Some.ensures.value) in
    on_err_weaker c.insert.result
    (same_in c.args.self.now new f set
    (subst (λ l. Updated l new f set) c.self.view_is (updated_is old new f set ((c.get_mut.follows.holds c.insert.new.set).3 known).0))
    c.in-Some.set.now
    (ap (λ l. holders l f) (sym c.self.view_is) ∙ ap members_of (sym (c.in-Some.ensures.value ∙ lookup_is f old))))
    c.insert.ensures.err

pub returns-in-None-clause-ok : goal.returns-in-None-clause-ok
returns-in-None-clause-ok c =
    let same = ap (λ m. m.entries) c.get_mut.follows.holds-at-none ∙ c.self.view_is in
    on_ok_weaker c.begin.result (λ p. subst (λ l. Puts l c.begin.new.self c.args.feature c.args.e) same p) c.begin.ensures.ok

pub returns-in-None-clause-err : goal.returns-in-None-clause-err
returns-in-None-clause-err c =
    let same = ap (λ m. m.entries) c.get_mut.follows.holds-at-none ∙ c.self.view_is in
    on_err_weaker c.begin.result (λ p. subst (λ l. AreSame l c.begin.new.self) same p) c.begin.ensures.err
