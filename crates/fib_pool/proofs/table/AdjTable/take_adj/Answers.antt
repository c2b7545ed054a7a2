use Rattle.std.proofs.Common.{sym, ap, ◌∙◌, subst}
use Rattle.fib_base_interned.specs.Interned.{kept_of, IsFound, IsAbsent}
use Rattle.fib_pool.specs.contracts.object.AdjacencyRecordPartialEq.TheImpl.{eq-value}
use Rattle.fib_pool.specs.Records.{adjacency, IsNew, IsUsedLess, TakesRecord}
use Rattle.fib_pool.proofs.Keeping.{record_is, found_few, absent_new, none_both}
use Rattle.fib_pool.proofs.table.AdjTable.take_adj.Goals as goal

pub share-requires-clause-few : goal.share-requires-clause-few
share-requires-clause-few c =
    let wanted = adjacency c.args.interface c.args.next_hop c.number_of.result in
    found_few c.args.self.now wanted c.in-Some.object 4294967295
    (subst (λ v. IsFound (eq-value.it wanted) v c.in-Some.object) c.self.view_is c.in-Some.ensures.found)
    (subst (λ m. IsUsedLess c.args.self.now (adjacency c.args.interface c.args.next_hop m) 4294967295) (sym c.number_of.ensures) c.requires.few)

pub returns-in-Some-clause-taken : goal.returns-in-Some-clause-taken
returns-in-Some-clause-taken c =
    let wanted = adjacency c.args.interface c.args.next_hop c.number_of.result in
    let f = c.in-Some.ensures.found in
    let is = sym (record_is wanted f.0.content f.2) ∙ ap (adjacency c.args.interface c.args.next_hop) c.number_of.ensures in
    subst (λ r. TakesRecord c.args.self.now c.share.new.self c.args.pool.now c.args.pool.now r c.share.result) is
    (c.share.ensures.taken f.0 (ap (λ v. kept_of v c.in-Some.object) (sym c.self.view_is) ∙ f.1))

pub keep-requires-clause-absent : goal.keep-requires-clause-absent
keep-requires-clause-absent c =
    let wanted = adjacency c.args.interface c.args.next_hop c.number_of.result in
    absent_new c.args.self.now wanted (subst (IsAbsent (eq-value.it wanted)) c.self.view_is c.in_default.ensures.absent)

pub returns-clause-none : goal.returns-clause-none
returns-clause-none c =
    let wanted = adjacency c.args.interface c.args.next_hop c.number_of.result in
    let absent = absent_new c.args.self.now wanted (subst (IsAbsent (eq-value.it wanted)) c.self.view_is c.in_default.ensures.absent) in
    none_both c.keep.result _ _
    (subst (λ m. IsNew c.args.self.now (adjacency c.args.interface c.args.next_hop m)) c.number_of.ensures absent)
    c.keep.ensures.none
