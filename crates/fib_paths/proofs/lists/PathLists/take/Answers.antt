use Rattle.std.proofs.Common.{◌≡◌, List, map, sym, subst, ◌^◌, ◌-◌, false}
use Rattle.std.specs.Cmp.Lexicographic.{pointwise}
use Rattle.fib_resolve.specs.declared.types.Path.{Path}
use Rattle.fib_resolve.specs.contracts.types.PathPartialEq.TheImpl.{eq-value}
use Rattle.fib_base_interned.specs.Interned.{AreInterned, Takes, TakesBack}
use Rattle.fib_paths.specs.PathLists.{IsUsedLess}
use Rattle.fib_paths.specs.inner.Vectors.{listed}
use Rattle.fib_paths.proofs.SamePaths.{lists_are}
use Rattle.fib_paths.proofs.Listing.{takes_listed, back_listed, interned_listed, apart_held, apart_added, few_users, new_of, new_as, absent_of}
use Rattle.fib_paths.proofs.lists.PathLists.take.Goals as goal

pub hold-requires-clause-room : goal.hold-requires-clause-room
hold-requires-clause-room c =
    let f = c.in-Some.ensures.found in
    few_users c.self.inside.rows c.args.content.now c.in-Some.id (2 ^ 32 - 1) f.0 (subst (λ v. IsUsedLess v c.args.content.now (2 ^ 32 - 1)) (sym c.self.view_is) c.requires) f.1 f.2

pub invariant_of-self : goal.invariant_of-self
invariant_of-self c =
    let f = c.in-Some.ensures.found in
    apart_held c.self.inside.rows c.hold.new.self c.in-Some.id f.0 c.self.invariant f.1 (c.hold.ensures.held f.0 f.1)

pub returns-in-Some-clause-taken : goal.returns-in-Some-clause-taken
returns-in-Some-clause-taken c =
    let f = c.in-Some.ensures.found in
    subst (λ v. Takes v (map listed c.hold.new.self) c.args.content.now c.in-Some.id) c.self.view_is
    (takes_listed c.self.inside.rows c.hold.new.self f.0.content c.args.content.now c.in-Some.id (c.hold.ensures.held f.0 f.1) (sym (lists_are c.args.content.now f.0.content.items f.2)))

pub returns-in-Some-clause-interned : goal.returns-in-Some-clause-interned
returns-in-Some-clause-interned c =
    let f = c.in-Some.ensures.found in
    interned_listed c.hold.new.self c.hold.ensures.interned (apart_held c.self.inside.rows c.hold.new.self c.in-Some.id f.0 c.self.invariant f.1 (c.hold.ensures.held f.0 f.1))

pub returns-in_err-copied-clause-interned : goal.returns-in_err-copied-clause-interned
returns-in_err-copied-clause-interned c = subst AreInterned c.self.view_is (interned_listed c.self.inside.rows c.count-count.ensures.interned c.self.invariant)

pub returns-in_err-id-clause-interned : goal.returns-in_err-id-clause-interned
returns-in_err-id-clause-interned c =
    subst (λ v. AreInterned (map listed v)) (sym c.in_err-id.ensures.err) (interned_listed c.self.inside.rows c.count-count.ensures.interned c.self.invariant)

pub add-requires : goal.add-requires
add-requires c =
    let copied_is = c.in_ok-copied.ensures.items_if_clones_equal (λ x y e. e) in
    let absent = absent_of c.self.inside.rows c.args.content.now (new_of c.self.inside.rows c.args.content.now c.in_default.ensures.absent) in
    λ k d. subst (λ (ps : List Path). pointwise eq-value.it ps k.content.items ≡ false) (sym copied_is) (absent k d)

pub invariant_of-self-2 : goal.invariant_of-self-2
invariant_of-self-2 c =
    let copied_is = c.in_ok-copied.ensures.items_if_clones_equal (λ x y e. e) in
    apart_added c.self.inside.rows c.add.new.self c.in_ok-id.id c.in_ok-copied.copied c.self.invariant
    (new_as c.self.inside.rows c.args.content.now c.in_ok-copied.copied.items copied_is (new_of c.self.inside.rows c.args.content.now c.in_default.ensures.absent)) c.in_ok-id.ensures.added c.in_ok-id.ensures.number

pub returns-clause-taken : goal.returns-clause-taken
returns-clause-taken c =
    let copied_is = c.in_ok-copied.ensures.items_if_clones_equal (λ x y e. e) in
    subst (λ v. Takes v (map listed c.add.new.self) c.args.content.now c.in_ok-id.id) c.self.view_is
    (takes_listed c.self.inside.rows c.add.new.self c.in_ok-copied.copied c.args.content.now c.in_ok-id.id c.in_ok-id.ensures.added copied_is)

pub returns-clause-interned : goal.returns-clause-interned
returns-clause-interned c =
    let copied_is = c.in_ok-copied.ensures.items_if_clones_equal (λ x y e. e) in
    interned_listed c.add.new.self c.in_ok-id.ensures.interned
    (apart_added c.self.inside.rows c.add.new.self c.in_ok-id.id c.in_ok-copied.copied c.self.invariant
    (new_as c.self.inside.rows c.args.content.now c.in_ok-copied.copied.items copied_is (new_of c.self.inside.rows c.args.content.now c.in_default.ensures.absent)) c.in_ok-id.ensures.added c.in_ok-id.ensures.number)

pub returns-in-Some-clause-back : goal.returns-in-Some-clause-back
returns-in-Some-clause-back c = back_listed c.self.inside.rows c.hold.new.self c.args.self.now c.in-Some.id c.self.view_is c.hold.ensures.back

pub returns-clause-back : goal.returns-clause-back
returns-clause-back c = back_listed c.self.inside.rows c.add.new.self c.args.self.now c.in_ok-id.id c.self.view_is c.in_ok-id.ensures.back
