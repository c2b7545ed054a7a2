use Rattle.std.proofs.Common.{◌≡◌, ◌<◌, ◌-◌, ◌^◌, Some, None, Option, IsSome, List, ℕ, sym, ap, ◌∙◌, subst, map, refl}
use Rattle.std.proofs.lemmas.Bool.{false≢true}
use Rattle.std.specs.Prelude.{option_map, Vec}
use Rattle.std.specs.Global.{Global}
use Rattle.fib_resolve.specs.declared.types.Path.{Path}
use Rattle.fib_base_interned.specs.Interned.{Kept, kept_of, users_of, Takes}
use Rattle.fib_base_interned.proofs.Finding.{some_is}
use Rattle.fib_paths.specs.PathLists.{KeptList}
use Rattle.fib_paths.specs.inner.Vectors.{listed}
use Rattle.fib_paths.proofs.Listing.{some_listed, users_listed, kept_listed, takes_listed, interned_listed, apart_held}
use Rattle.fib_paths.proofs.lists.PathLists.hold.Goals as goal

the_one : {X : Type 0} (o : Option X) → IsSome o → (x : X) × (o ≡ Some x)
the_one None h = absurd (false≢true h)
the_one (Some x) h = (x, refl)

kept_inside : (rows : List (Kept (Vec Path Global))) (lists : List KeptList) (n m : ℕ) → map listed rows ≡ lists → n ≡ m → IsSome (kept_of lists m) → IsSome (kept_of rows n)
kept_inside rows lists n m is same kept = some_listed rows n (subst (λ v. IsSome (kept_of v n)) (sym is) (subst (λ z. IsSome (kept_of lists z)) (sym same) kept))

pub hold-requires-clause-kept : goal.hold-requires-clause-kept
hold-requires-clause-kept c = kept_inside c.self.inside.rows c.args.self.now c.id.inside.0 c.args.id c.self.view_is c.id.view_is c.requires.kept

pub hold-requires-clause-room : goal.hold-requires-clause-room
hold-requires-clause-room c =
    subst (λ n. n < 2 ^ 32 - 1) (users_listed c.self.inside.rows c.id.inside.0)
    (subst (λ v. users_of v c.id.inside.0 < 2 ^ 32 - 1) (sym c.self.view_is) (subst (λ n. users_of c.args.self.now n < 2 ^ 32 - 1) (sym c.id.view_is) c.requires.room))

pub invariant_of-self : goal.invariant_of-self
invariant_of-self c =
    let k = the_one (kept_of c.self.inside.rows c.id.inside.0) (kept_inside c.self.inside.rows c.args.self.now c.id.inside.0 c.args.id c.self.view_is c.id.view_is c.requires.kept) in
    apart_held c.self.inside.rows c.hold.new.self c.id.inside.0 k.0 c.self.invariant k.1 (c.hold.ensures.held k.0 k.1)

pub returns-clause-held : goal.returns-clause-held
returns-clause-held c = λ k kept.
    let o = the_one (kept_of c.self.inside.rows c.id.inside.0) (kept_inside c.self.inside.rows c.args.self.now c.id.inside.0 c.args.id c.self.view_is c.id.view_is c.requires.kept) in
    let same : listed o.0 ≡ k = some_is (listed o.0) k (sym (kept_listed c.self.inside.rows c.id.inside.0 ∙ ap (option_map listed) o.1)
    ∙ (ap (λ (l : List KeptList). kept_of l c.id.inside.0) c.self.view_is ∙ (ap (kept_of c.args.self.now) c.id.view_is ∙ kept))) in
    subst (λ n. Takes c.args.self.now (map listed c.hold.new.self) k.content n) c.id.view_is
    (subst (λ (l : List KeptList). Takes l (map listed c.hold.new.self) k.content c.id.inside.0) c.self.view_is
    (takes_listed c.self.inside.rows c.hold.new.self o.0.content k.content c.id.inside.0 (c.hold.ensures.held o.0 o.1) (ap (λ (z : KeptList). z.content) same)))

pub returns-clause-interned : goal.returns-clause-interned
returns-clause-interned c =
    let k = the_one (kept_of c.self.inside.rows c.id.inside.0) (kept_inside c.self.inside.rows c.args.self.now c.id.inside.0 c.args.id c.self.view_is c.id.view_is c.requires.kept) in
    interned_listed c.hold.new.self c.hold.ensures.interned (apart_held c.self.inside.rows c.hold.new.self c.id.inside.0 k.0 c.self.invariant k.1 (c.hold.ensures.held k.0 k.1))
