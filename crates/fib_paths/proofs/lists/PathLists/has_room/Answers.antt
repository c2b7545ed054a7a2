use Rattle.std.proofs.Common.{arith, sym, subst, ◌^◌, ◌-◌, refl}
use Rattle.std.proofs.lemmas.Bool.{ltb-true}
use Rattle.std.proofs.lemmas.Bool.Decides.{nat_tests}
use Rattle.fib_paths.specs.PathLists.{IsUsedLess}
use Rattle.fib_paths.proofs.Listing.{few_users, used_less, used_none, new_of}
use Rattle.fib_paths.proofs.lists.PathLists.has_room.Goals as goal

pub returns-in-Some : goal.returns-in-Some
returns-in-Some c =
    let f = c.in-Some.ensures.found in (
      λ low. subst (λ v. IsUsedLess v c.args.content.now (2 ^ 32 - 1)) c.self.view_is
          (used_less c.self.inside.rows c.args.content.now c.in-Some.id (2 ^ 32 - 1) f.0 c.count-count.ensures.interned c.self.invariant f.1 f.2
          (let n = c.users.ensures.count in let l = ltb-true c.users.result 4294967295 low in omega (arith, n, l))),
      λ less. (let l = few_users c.self.inside.rows c.args.content.now c.in-Some.id (2 ^ 32 - 1) f.0 (subst (λ v. IsUsedLess v c.args.content.now (2 ^ 32 - 1)) (sym c.self.view_is) less) f.1 f.2 in
          let n = c.users.ensures.count in grind (arith, nat_tests, l, n)),
    )

pub returns-in-None : goal.returns-in-None
returns-in-None c = (
  λ any. subst (λ v. IsUsedLess v c.args.content.now (2 ^ 32 - 1)) c.self.view_is
      (used_none c.self.inside.rows c.args.content.now (2 ^ 32 - 1) (new_of c.self.inside.rows c.args.content.now c.in-None.ensures.absent)),
  λ less. refl,
)
