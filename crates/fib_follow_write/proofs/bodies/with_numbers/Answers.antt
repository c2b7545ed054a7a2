use Rattle.std.proofs.Common.{[], ◌∷◌, ◌++◌, refl, take, sym, subst}
use Rattle.std.specs.List.{AllZip}
use Rattle.fib_base_list.proofs.Lists.{Contains-flat_map}
use Rattle.fib_follow_write.specs.Written.{AreFound, IsNumbered, IsSourced}
use Rattle.fib_follow_write.specs.declared.plan.Paired.{Paired}
use Rattle.fib_follow_write.specs.declared.plan.Sourced.{Sourced}
use Rattle.fib_follow_write.proofs.Upon.{take_next, there_next, zip_more}
use Rattle.fib_follow_write.proofs.bodies.with_numbers.Goals as goal

pub numbers-requires : goal.numbers-requires
numbers-requires c =
    let x = c.index-paired-place.result in
    subst (AreFound c.args.lists.now) (sym c.as_slice.ensures)
    (λ l d. c.requires l (Contains-flat_map (λ (b : Paired). b.pairs) c.args.paired.now x l
    (there_next c.args.paired.now c.paired.place x c.paired-test.true c.index-paired-place.is) d))

pub paired-preserved : goal.paired-preserved
paired-preserved c =
    let x = c.index-paired-place.result in
    let P = IsSourced c.args.lists.now in
    let y : Sourced = record { prefix = x.prefix; pairs = c.in_ok-pairs.pairs } in
    subst (λ l. AllZip P l c.push.new.self.items) (sym (take_next c.args.paired.now c.paired.place x c.paired-test.true c.index-paired-place.is))
    (subst (AllZip P (take c.paired.place c.args.paired.now ++ x ∷ [])) (sym c.in_ok-push.ensures.items)
    (zip_more P (take c.paired.place c.args.paired.now) c.paired.out.items x y c.paired.invariant
    (refl, subst (λ l. AllZip (IsNumbered c.args.lists.now) l c.in_ok-pairs.pairs) c.as_slice.ensures c.in_ok-pairs.ensures)))
