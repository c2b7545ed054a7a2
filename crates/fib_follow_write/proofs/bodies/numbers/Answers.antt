use Rattle.std.proofs.Common.{[], ◌∷◌, ◌++◌, take, sym, subst}
use Rattle.std.specs.List.{AllZip}
use Rattle.fib_follow_write.specs.Written.{IsNumbered}
use Rattle.fib_follow_write.proofs.Upon.{take_next, there_next, zip_more}
use Rattle.fib_follow_write.proofs.bodies.numbers.Goals as goal

pub number-requires : goal.number-requires
number-requires c = let x = c.index-pairs-place.result in c.requires x (there_next c.args.pairs.now c.pairs.place x c.pairs-test.true c.index-pairs-place.is)

pub pairs-preserved : goal.pairs-preserved
pairs-preserved c =
    let x = c.index-pairs-place.result in
    let P = IsNumbered c.args.lists.now in
    subst (λ l. AllZip P l c.push.new.self.items) (sym (take_next c.args.pairs.now c.pairs.place x c.pairs-test.true c.index-pairs-place.is))
    (subst (AllZip P (take c.pairs.place c.args.pairs.now ++ x ∷ [])) (sym c.in_ok-push.ensures.items)
    (zip_more P (take c.pairs.place c.args.pairs.now) c.pairs.out.items x c.number.result c.pairs.invariant c.number.ensures))
