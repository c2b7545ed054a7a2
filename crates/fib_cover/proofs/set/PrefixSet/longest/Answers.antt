use Rattle.std.proofs.Common.{arith, ◌-◌, ◌<◌, ◌^◌, subst, sym, ◌∙◌}
use Rattle.std.specs.Prelude.{Contains}
use Rattle.std.proofs.lemmas.Bool.{false≢true}
use Rattle.fib_addr.specs.Prefixes.{Prefix}
use Rattle.fib_cover.specs.inner.Lengths.{AreMarked}
use Rattle.fib_cover.proofs.Order.{contains_iff}
use Rattle.fib_cover.proofs.Lengths.{unmarked}
use Rattle.fib_cover.proofs.Matches.{passes_one, finds_one}
use Rattle.fib_cover.proofs.set.PrefixSet.longest.Goals as goal

pub loop-len-preserved-then-not-self-from : goal.loop-len-preserved-then-not-self-from
loop-len-preserved-then-not-self-from c =
    passes_one c.args.self.now c.args.limit c.args.addr c.loop-len.len c.loop-len.invariant
    (unmarked c.self.inside.lengths c.args.self.now c.args.addr (c.loop-len.len - 1) (subst (AreMarked c.self.inside.lengths) c.self.view_is c.self.invariant.marked) (rw (← c.from.ensures) c.if-not-self-from.true))

pub returns-then-contains : goal.returns-then-contains
returns-then-contains c =
    let member = (contains_iff c.self.inside.members c.masked-prefix.result).0 (sym c.contains.ensures ∙ c.if-contains.true) in
    let here = subst (λ (p : Prefix). Contains c.self.inside.members.keys p) c.masked-prefix.ensures member in
    let small : c.args.addr < 2 ^ 32 = omega (arith, c.addr.view_is) in
    rw c.masked-prefix.ensures (finds_one c.args.self.now c.args.limit c.args.addr c.loop-len.len small c.loop-len.auto.len c.requires c.loop-len-test.true c.loop-len.invariant (rw (← c.self.view_is) here))

pub loop-len-preserved : goal.loop-len-preserved
loop-len-preserved c =
    passes_one c.args.self.now c.args.limit c.args.addr c.loop-len.len c.loop-len.invariant
    (λ k. let member = subst (λ (p : Prefix). Contains c.self.inside.members.keys p) (sym c.masked-prefix.ensures) (rw c.self.view_is k) in
    absurd (false≢true (sym c.if-contains.false ∙ (c.contains.ensures ∙ (contains_iff c.self.inside.members c.masked-prefix.result).1 member))))
