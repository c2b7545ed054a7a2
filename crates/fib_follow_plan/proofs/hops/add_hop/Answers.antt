use Rattle.std.proofs.Common.{arith, sym, subst, ◌∙◌}
use Rattle.std.specs.Prelude.{Contains}
use Rattle.std.proofs.lemmas.Bool.{false≢true}
use Rattle.fib_resolve_changes.specs.Sources.{all_hops}
use Rattle.fib_follow_plan.proofs.Hopping.{hop_long, hop_none, hop_put}
use Rattle.fib_follow_plan.proofs.hops.add_hop.Goals as goal

pub returns-then-len-lt32 : goal.returns-then-len-lt32
returns-then-len-lt32 c = λ g. let is = c.len.ensures.value in let lt = c.if-len-lt32.true
    in hop_long c.args.after.now.tables c.args.e c.args.set.now (omega (arith, is, lt))

pub returns-then-is_hop : goal.returns-then-is_hop
returns-then-is_hop c = λ g.
    let T = c.args.after.now.tables in
    hop_put T c.args.e c.args.set.now c.insert.new.self
    (subst (λ a. Contains (all_hops T) a) c.bits.ensures ((c.is_hop.ensures g).0 c.if-is_hop.true)) c.in_ok-insert.ensures.members

pub returns : goal.returns
returns c = λ g.
    let T = c.args.after.now.tables in
    hop_none T c.args.e c.args.set.now
    (λ k. false≢true (sym c.if-is_hop.false ∙ (c.is_hop.ensures g).1 (subst (λ a. Contains (all_hops T) a) (sym c.bits.ensures) k)))
