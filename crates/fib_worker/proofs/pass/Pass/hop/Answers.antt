use Rattle.std.proofs.Common.{subst, arith}
use Rattle.fib_worker.specs.inner.Runs.{IsOn}
use Rattle.fib_worker.proofs.Runs.{comes_to, edge_on, few_hops, is_hop, on_found, on_unless}
use Rattle.fib_worker.proofs.pass.Pass.hop.Goals as goal

pub overflow_add-hops : goal.overflow_add-hops
overflow_add-hops c = (let few = few_hops _ _ _ _ _ _ c.self.invariant in let most = c.self.invariant.few in omega arith)

pub invariant_of-result : goal.invariant_of-result
invariant_of-result c =
    comes_to _ _ _ _ _ c.hop_on-stage.result _ _ c.self.invariant c.hop_on-stage.ensures.hopped c.hop_on-stage.ensures.at c.hop_on-stage.ensures.sound
    c.hop_on-stage.ensures.nears _ c.in-Ended.is

pub returns-in-Ended : goal.returns-in-Ended
returns-in-Ended c = (
  is_hop c.args.self _ c.hop_on-stage.new.seat _ _ _ _ c.self.view_is c.hop_on-stage.ensures.words c.hop_on-stage.ensures.hopped c.hop_on-stage.ensures.sound,
  λ edge. subst IsOn c.in-Ended.is
      (edge_on _ _ _ _ _ c.hop_on-stage.result _ _ c.self.invariant c.hop_on-stage.ensures.hopped c.hop_on-stage.ensures.at c.hop_on-stage.ensures.sound c.hop_on-stage.ensures.nears edge),
)

pub returns-in_default : goal.returns-in_default
returns-in_default c = (
  is_hop c.args.self _ c.hop_on-stage.new.seat _ _ _ _ c.self.view_is c.hop_on-stage.ensures.words c.hop_on-stage.ensures.hopped c.hop_on-stage.ensures.sound,
  on_found _ _ _ _ _ c.hop_on-stage.result _ _ c.self.invariant c.hop_on-stage.ensures.hopped c.hop_on-stage.ensures.at c.hop_on-stage.ensures.sound c.hop_on-stage.ensures.nears
      (on_unless c.hop_on-stage.result c.in_default.not-Ended),
)
