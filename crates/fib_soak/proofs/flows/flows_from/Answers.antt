use Rattle.std.proofs.Common.{refl}
use Rattle.fib_soak.proofs.Steps.{repeated_none, repeated_more, flows_none, flows_pushed}
use Rattle.fib_soak.proofs.flows.flows_from.Goals as goal

pub loop-init : goal.loop-init
loop-init c = record { told = rw flows_none c.new-flows.ensures.items; drawn = rw repeated_none c.from_state-draws.ensures }

pub loop-preserved : goal.loop-preserved
loop-preserved c = record {
  told = flows_pushed _ _ _ _ _ _ c.loop.invariant.told c.loop.invariant.drawn c.draw_flow.ensures.value c.in_ok-push.ensures.items;
  drawn = rw (repeated_more, c.draw_flow.ensures.state, c.loop.invariant.drawn) refl;
}
