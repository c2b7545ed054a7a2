use Rattle.std.proofs.Common.{sym, refl}
use Rattle.fib_soak.specs.Scripts.{after_round}
use Rattle.fib_soak.proofs.Steps.{repeated_none, repeated_more, rounds_none, rounds_more}
use Rattle.fib_soak.proofs.Texts.{begins, goes_on}
use Rattle.fib_soak.proofs.script.put_rounds.Goals as goal

pub loop-init : goal.loop-init
loop-init c = record { told = begins _ _ _ (rounds_none _) refl; drawn = sym (repeated_none after_round _) }

pub loop-preserved : goal.loop-preserved
loop-preserved c = record {
  told = goes_on _ _ _ _ _ _ (rounds_more _ _) c.loop.invariant.told (rw (← c.loop.invariant.drawn) c.in_ok-put_round.ensures.text);
  drawn = rw (repeated_more, c.in_ok-put_round.ensures.state, c.loop.invariant.drawn) refl;
}
