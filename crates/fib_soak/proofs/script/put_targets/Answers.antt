use Rattle.std.proofs.Common.{◌∙◌, sym, refl}
use Rattle.fib_soak.specs.Draws.{repeated, after_4}
use Rattle.fib_soak.specs.Scripts.{target_line}
use Rattle.fib_soak.proofs.Steps.{repeated_none, repeated_more, lines_for_none}
use Rattle.fib_soak.proofs.Texts.{begins, goes_on_by_line}
use Rattle.fib_soak.proofs.script.put_targets.Goals as goal

pub loop-j-init : goal.loop-j-init
loop-j-init c = record { told = begins _ _ _ (lines_for_none (λ j. target_line j (repeated after_4 j c.args.draws.now))) refl; drawn = sym (repeated_none after_4 _) }

pub loop-j-preserved : goal.loop-j-preserved
loop-j-preserved c = record {
  told = goes_on_by_line (λ j. target_line j (repeated after_4 j c.args.draws.now)) c.loop-j.j _ _ _ _ c.loop-j.invariant.told (c.as_bytes.ensures.value ∙ rw (← c.loop-j.invariant.drawn) c.in_ok-target_line.ensures.text) c.in_ok-put_line.ensures;
  drawn = rw (repeated_more, c.target_line.ensures.state, c.loop-j.invariant.drawn) refl;
}
