use Rattle.std.proofs.Common.{◌∙◌, sym, refl}
use Rattle.fib_soak.specs.Draws.{repeated}
use Rattle.fib_soak.specs.Scripts.{change_line, after_change}
use Rattle.fib_soak.proofs.Steps.{repeated_none, repeated_more, lines_for_none}
use Rattle.fib_soak.proofs.Texts.{begins, goes_on_by_line}
use Rattle.fib_soak.proofs.script.put_changes.Goals as goal

pub loop-init : goal.loop-init
loop-init c = record { told = begins _ _ _ (lines_for_none (λ j. change_line (repeated after_change j c.args.draws.now))) refl; drawn = sym (repeated_none after_change _) }

pub loop-preserved : goal.loop-preserved
loop-preserved c = record {
  told = goes_on_by_line (λ j. change_line (repeated after_change j c.args.draws.now)) c.loop.counter _ _ _ _ c.loop.invariant.told (c.as_bytes.ensures.value ∙ rw (← c.loop.invariant.drawn) c.in_ok-change_line.ensures.text) c.in_ok-put_line.ensures;
  drawn = rw (repeated_more, c.change_line.ensures.state, c.loop.invariant.drawn) refl;
}
