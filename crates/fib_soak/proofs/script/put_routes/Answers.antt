use Rattle.std.proofs.Common.{◌∙◌, sym, refl, ◌/◌, ◌%◌}
use Rattle.fib_soak.specs.Draws.{repeated, next, draw}
use Rattle.fib_soak.specs.Scripts.{route_line}
use Rattle.fib_soak.proofs.Steps.{repeated_none, repeated_more, lines_for_none}
use Rattle.fib_soak.proofs.Texts.{begins, goes_on_by_line}
use Rattle.fib_soak.proofs.script.put_routes.Goals as goal

pub loop-j-init : goal.loop-j-init
loop-j-init c = record { told = begins _ _ _ (lines_for_none (λ j. route_line (j / 250) (j % 250) (draw 32 (repeated next j c.args.draws.now)))) refl; drawn = sym (repeated_none next _) }

pub loop-j-preserved : goal.loop-j-preserved
loop-j-preserved c = record {
  told = goes_on_by_line (λ j. route_line (j / 250) (j % 250) (draw 32 (repeated next j c.args.draws.now))) c.loop-j.j _ _ _ _ c.loop-j.invariant.told (c.as_bytes.ensures.value ∙ rw (← c.loop-j.invariant.drawn, ← c.draw.ensures.value) c.in_ok-line.ensures) c.in_ok-put_line.ensures;
  drawn = rw (repeated_more, c.draw.ensures.state, c.loop-j.invariant.drawn) refl;
}
