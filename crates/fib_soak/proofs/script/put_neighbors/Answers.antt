use Rattle.std.proofs.Common.{◌∙◌, refl}
use Rattle.fib_soak.specs.Scripts.{neighbor_line}
use Rattle.fib_soak.proofs.Steps.{lines_for_none}
use Rattle.fib_soak.proofs.Texts.{begins, goes_on_by_line}
use Rattle.fib_soak.proofs.script.put_neighbors.Goals as goal

pub loop-j-init : goal.loop-j-init
loop-j-init c = record { told = begins _ _ _ (lines_for_none neighbor_line) refl }

pub loop-j-preserved : goal.loop-j-preserved
loop-j-preserved c = record { told = goes_on_by_line neighbor_line c.loop-j.j _ _ _ _ c.loop-j.invariant.told (c.deref.ensures.value ∙ c.in_ok-neighbor_line.ensures) c.in_ok-put_line.ensures }
