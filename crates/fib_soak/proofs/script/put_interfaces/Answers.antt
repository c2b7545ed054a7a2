use Rattle.std.proofs.Common.{refl}
use Rattle.fib_soak.proofs.Steps.{interfaces_none, interfaces_more}
use Rattle.fib_soak.proofs.Texts.{begins, goes_on}
use Rattle.fib_soak.proofs.script.put_interfaces.Goals as goal

pub loop-k-init : goal.loop-k-init
loop-k-init c = record { told = begins _ _ _ interfaces_none refl }

pub loop-k-preserved : goal.loop-k-preserved
loop-k-preserved c = record { told = goes_on _ _ _ _ _ _ (interfaces_more c.loop-k.k) c.loop-k.invariant.told c.in_ok-put_interface.ensures }
