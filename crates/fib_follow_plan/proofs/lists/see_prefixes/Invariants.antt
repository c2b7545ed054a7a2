use Rattle.std.proofs.Common.{take}
use Rattle.std.specs.Prelude.{Contains}
use Rattle.fib_addr.specs.Prefixes.{IsPrefix}
use Rattle.fib_follow_view.specs.declared.view.Anew.{Anew}
use Rattle.fib_follow_plan.proofs.lists.see_prefixes.Given as goal

abbrev pub invariant-changed : goal.invariant-changed
invariant-changed l = (x : Anew) → Contains (take l.place l.changed) x → IsPrefix x.prefix
