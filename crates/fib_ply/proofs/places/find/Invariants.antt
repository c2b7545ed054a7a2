use Rattle.fib_ply.specs.inner.Change.{IsOnPath, IsLed}
use Rattle.fib_ply.specs.Served.{Paths}
use Rattle.fib_ply.specs.inner.Trie.{IsTrie}
use Rattle.fib_ply.proofs.places.find.Given as goal

abbrev pub invariant-loop-depth : goal.invariant-loop-depth
invariant-loop-depth g l = (n : Paths) → IsTrie n (g.P.Objects.view l.on) → IsOnPath n l.addr l.ply l.depth × IsLed n (g.P.Objects.view l.on) l.ply
