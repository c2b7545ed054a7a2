use Rattle.std.proofs.Common.{◌≡◌, ℕ, ◌+◌, ◌-◌, ◌*◌, ◌/◌, ◌%◌, ◌^◌}
use Rattle.fib_core.specs.declared.word.Word.TheVariants.{ToPly}
use Rattle.fib_ply.specs.inner.Change.{IsOnPath, IsLed}
use Rattle.fib_ply.specs.Served.{Paths}
use Rattle.fib_ply.specs.inner.Trie.{IsTrie}
use Rattle.fib_ply.proofs.places.find_leaf.Given as goal

abbrev pub invariant-loop-depth : goal.invariant-loop-depth
invariant-loop-depth g l = (n : Paths) → IsTrie n (g.P.Objects.view l.on) → IsOnPath n l.addr l.ply l.depth × IsLed n (g.P.Objects.view l.on) l.ply × ((e : ℕ) → l.depth ≡ e + 1 → IsOnPath n l.addr l.above e × ((g.P.Objects.view l.on).cell l.above (l.addr / 2 ^ (28 - 4 * e) % 16) ≡ ToPly l.ply))
