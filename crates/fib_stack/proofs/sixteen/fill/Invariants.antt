use Rattle.std.proofs.Common.{◌≡◌, ℕ, ◌≤◌, ◌<◌, ◌⊎◌, ◌+◌, take, length}
use Rattle.std.specs.Prelude.{Option}
use Rattle.fib_addr.specs.Prefixes.{Prefix}
use Rattle.fib_core_steady.specs.Names.{Names}
use Rattle.fib_plane_view.specs.Frames.{IsQuiet}
use Rattle.fib_plane_view.specs.Stores.{IsFreed, StoresEach}
use Rattle.fib_plane_view.specs.View.{IsBalance, IsLive}
use Rattle.fib_stack.specs.Runs.{AreReady, Puts}
use Rattle.fib_stack.proofs.sixteen.fill.Given as goal

abbrev pub invariant-loop-slot : goal.invariant-loop-slot
invariant-loop-slot g l = record {
  puts : Puts (g.P.Objects.view l.initial.on) l.object 0 (take l.slot l.words) (take l.slot l.answers) (g.P.Objects.view l.on);
  ready : (n : Names) → AreReady (g.P.Objects.promise l.initial.on) n (g.P.Objects.view l.initial.on) l.object 0 l.words → AreReady (g.P.Objects.promise l.initial.on) n (g.P.Objects.view l.on) l.object l.slot l.words;
  stores : StoresEach (λ y t. ((y ≡ l.object) × (t < l.slot)) ⊎ IsFreed (g.P.Objects.view l.initial.on) (g.P.Objects.view l.on) y) (g.P.Objects.view l.initial.on) (g.P.Objects.view l.on);
  alive : (y : ℕ) → IsLive (g.P.Objects.view l.on) y → IsLive (g.P.Objects.view l.initial.on) y;
  quiet : (look : Prefix → Option ℕ) → IsQuiet look (g.P.Objects.view l.initial.on) (g.P.Objects.view l.on);
  balance : IsBalance (g.P.Objects.view l.on) l.object;
  spare : (g.P.Objects.view l.initial.on).spare ≤ (g.P.Objects.view l.on).spare + l.slot;
  promise : g.P.Objects.promise l.on ≡ g.P.Objects.promise l.initial.on;
  sixteen : length l.answers ≡ 16;
}
