use Rattle.std.proofs.Common.{◌≡◌, ℕ, List, take}
use Rattle.std.specs.Prelude.{Option}
use Rattle.std.specs.List.{AllByRecursion}
use Rattle.fib_addr.specs.Prefixes.{Prefix}
use Rattle.fib_core_steady.specs.Names.{Names}
use Rattle.fib_plane_view.specs.Frames.{IsQuiet}
use Rattle.fib_plane_view.specs.Promise.{Serves}
use Rattle.fib_plane_view.specs.Stores.{IsFreed, StoresEach}
use Rattle.fib_plane_view.specs.View.{HasIn, IsLive}
use Rattle.fib_pool.specs.declared.object.AdjacencyRecord.{AdjacencyRecord}
use Rattle.fib_stack.specs.Calls.{GivesOnly}
use Rattle.fib_stack.specs.Records.{Freed, GaveAll, IsAlone}
use Rattle.fib_stack.proofs.records.give_all.Given as goal

abbrev pub invariant-loop-held : goal.invariant-loop-held
invariant-loop-held g l = record {
  gave : GaveAll (g.P.Objects.view l.initial.on) (g.P.Objects.view l.on) (take l.held-index l.uses);
  given : GivesOnly (g.P.Objects.view l.initial.on) (g.P.Objects.view l.on);
  stores : StoresEach (λ y t. IsFreed (g.P.Objects.view l.initial.on) (g.P.Objects.view l.on) y) (g.P.Objects.view l.initial.on) (g.P.Objects.view l.on);
  alive : (y : ℕ) → IsLive (g.P.Objects.view l.on) y → IsLive (g.P.Objects.view l.initial.on) y;
  sole : (x : ℕ) → HasIn (g.P.Objects.view l.on) x → HasIn (g.P.Objects.view l.initial.on) x;
  freed : (ms : List AdjacencyRecord) → AllByRecursion (IsAlone (g.P.Objects.view l.initial.on)) ms → Freed (g.P.Objects.view l.initial.on) (g.P.Objects.view l.on) (take l.held-index l.uses) ms;
  quiet : (look : Prefix → Option ℕ) → IsQuiet look (g.P.Objects.view l.initial.on) (g.P.Objects.view l.on);
  serves : (n : Names) → Serves (g.P.Objects.promise l.initial.on) n (g.P.Objects.view l.initial.on) → Serves (g.P.Objects.promise l.initial.on) n (g.P.Objects.view l.on);
  promise : g.P.Objects.promise l.on ≡ g.P.Objects.promise l.initial.on;
}
