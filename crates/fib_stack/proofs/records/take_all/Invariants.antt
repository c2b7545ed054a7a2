use Rattle.std.proofs.Common.{◌≡◌, ◌≤◌, ℕ, length, map, take}
use Rattle.std.specs.Prelude.{Option, vec_capacity}
use Rattle.fib_addr.specs.Prefixes.{Prefix}
use Rattle.fib_pool.specs.declared.object.AdjacencyRecord.{AdjacencyRecord}
use Rattle.fib_stack_ledger.specs.Ledgers.{record_used}
use Rattle.fib_core_steady.specs.Names.{Names}
use Rattle.fib_plane_view.specs.Frames.{IsQuiet}
use Rattle.fib_plane_view.specs.Promise.{Serves}
use Rattle.fib_plane_view.specs.Stores.{StoresEach}
use Rattle.fib_stack.specs.Calls.{TakesOnly}
use Rattle.fib_stack.specs.Records.{IsAlone, IsObjectOf, TookAll, TookNew, records_for}
use Rattle.fib_stack.proofs.records.take_all.Given as goal

abbrev pub invariant-loop-mark : goal.invariant-loop-mark
invariant-loop-mark g l = record {
  took : TookAll (g.P.Objects.view l.initial.on) (g.P.Objects.view l.on) l.uses.items;
  taken : TakesOnly (g.P.Objects.view l.initial.on) (g.P.Objects.view l.on);
  stores : StoresEach (λ y t. IsObjectOf l.uses.items y) (g.P.Objects.view l.initial.on) (g.P.Objects.view l.on);
  records : map record_used l.uses.items ≡ records_for (take l.mark-index l.marks);
  new : TookNew (g.P.Objects.view l.initial.on) (g.P.Objects.view l.on) (records_for (take l.mark-index l.marks)) 0;
  alone : (m : AdjacencyRecord) → (g.P.Objects.view l.initial.on).users m ≡ 0 → IsAlone (g.P.Objects.view l.on) m;
  few : length l.uses.items ≤ l.mark-index;
  capacity : vec_capacity l.uses ≡ vec_capacity l.initial.uses;
  quiet : (look : Prefix → Option ℕ) → IsQuiet look (g.P.Objects.view l.initial.on) (g.P.Objects.view l.on);
  serves : (n : Names) → Serves (g.P.Objects.promise l.initial.on) n (g.P.Objects.view l.initial.on) → Serves (g.P.Objects.promise l.initial.on) n (g.P.Objects.view l.on);
  promise : g.P.Objects.promise l.on ≡ g.P.Objects.promise l.initial.on;
}
