use Rattle.std.proofs.Common.{List, ℕ, ap, sym, subst}
use Rattle.std.specs.Prelude.{Ok, Option}
use Rattle.fib_plane_view.specs.Stores.{StoresEach}
use Rattle.fib_plane_view.specs.View.{IsLive}
use Rattle.fib_stack_ledger.specs.declared.ledger.Use.{Use}
use Rattle.fib_stack.specs.Records.{IsObjectOf}
use Rattle.fib_stack.proofs.Exact.{hop_stored}
use Rattle.fib_stack.proofs.records.take_hop.Goals as goal

pub returns-in-Ok-Some-clause-stores : goal.returns-in-Ok-Some-clause-stores
returns-in-Ok-Some-clause-stores g c =
    let u = g.P.Objects.view c.args.on.now in
    let v = g.P.Objects.view c.take_adj.new.self in
    let used : Use = record { interface = c.args.interface; next_hop = c.args.next_hop; mac = c.args.mac; object = c.in-Ok-Some.object } in
    subst (λ (us : List Use). StoresEach (λ y k. IsObjectOf us y × (IsLive u y → ⊥)) u v) (sym c.push_reserved.ensures.items)
    (hop_stored u v (Ok c.in-Ok-Some.field-0) c.args.uses.now.items used (ap (λ (o : Option ℕ). Ok o) c.in-Ok-Some.field-0-is) c.in-Ok-Some.ensures.stores)
