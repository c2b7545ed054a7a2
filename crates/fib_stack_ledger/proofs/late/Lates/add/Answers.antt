use Rattle.std.proofs.Common.{◌≡◌, arith, None}
use Rattle.fib_stack_ledger.specs.Deferred.{late_at}
use Rattle.fib_stack_ledger.specs.declared.late.Late.{Late}
use Rattle.fib_stack_ledger.proofs.LateLists.{apart_pushed, of_pushed, late_pushed}
use Rattle.fib_stack_ledger.proofs.late.Lates.add.Goals as goal

pub invariant_of-self : goal.invariant_of-self
invariant_of-self c =
    let xs = c.self.inside.list.items in
    let y : Late = record { entry = c.args.entry; slot = c.args.slot; word = c.args.word } in
    let none : late_at xs y.entry y.slot ≡ None = rw (← c.self.view_is) at c.requires.absent in
    rw c.push_reserved.ensures.items (apart_pushed xs y none c.self.invariant.0, of_pushed xs y c.requires.slot c.self.invariant.1, grind (arith))

pub returns-clause-late : goal.returns-clause-late
returns-clause-late c = λ e k.
    let xs = c.self.inside.list.items in
    let y : Late = record { entry = c.args.entry; slot = c.args.slot; word = c.args.word } in
    let none : late_at xs y.entry y.slot ≡ None = rw (← c.self.view_is) at c.requires.absent in
    rw (c.push_reserved.ensures.items, ← c.self.view_is) (late_pushed xs y e k none)
