use Rattle.std.proofs.Common.{Bool, ap}
use Rattle.std.specs.Prelude.{Option}
use Rattle.fib_addr.specs.Prefixes.{Prefix}
use Rattle.fib_resolve.specs.declared.types.End.{End}
use Rattle.fib_stack_ledger.specs.declared.ledger.Known.{Known}
use Rattle.fib_stack_ledger.specs.Ledgers.{used_by}
use Rattle.fib_ply.specs.Rows.{held}
use Rattle.fib_stack.specs.Joined.{state_in}
use Rattle.fib_stack.specs.Records.{holds_in}
use Rattle.fib_stack.proofs.Rooming.{made_alike, room_left}
use Rattle.fib_stack.proofs.between.what_takes_no_object_leaves_room.Goals as goal

pub returns : goal.returns
returns c = λ S u v s t rows known free room.
    let holds : (Prefix → Option Known) → Prefix → End → Bool = λ f. λ e. λ end. holds_in (used_by (f e)) end in
    room_left S (state_in u s) (state_in v t) u.free v.free free (made_alike S (state_in u s) (state_in v t) (ap held rows) (ap holds known)) room
