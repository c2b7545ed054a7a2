use Rattle.std.proofs.Common.{subst}
use Rattle.std.specs.Prelude.{IfOk, IsErrOf}
use Rattle.fib_stack.specs.declared.records.Want.TheVariants as wants
use Rattle.fib_resolve.specs.declared.types.Tables.{Tables}
use Rattle.fib_entries_rows.specs.Known.{rank_of}
use Rattle.fib_plane.specs.Views.{promise_of, view_of}
use Rattle.fib_stack.specs.Done.{IsTurnDone, LeavesAll}
use Rattle.fib_stack.specs.Moments.{moment}
use Rattle.fib_control.proofs.control.restack.Goals as goal

pub returns-clause-turn : goal.returns-clause-turn
returns-clause-turn g c =
    let before = moment (view_of c.args.shared.now.plane) c.args.table.now c.args.stack.now c.args.queue.now in
    let after = moment (view_of c.turn.new.on.plane) c.turn.new.table c.turn.new.self c.turn.new.queue in
    subst (λ (S : Tables). IfOk c.turn.result (λ t. IsTurnDone S (rank_of c.args.entries.now.rows) t before after)) c.tables-tables.ensures.value c.turn.ensures.turn

pub returns-clause-leaves : goal.returns-clause-leaves
returns-clause-leaves g c =
    let before = moment (view_of c.args.shared.now.plane) c.args.table.now c.args.stack.now c.args.queue.now in
    let after = moment (view_of c.turn.new.on.plane) c.turn.new.table c.turn.new.self c.turn.new.queue in
    subst (λ (S : Tables). LeavesAll S (rank_of c.args.entries.now.rows) (promise_of c.turn.new.on.plane.board) (IsErrOf c.turn.result wants.Object) before after) c.tables-tables.ensures.value c.turn.ensures.leaves
