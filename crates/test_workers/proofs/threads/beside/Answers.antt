use Rattle.std.proofs.Common.{None, Some, subst}
use Rattle.test_workers.specs.declared.threads.Job.{Job}
use Rattle.test_workers.specs.Homes.{IsOf, SameBoard}
use Rattle.test_workers.proofs.threads.beside.Goals as goal

pub returns : goal.returns
returns g c =
    let none : Job = record { worker = None; board = None } in
    let seat : IsOf c.args.worker.id (Some c.in_ok-worker.field-0) = subst (IsOf c.args.worker.id) c.in_ok-worker.was (c.run_both-worker.ensures none).0 in
    let board : SameBoard (Some c.args.board) (Some c.in_ok-board.field-0) = subst (SameBoard (Some c.args.board)) c.in_ok-board.was (c.run_both-worker.ensures none).1 in
    (seat, board.0, board.1)
