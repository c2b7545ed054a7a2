use Rattle.std.proofs.Common.{ap, sym, ◌∙◌, subst, arith}
use Rattle.std.specs.Prelude.{slice_index_or}
use Rattle.test_workers.specs.declared.threads.Job.{Job}
use Rattle.test_workers.specs.Homes.{SameBoard, SameSeat}
use Rattle.test_workers.proofs.threads.run_both.Goals as goal

pub returns : goal.returns
returns g c =
    λ d. (
      subst (SameSeat (slice_index_or c.args.jobs.now 0 d).worker) (sym (c.worker_in-worker.ensures.taken d))
          (c.run_all.ensures.each 0 d (let two = c.requires.two in omega arith)).0,
      subst (SameBoard (slice_index_or c.args.jobs.now 1 d).board)
          (sym (c.board_in-board.ensures d ∙ ap (λ (j : Job). j.board) (c.worker_in-worker.ensures.other d)))
          (c.run_all.ensures.each 1 d c.requires.two).1,
    )
