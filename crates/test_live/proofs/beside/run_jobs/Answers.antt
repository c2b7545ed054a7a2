use Rattle.std.proofs.Common.{arith, subst, sym}
use Rattle.std.specs.Prelude.{slice_index_or}
use Rattle.test_workers.specs.Homes.{IsOf}
use Rattle.test_live.specs.declared.beside.Job.{Job}
use Rattle.test_live.proofs.Staying.{stays_of}
use Rattle.test_live.proofs.beside.run_jobs.Goals as goal

pub take_home-all-requires-clause-of : goal.take_home-all-requires-clause-of
take_home-all-requires-clause-of g c = λ k d lt.
    let long = c.beside-made.ensures.long in
    let was : Job = slice_index_or c.args.jobs.now k d in
    let is : Job = slice_index_or c.beside-made.new.jobs k d in
    subst (λ id. IsOf id is.worker) (sym c.beside-made.ensures.id)
    (stays_of c.args.control.now.plane.board.id was.worker is.worker (c.beside-made.ensures.each k d (omega (arith, lt, long))) (c.requires.of k d (omega (arith, lt, long))))
