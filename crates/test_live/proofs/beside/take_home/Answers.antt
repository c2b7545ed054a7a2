use Rattle.std.proofs.Common.{arith, subst, sym}
use Rattle.std.specs.Prelude.{slice_index_or}
use Rattle.test_workers.specs.Homes.{IsOf}
use Rattle.test_live.proofs.beside.take_home.Goals as goal

pub take_one-came-requires : goal.take_one-came-requires
take_one-came-requires c = c.worker_in-worker.ensures.of c.loop-place.control.plane.board.id c.loop-place.invariant.of

pub loop-place-preserved : goal.loop-place-preserved
loop-place-preserved c =
    let i = c.loop-place.invariant in
    record {
      of = λ k d lt. subst (λ id. IsOf id (slice_index_or c.worker_in-worker.new.jobs k d).worker) (sym c.take_one-came.ensures)
          (c.worker_in-worker.ensures.rest c.loop-place.control.plane.board.id i.of k d lt);
      long = (let l = c.worker_in-worker.ensures.long in let m = i.long in omega (arith, l, m));
    }
