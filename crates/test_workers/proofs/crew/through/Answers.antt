use Rattle.std.proofs.Common.{◌≡◌, ◌≤◌, ◌+◌, ◌-◌, ◌/◌, length, refl, sym, subst, arith}
use Rattle.fib_worker_crew.specs.Frames.{frames}
use Rattle.fib_worker_crew.specs.Packets.{span}
use Rattle.fib_worker_crew.specs.Work.{MayWork}
use Rattle.fib_worker_crew.proofs.Spans.{frames_of_span}
use Rattle.test_workers.proofs.crew.through.Goals as goal

pub work-requires-clause-may : goal.work-requires-clause-may
work-requires-clause-may c κs =
    let all = c.requires.all in
    subst (λ n. MayWork 0 n c.args.worker) (frames_of_span c.args.packets.now.packets 0 300 (omega arith) (omega (arith, all))) c.requires.may
