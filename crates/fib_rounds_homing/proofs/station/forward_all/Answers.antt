use Rattle.std.proofs.Common.{◌≡◌, length, rules, subst, sym}
use Rattle.fib_worker_crew.specs.Packets.{span}
use Rattle.fib_rounds_homing.specs.Stations.{IsCrew}
use Rattle.fib_rounds_homing.proofs.Mustering.{back_all, written_back}
use Rattle.fib_rounds_homing.proofs.station.forward_all.Goals as goal

pub returns-clause-back : goal.returns-clause-back
returns-clause-back g c = λ b crew.
    let t = c.args.taken in
    let lent = c.as_mut_slice.result.now in
    let back = back_all b t.opened t.first t.base 0 (span c.args.packets.now.packets t.first t.to) lent c.work_all.new.crew (subst (IsCrew b 0) (sym c.as_mut_slice.ensures.value) crew)
    c.work_all.ensures.long c.work_all.ensures.each in
    let len : length c.work_all.new.crew ≡ c.args.crew.now.len = search rules in
    rw (written_back c.args.crew.now.len c.work_all.new.crew _ len) back
