use Rattle.std.proofs.lemmas.Result.{on_ok_weaker}
use Rattle.fib_follow_looked.proofs.Growth.{own_all}
use Rattle.fib_follow_looked.proofs.named.add_address.Goals as goal

pub returns : goal.returns
returns c = on_ok_weaker c.add_all.result
    (own_all c.args.a c.masked-near.result c.host.result c.host-2.result c.host-3.result c.bits.result c.last.result c.as_slice.result.now
    c.args.set.now c.add_all.new.set
    c.masked-near.ensures c.host.ensures c.host-2.ensures c.bits.ensures c.host-3.ensures c.last.ensures c.as_slice.ensures) c.add_all.ensures
