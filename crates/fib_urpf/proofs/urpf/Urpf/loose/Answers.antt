use Rattle.fib_urpf.proofs.Checking.{loose_is}
use Rattle.fib_urpf.proofs.urpf.Urpf.loose.Goals as goal

pub returns : goal.returns
returns c = λ S rank for. loose_is S c.args.addr c.checked.result c.is_empty.result for.sound (c.checked.ensures S rank for) c.is_empty.ensures.none c.is_empty.ensures.some
