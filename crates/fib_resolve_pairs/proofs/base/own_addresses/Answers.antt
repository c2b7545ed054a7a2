use Rattle.std.proofs.Common.{◌∙◌, ap}
use Rattle.fib_resolve.specs.Pairs.{is_address}
use Rattle.fib_cover.proofs.Sets.{take_whole}
use Rattle.fib_resolve_pairs.proofs.Placing.{own_more}
use Rattle.fib_resolve_pairs.proofs.base.own_addresses.Goals as goal

pub loop-a-preserved : goal.loop-a-preserved
loop-a-preserved c = own_more c.args.addresses.now c.loop-a.a-index c.a-item.result _ c.loop-a.set.keys c.loop-a-test.true c.a-item.is c.in_ok-insert.ensures.updates.0 c.loop-a.invariant

pub returns : goal.returns
returns c x = c.loop-a.invariant x ∙ ap (λ xs. is_address xs x) (take_whole c.args.addresses.now c.loop-a.a-index c.loop-a-test.false)
