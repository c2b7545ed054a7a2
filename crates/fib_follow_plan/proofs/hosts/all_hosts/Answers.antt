use Rattle.std.proofs.Common.{arith, length, refl, ◌∙◌}
use Rattle.std.proofs.lemmas.Option.{slice_get_read}
use Rattle.fib_follow_plan.proofs.Hosting.{hosts_none, hosts_step, hosts_whole}
use Rattle.fib_follow_plan.proofs.hosts.all_hosts.Goals as goal

pub asks-init : goal.asks-init
asks-init c = hosts_none c.args.features.now c.args.asks.now c.new-out.result.items

pub asks-preserved : goal.asks-preserved
asks-preserved c =
    hosts_step c.args.features.now c.args.asks.now c.asks.place c.index-asks-place.result c.asks.out.items c.as_slice.result.now
    c.extend_from_slice.new.self.items
    (slice_get_read c.args.asks.now (length c.args.asks.now) c.asks.place c.index-asks-place.result refl c.asks-test.true c.index-asks-place.is)
    c.asks.invariant c.in_ok-hosts.ensures.short (c.as_slice.ensures.value ∙ c.in_ok-hosts.ensures.found) c.in_ok-extend_from_slice.ensures.items

pub returns : goal.returns
returns c = let over = c.asks-test.false
    in hosts_whole c.args.features.now c.args.asks.now c.asks.place c.asks.out.items (omega (arith, over)) c.asks.invariant
