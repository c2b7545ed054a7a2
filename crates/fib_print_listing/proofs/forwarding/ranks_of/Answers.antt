use Rattle.fib_print_listing.proofs.Ranks.{ranked_more}
use Rattle.fib_print_listing.proofs.forwarding.ranks_of.Goals as goal

pub loop-place-preserved : goal.loop-place-preserved
loop-place-preserved c =
    ranked_more c.args.entries.now.rows c.loop-place.place c.rank.result c.at-e.result c.loop-place.ranks.items c.push.new.self.items c.at-e.ensures c.rank.ensures c.loop-place.invariant c.in_ok-push.ensures.items
