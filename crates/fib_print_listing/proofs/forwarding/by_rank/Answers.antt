use Rattle.fib_print_listing.proofs.Ranks.{ranks_sorted}
use Rattle.fib_print_listing.proofs.forwarding.by_rank.Goals as goal

pub returns : goal.returns
returns c = ranks_sorted c.args.entries.now.rows c.in_ok-ranks.ranks.items c.sort_unstable.new.self.items c.in_ok-ranks.ensures c.sort_unstable.ensures.permutation c.sort_unstable.ensures.sorted
