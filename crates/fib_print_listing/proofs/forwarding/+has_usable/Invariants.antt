use Rattle.std.proofs.Common.{length}
use Rattle.fib_print_listing.proofs.forwarding.+has_usable.Given as goal

abbrev pub decreases-has_usable : goal.decreases-has_usable
decreases-has_usable l = length l.marks.now
