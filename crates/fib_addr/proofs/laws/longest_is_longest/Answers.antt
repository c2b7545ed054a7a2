use Rattle.fib_addr.proofs.LongestLaws.{longest_is_longest}
use Rattle.fib_addr.proofs.laws.longest_is_longest.Goals as goal

pub returns : goal.returns
returns c = longest_is_longest
