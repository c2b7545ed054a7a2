use Rattle.fib_addr.proofs.LongestLaws.{longest_is_unique}
use Rattle.fib_addr.proofs.laws.longest_is_unique.Goals as goal

pub returns : goal.returns
returns c = longest_is_unique
