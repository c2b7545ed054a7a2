use Rattle.fib_words.proofs.Ranges.{accepted_in_range}
use Rattle.fib_words.proofs.laws.accepted_are_in_range.Goals as goal

pub returns : goal.returns
returns c = accepted_in_range
