use Rattle.std.proofs.Common.{arith}
use Rattle.std.proofs.lemmas.List.Elements.{Contains-get_or}
use Rattle.fib_follow_part.proofs.lowering.raised.Goals as goal

pub overflow_add-base : goal.overflow_add-base
overflow_add-base c = let lt = c.requires _ (Contains-get_or c.args.numbers.now c.numbers.place 0 c.numbers-test.true) in omega (arith, lt)
