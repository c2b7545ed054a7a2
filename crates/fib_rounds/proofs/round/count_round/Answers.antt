use Rattle.std.proofs.Common.{arith, ◌+◌, length}
use Rattle.fib_rounds_homing.specs.Places.{joined, parts_of}
use Rattle.fib_rounds.proofs.Counting.{smaller, counted_small}
use Rattle.fib_rounds.proofs.round.count_round.Goals as goal

pub count_places-requires : goal.count_places-requires
count_places-requires c = record {
  small = (
    c.args.round.first + c.args.round.to,
    counted_small c.args.counts.now c.args.round.first c.args.round.to c.from-taken.result c.requires.order c.from-taken.ensures c.requires.small,
    omega (arith, c.requires.order, c.requires.few),
  );
}

pub returns-then-quiet-clause-small : goal.returns-then-quiet-clause-small
returns-then-quiet-clause-small c =
    let small = c.count_places.ensures.small (c.args.round.first + c.args.round.to) (counted_small c.args.counts.now c.args.round.first c.args.round.to c.from-taken.result c.requires.order c.from-taken.ensures c.requires.small) in
    smaller (c.args.round.first + c.args.round.to + length (joined (parts_of c.args.places.now))) (c.args.round.to + c.args.round.to) _ (omega (arith, c.requires.order, c.requires.few)) small
