use Rattle.fib_follow_write.specs.inner.Stepped.{IsFree, IsTaken}
use Rattle.fib_follow_write.proofs.Listing.{free}
use Rattle.fib_follow_write.proofs.lists.PairedStepPathLists.take.Goals as goal

pub take_all-requires : goal.take_all-requires
take_all-requires c = free IsFree IsTaken (λ s w. tt) c.as_slice.result.now c.args.state.now
