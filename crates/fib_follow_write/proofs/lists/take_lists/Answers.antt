use Rattle.fib_follow_write.specs.inner.Stepped.{AreFree, AreTakenFor}
use Rattle.fib_follow_write.proofs.Listing.{all_taken, free}
use Rattle.fib_follow_write.proofs.Upon.{on_ok}
use Rattle.fib_follow_write.proofs.lists.take_lists.Goals as goal

pub take_all-requires : goal.take_all-requires
take_all-requires c = free AreFree AreTakenFor (λ s w. tt) c.args.paired.now c.args.lists.now

pub returns-clause-ok : goal.returns-clause-ok
returns-clause-ok c = on_ok c.take_all.result _ _ c.take_all.ensures.ok (λ t f. all_taken c.args.paired.now f c.args.lists.now c.take_all.new.state t)
