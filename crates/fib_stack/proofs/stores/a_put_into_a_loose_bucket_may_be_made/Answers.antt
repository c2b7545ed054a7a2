use Rattle.fib_stack.proofs.Promising.{may_put}
use Rattle.fib_stack.proofs.stores.a_put_into_a_loose_bucket_may_be_made.Goals as goal

pub returns : goal.returns
returns c = may_put
