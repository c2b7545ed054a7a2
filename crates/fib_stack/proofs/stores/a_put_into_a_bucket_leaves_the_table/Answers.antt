use Rattle.fib_stack.proofs.Leaving.{put_quiet}
use Rattle.fib_stack.proofs.stores.a_put_into_a_bucket_leaves_the_table.Goals as goal

pub returns : goal.returns
returns c = λ look u v o k w a plane mine kind put. put_quiet u v o k w a mine kind put plane look
