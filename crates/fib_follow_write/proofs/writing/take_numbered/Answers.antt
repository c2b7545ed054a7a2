use Rattle.fib_follow_write.specs.Written.{lists_of}
use Rattle.fib_follow_write.proofs.Chunks.{all_found}
use Rattle.fib_follow_write.proofs.writing.take_numbered.Goals as goal

pub with_numbers-requires : goal.with_numbers-requires
with_numbers-requires c = all_found (lists_of c.args.paired.now) c.requires.0 c.args.lists.now c.take_lists.new.lists c.requires.1
    (c.in_ok-take_lists.ensures.ok c.requires.0)
