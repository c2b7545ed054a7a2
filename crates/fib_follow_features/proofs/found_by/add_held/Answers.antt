use Rattle.std.proofs.Common.{sym}
use Rattle.fib_follow_features.proofs.found_by.add_held.Goals as goal

pub content-requires : goal.content-requires
content-requires c = c.requires c.q-item.result (c.loop-q.q-index, c.loop-q-test.true, sym c.q-item.is)
