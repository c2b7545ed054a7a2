use Rattle.std.proofs.Common.{refl}
use Rattle.fib_config.proofs.Batches.{undone_more}
use Rattle.fib_config.specs.Undone.{undone}
use Rattle.fib_config.proofs.changes.keep_undo.Goals as goal

pub returns : goal.returns
returns c = λ S. undone_more c.args.undos.now.items c.push_reserved.new.self.items c.args.later (undone c.args.later S) S c.push_reserved.ensures.items refl
