use Rattle.std.proofs.Common.{◌∙◌, sym, rules}
use Rattle.fib_config.proofs.Batches.{undone_more, undone_none}
use Rattle.fib_config.proofs.changes.take_all_back.Goals as goal

pub loop-undo-preserved : goal.loop-undo-preserved
loop-undo-preserved c = (
  sym (undone_more c.pop.new.self.items c.loop-undo.left.items c.in-Some.undo c.take_back.new.tables c.loop-undo.tables c.in-Some.ensures.items (sym c.take_back.ensures.tables)) ∙ c.loop-undo.invariant.0,
  (c.take_back.ensures.keys, c.take_back.ensures.bound ∙ c.loop-undo.invariant.1.1),
)

pub returns-clause-tables : goal.returns-clause-tables
returns-clause-tables c = sym (undone_none c.loop-undo.left.items c.loop-undo.tables (search rules)) ∙ c.loop-undo.invariant.0
