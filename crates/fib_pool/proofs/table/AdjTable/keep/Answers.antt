use Rattle.std.proofs.Common.{sym, ◌∙◌, subst}
use Rattle.fib_pool.specs.Records.{IsNew}
use Rattle.fib_pool.proofs.Keeping.{new_absent, given_back, failed}
use Rattle.fib_pool.proofs.table.AdjTable.keep.Goals as goal

pub add-requires-clause-absent : goal.add-requires-clause-absent
add-requires-clause-absent c = new_absent c.self.inside.records c.args.wanted (subst (λ l. IsNew l c.args.wanted) (sym c.self.view_is) c.requires.absent)

pub returns-then-is_err-clause-err : goal.returns-then-is_err-clause-err
returns-then-is_err-clause-err c = (
  failed c.add.result (sym c.is_err.ensures.value ∙ c.if-is_err.true) c.add.ensures.err ∙ c.self.view_is,
  given_back c.args.pool.now c.take.new.self c.release.new.self c.put_back.new.self c.in-Some.object _ c.in-Some.ensures.taken.free c.in-Some.ensures.taken.taken
      c.release.ensures.counted c.put_back.ensures.given,
)
