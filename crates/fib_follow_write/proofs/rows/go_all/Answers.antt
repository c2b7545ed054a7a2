use Rattle.std.proofs.Common.{arith, ◌+◌, take, refl, subst}
use Rattle.std.proofs.lemmas.List.{take_all}
use Rattle.fib_follow_write.specs.Steps.{AreTaken}
use Rattle.fib_follow_write.specs.inner.Stepped.{HasGone}
use Rattle.fib_follow_write.proofs.Going.{chain_more, gone_ordered, rows_gone}
use Rattle.fib_follow_write.proofs.Upon.{take_next}
use Rattle.fib_follow_write.proofs.rows.go_all.Goals as goal

pub rows-init : goal.rows-init
rows-init c = (refl, c.requires)

pub go-requires : goal.go-requires
go-requires c = c.rows.invariant.1

pub rows-preserved : goal.rows-preserved
rows-preserved c =
    let x = c.index-prefixes-place.result in (
      chain_more (take c.rows.place c.args.prefixes.now) (take (c.rows.place + 1) c.args.prefixes.now) x c.args.rows.now c.rows.rows c.go.new.rows
          (take_next c.args.prefixes.now c.rows.place x c.rows-test.true c.index-prefixes-place.is) c.rows.invariant.0 c.go.ensures,
      gone_ordered x c.rows.rows c.go.new.rows c.go.ensures,
    )

pub returns-clause-gone : goal.returns-clause-gone
returns-clause-gone c = let over = c.rows-test.false in rows_gone c.args.prefixes.now c.args.rows.now c.rows.rows c.requires
    (subst (λ l. AreTaken HasGone l c.args.rows.now c.rows.rows) (take_all c.rows.place c.args.prefixes.now (omega (arith, over))) c.rows.invariant.0)

pub returns-clause-steps : goal.returns-clause-steps
returns-clause-steps c = let over = c.rows-test.false
    in subst (λ l. AreTaken HasGone l c.args.rows.now c.rows.rows) (take_all c.rows.place c.args.prefixes.now (omega (arith, over))) c.rows.invariant.0
