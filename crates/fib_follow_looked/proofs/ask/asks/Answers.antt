use Rattle.std.proofs.Common.{subst, sym}
use Rattle.std.proofs.lemmas.Result.{IfOk-weaker}
use Rattle.fib_resolve.specs.declared.types.Tables.{Tables}
use Rattle.fib_entries_rows.specs.Known.{StandsFor}
use Rattle.fib_follow_looked.specs.Looks.{AreAsks, AreShorts, AreTurns}
use Rattle.fib_follow_looked.proofs.ask.asks.Goals as goal

pub returns : goal.returns
returns c = IfOk-weaker c.asks_of.result
    (λ v. (S T : Tables) → StandsFor c.args.before.now S → AreTurns S T c.as_slice.result.now → AreAsks S T v.items)
    (λ v. (S T : Tables) → StandsFor c.args.before.now S → AreShorts S T c.args.shorts.now → AreAsks S T v.items)
    (λ v f. λ S T h are. f S T h (subst (AreTurns S T) (sym c.as_slice.ensures.value) are.turned)) c.asks_of.ensures
