use Rattle.std.proofs.Common.{sym, ◌∙◌}
use Rattle.std.proofs.lemmas.Result.{on_ok_weaker}
use Rattle.fib_follow_told.proofs.Gathering.{gathers_put, gathers_same}
use Rattle.fib_follow_told.proofs.seen.see.Goals as goal

pub returns-then-has : goal.returns-then-has
returns-then-has c = gathers_same c.args.seen.now c.args.e c.requires (sym c.has.ensures ∙ c.if-has.true)

pub returns : goal.returns
returns c = on_ok_weaker c.put.result
    (λ is. gathers_put c.args.seen.now c.put.new.self c.args.e c.requires (sym c.has.ensures ∙ c.if-has.false) is) c.put.ensures.ok
