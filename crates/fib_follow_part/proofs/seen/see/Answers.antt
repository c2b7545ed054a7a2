use Rattle.std.proofs.Common.{[], ◌∷◌, sym, ◌∙◌}
use Rattle.std.proofs.lemmas.Result.{on_ok_weaker}
use Rattle.fib_entries_rows.proofs.Loopings.{sees_put, sees_same}
use Rattle.fib_follow_part.proofs.Searching.{only_put, only_same}
use Rattle.fib_follow_part.proofs.seen.see.Goals as goal

pub returns-then-has-clause-seen : goal.returns-then-has-clause-seen
returns-then-has-clause-seen c = sees_same c.args.seen.now c.args.e c.requires (sym c.has.ensures ∙ c.if-has.true)

pub returns-then-has-clause-only : goal.returns-then-has-clause-only
returns-then-has-clause-only c = only_same (c.args.e ∷ []) c.args.seen.now

pub returns-clause-seen : goal.returns-clause-seen
returns-clause-seen c = on_ok_weaker c.put.result
    (λ is. sees_put c.args.seen.now c.put.new.self c.args.e c.requires (sym c.has.ensures ∙ c.if-has.false) is) c.put.ensures.ok

pub returns-clause-only : goal.returns-clause-only
returns-clause-only c = on_ok_weaker c.put.result (λ is. only_put c.args.seen.now c.put.new.self c.args.e is) c.put.ensures.ok
