use Rattle.std.proofs.Common.{◌≡◌, map, ap, ◌∙◌}
use Rattle.std.proofs.lemmas.Result.{IfOk-weaker}
use Rattle.fib_resolve.specs.Pairs.{chosen}
use Rattle.fib_resolve.specs.declared.types.Tables.{Tables}
use Rattle.fib_resolve_pairs.specs.Numbers.{goal_of}
use Rattle.fib_entries_rows.specs.Known.{StandsFor}
use Rattle.fib_follow_view.specs.inner.Told.{aim_goal, goals_row}
use Rattle.fib_follow_view.proofs.Told.{row_goals}
use Rattle.fib_follow_view.proofs.before.Before.goals.Goals as goal

pub returns-in-Some-clause-before : goal.returns-in-Some-clause-before
returns-in-Some-clause-before c =
    IfOk-weaker c.aim_goals.result (λ v. v.items ≡ map (λ m. aim_goal m.aim) c.marked.result.now)
    (λ v. (S : Tables) → StandsFor c.args.self.now S → v.items ≡ map (λ p. goal_of S c.args.e p.kind) (chosen S c.args.e))
    (λ v is. λ S h. is ∙ (ap (map (λ m. aim_goal m.aim)) c.marked.ensures
    ∙ (ap goals_row c.in-Some.ensures.value ∙ row_goals c.args.self.now S h c.args.e))) c.aim_goals.ensures

pub returns-in-None-clause-before : goal.returns-in-None-clause-before
returns-in-None-clause-before c = λ S h. c.new.ensures.items ∙ (ap goals_row c.in-None.ensures.value ∙ row_goals c.args.self.now S h c.args.e)
