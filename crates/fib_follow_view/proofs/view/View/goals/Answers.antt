use Rattle.std.proofs.Common.{◌≡◌, map, None, ap, ◌∙◌}
use Rattle.std.proofs.lemmas.Result.{IfOk-weaker}
use Rattle.fib_resolve.specs.Pairs.{chosen}
use Rattle.fib_resolve.specs.declared.types.Tables.{Tables}
use Rattle.fib_resolve_pairs.specs.Numbers.{goal_of}
use Rattle.fib_entries_rows.specs.Known.{row_of}
use Rattle.fib_follow_view.specs.Views.{IsAfter}
use Rattle.fib_follow_view.specs.inner.Told.{first_paths, goals_by, goals_row, kind_goal}
use Rattle.fib_follow_view.proofs.After.{goals_after}
use Rattle.fib_follow_view.proofs.view.View.goals.Goals as goal

pub returns-in-Some-clause-after : goal.returns-in-Some-clause-after
returns-in-Some-clause-after c =
    let x = c.in-Some.x.now in
    IfOk-weaker c.kind_goals.result (λ v. v.items ≡ map (λ p. kind_goal x.cover p.kind) c.first_paths.result.now)
    (λ v. (S T : Tables) → IsAfter c.args.self.now S T → v.items ≡ map (λ p. goal_of T c.args.e p.kind) (chosen T c.args.e))
    (λ v is. λ S T h. is ∙ (ap (map (λ p. kind_goal x.cover p.kind)) (c.first_paths.ensures ∙ ap first_paths c.as_slice.ensures) ∙ (ap (goals_by c.args.self.now.before c.args.e) c.in-Some.ensures ∙ goals_after c.args.self.now S T h c.args.e)))
    c.kind_goals.ensures

pub returns-in-None-clause-after : goal.returns-in-None-clause-after
returns-in-None-clause-after c =
    IfOk-weaker c.goals.result (λ v. v.items ≡ goals_row (row_of c.self.inside.before.rows c.args.e))
    (λ v. (S T : Tables) → IsAfter c.args.self.now S T → v.items ≡ map (λ p. goal_of T c.args.e p.kind) (chosen T c.args.e))
    (λ v is. λ S T h. is ∙ (ap (λ z. goals_by z.before c.args.e None) c.self.view_is ∙ (ap (goals_by c.args.self.now.before c.args.e) c.in-None.ensures ∙ goals_after c.args.self.now S T h c.args.e)))
    c.goals.ensures.value
