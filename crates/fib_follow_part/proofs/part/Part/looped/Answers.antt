use Rattle.std.proofs.Common.{◌≡◌, true, map, ap, ◌∙◌}
use Rattle.std.proofs.lemmas.Result.{IfOk-weaker}
use Rattle.fib_resolve.specs.Loops.{looped_kind}
use Rattle.fib_resolve.specs.Pairs.{chosen}
use Rattle.fib_resolve.specs.declared.types.Tables.{Tables}
use Rattle.fib_entries_rows.specs.inner.Reaching.{kind_loops}
use Rattle.fib_follow_view.specs.Views.{IsAfter}
use Rattle.fib_follow_view.proofs.Told.{map_same}
use Rattle.fib_follow_part.specs.Parts.{IsPart, in_part}
use Rattle.fib_follow_part.proofs.part.Part.looped.Goals as goal

pub returns-clause-after : goal.returns-clause-after
returns-clause-after c =
    let p = c.args.self.now in
    let e = c.args.e in
    IfOk-weaker c.loops_of.result (λ v. v.items ≡ map (λ q. kind_loops c.self.inside.loops.keys e q.kind) c.chosen.result.now)
    (λ v. (S T : Tables) → IsAfter c.args.view.now S T → IsPart c.args.view.now S T p → in_part p e ≡ true
    → v.items ≡ map (λ q. looped_kind T e q.kind) (chosen T e))
    (λ v is. λ S T h part there.
    is ∙ (ap (λ z. map (λ q. kind_loops z.loops e q.kind) c.chosen.result.now) c.self.view_is
    ∙ (ap (map (λ q. kind_loops p.loops e q.kind)) (c.chosen.ensures.after S T h)
    ∙ map_same (λ q. kind_loops p.loops e q.kind) (λ q. looped_kind T e q.kind) (chosen T e) (λ q k. part.looped e q there k)))) c.loops_of.ensures
