use Rattle.std.proofs.Common.{◌≡◌, map, sym, ◌∙◌, true}
use Rattle.std.proofs.lemmas.Result.{IfOk-weaker}
use Rattle.fib_resolve.specs.Loops.{looped_kind}
use Rattle.fib_resolve.specs.Pairs.{chosen}
use Rattle.fib_resolve.specs.declared.types.Tables.{Tables}
use Rattle.fib_entries_rows.specs.Known.{row_of}
use Rattle.fib_follow_view.specs.Views.{IsAfter}
use Rattle.fib_follow_part.specs.Parts.{IsPart, in_part}
use Rattle.fib_follow_told.specs.inner.Marks.{looped_row}
use Rattle.fib_follow_told.proofs.Marking.{loops_stay}
use Rattle.fib_follow_told.proofs.body.loops.Goals as goal

pub returns-then-has : goal.returns-then-has
returns-then-has c =
    let v = c.args.view.now in
    let p = c.args.part.now in
    let e = c.args.e in
    IfOk-weaker c.looped.result
    (λ x. (S T : Tables) → IsAfter v S T → IsPart v S T p → in_part p e ≡ true → x.items ≡ map (λ q. looped_kind T e q.kind) (chosen T e))
    (λ x. (S T : Tables) → IsAfter v S T → IsPart v S T p → x.items ≡ map (λ q. looped_kind T e q.kind) (chosen T e))
    (λ x is. λ S T h part. is S T h part (sym c.has.ensures ∙ c.if-has.true)) c.looped.ensures.after

pub returns-else-has : goal.returns-else-has
returns-else-has c =
    let v = c.args.view.now in
    let p = c.args.part.now in
    let e = c.args.e in
    IfOk-weaker c.looped_before.result (λ x. x.items ≡ looped_row (row_of v.before.rows e))
    (λ x. (S T : Tables) → IsAfter v S T → IsPart v S T p → x.items ≡ map (λ q. looped_kind T e q.kind) (chosen T e))
    (λ x is. λ S T h part. is ∙ loops_stay v S T h p part e (sym c.has.ensures ∙ c.if-has.false)) c.looped_before.ensures
