use Rattle.std.proofs.Common.{◌≡◌, true, Bool, ◌++◌, ◌∷◌, [], ◌&&◌, Option, Some, if◌then◌else◌, sym, ap, ◌∙◌}
use Rattle.std.specs.Prelude.{is_none}
use Rattle.fib_loops.proofs.Frames.{on_ok_two}
use Rattle.fib_resolve.specs.Touched.{is_touched}
use Rattle.fib_entries_rows.specs.Known.{row_of}
use Rattle.fib_entries_rows.specs.Rows.{Row}
use Rattle.fib_entries_rows.specs.inner.Compare.{is_new}
use Rattle.fib_entries_rows.proofs.Comparing.{not_before}
use Rattle.fib_entries.proofs.anew.add_new.Goals as goal

pub returns-in-None-clause-touched : goal.returns-in-None-clause-touched
returns-in-None-clause-touched c =
    on_ok_two c.note.result c.note.ensures.touched c.note.ensures.touched (λ made again. λ S T h k.
    let none = ap (λ (z : Row). row_of c.args.before.now.rows z.prefix) (sym c.s.view_is) ∙ sym c.in-None.ensures.value in
    let is : is_new c.args.before.now.rows S T c.args.s.now.prefix ≡ true
    = ap (λ (o : Option Row). is_none o && is_touched S T c.args.s.now.prefix) none
    ∙ sym (not_before c.args.before.now c.args.after.now S T h k c.args.s.now.prefix (Some c.args.s.now) none c.requires) in
    made ∙ ap (λ (z : Row). c.args.out.now.touched ++ z.prefix ∷ []) c.s.view_is
    ∙ sym (ap (λ (b : Bool). if b then c.args.out.now.touched ++ c.args.s.now.prefix ∷ [] else c.args.out.now.touched) is))
