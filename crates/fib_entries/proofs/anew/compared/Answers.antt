use Rattle.std.proofs.Common.{map, sym, ap, ◌∙◌, subst, List, ◌++◌, filter, flat_map}
use Rattle.fib_addr.specs.Prefixes.{Prefix}
use Rattle.fib_entries_rows.specs.Changes.{AreMoved, AreTouched}
use Rattle.fib_entries_rows.specs.Known.{prefix_of}
use Rattle.fib_entries_rows.specs.declared.changes.Moved.{Moved}
use Rattle.fib_entries_rows.specs.inner.Compare.{is_new, moved_new}
use Rattle.fib_entries.proofs.Moving.{are_moved}
use Rattle.fib_entries_rows.proofs.Touches.{list_touched}
use Rattle.fib_entries.proofs.anew.compared.Goals as goal

pub returns-clause-touched : goal.returns-clause-touched
returns-clause-touched c = λ S T h k.
    subst (AreTouched S T) (sym (c.in_ok-add_all_new.ensures.touched S T h k ∙ ap (λ (l : List Prefix). l ++ filter (is_new c.args.before.now.rows S T) (map prefix_of c.args.after.now.rows)) (c.in_ok-out.ensures.touched S T h k)))
    (list_touched c.args.before.now c.args.after.now S T h k)

pub returns-clause-moved : goal.returns-clause-moved
returns-clause-moved c = λ S T h k.
    subst (AreMoved c.args.before.now.rows c.args.after.now.rows)
    (sym (c.in_ok-add_all_new.ensures.moved ∙ ap (λ (l : List Moved). l ++ flat_map (moved_new c.args.before.now.rows c.args.after.now.rows) (map prefix_of c.args.after.now.rows)) c.in_ok-out.ensures.moved))
    (are_moved c.args.before.now.rows c.args.after.now.rows h.ordered k.ordered)
