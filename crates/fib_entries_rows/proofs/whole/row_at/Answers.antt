use Rattle.std.proofs.Common.{List, ◌↔◌, sym, ◌∙◌, subst}
use Rattle.std.specs.Prelude.{Contains}
use Rattle.fib_addr.specs.Prefixes.{Prefix}
use Rattle.fib_reach.specs.Walks.{AllDiffer}
use Rattle.fib_resolve.specs.Loops.{targets}
use Rattle.fib_entries_rows.specs.Known.{IsRow}
use Rattle.fib_entries_rows.proofs.Picking.{picked_all}
use Rattle.fib_entries_rows.proofs.whole.row_at.Goals as goal

pub returns-clause-row : goal.returns-clause-row
returns-clause-row c =
    let parts = c.args.parts in
    let same = c.in_ok-set.ensures ∙ c.as_slice.ensures in
    subst (IsRow parts.lists.now parts.meaning.now) (sym c.in_ok-row.ensures)
    (record {
      prefix = c.len-len.ensures.prefix;
      pairs = picked_all parts.meaning.now parts.lists.now c.args.prefix parts.ids.now c.in_ok-held_of.field-0 c.requires.parts.sound c.requires.parts.taken c.in_ok-held_of.ensures;
      looped = c.looped.view_is ∙ c.in_ok-looped.ensures;
      met = c.in_ok-mets_of.ensures;
      marked = c.in_ok-marked.ensures;
      dependants = λ d. subst (λ (l : List Prefix). Contains l d ↔ Contains (targets parts.meaning.now d) c.args.prefix) (sym same) (c.requires.all d);
      dependants_once = subst AllDiffer (sym same) c.requires.once;
    })
