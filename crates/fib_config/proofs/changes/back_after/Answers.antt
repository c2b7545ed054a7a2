use Rattle.std.proofs.Common.{◌∙◌, ap, sym}
use Rattle.std.specs.Prelude.{Option, Some}
use Rattle.fib_resolve.specs.Edits.{edited}
use Rattle.fib_config.specs.Undone.{undone_all}
use Rattle.fib_config.specs.declared.undo.Undo.{Undo}
use Rattle.fib_config.proofs.Batches.{undone_neighbors_last, undone_routes_last}
use Rattle.fib_config.proofs.changes.back_after.Goals as goal

abbrev the_some : Undo → Option Undo
the_some u = Some u

pub returns-then-deletes_route : goal.returns-then-deletes_route
returns-then-deletes_route c = λ _ S.
    let us = c.args.undos.now in
    ap (undone_all us) (sym (c.deletes_route.ensures c.if-deletes_route.true S))
    ∙ undone_routes_last us c.in-Some-Routes.field-0-0 (edited S c.args.edit.now).routes S (sym c.in-Some-Routes.ensures.value ∙ ap the_some c.in-Some-Routes.field-0-is)

pub returns-then-deletes_neighbor : goal.returns-then-deletes_neighbor
returns-then-deletes_neighbor c = λ _ S.
    let us = c.args.undos.now in
    ap (undone_all us) (sym (c.deletes_neighbor.ensures c.if-deletes_neighbor.true S))
    ∙ undone_neighbors_last us c.in-Some-Neighbors.field-0-0 (edited S c.args.edit.now).neighbors S (sym c.in-Some-Neighbors.ensures.value ∙ ap the_some c.in-Some-Neighbors.field-0-is)
