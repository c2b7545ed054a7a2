use Rattle.std.proofs.Common.{◌∙◌, ap, map, sym}
use Rattle.fib_entries_rows.specs.Known.{prefix_of}
use Rattle.fib_follow_sized.proofs.Walking.{key_at, over_first, over_none}
use Rattle.fib_follow_sized.proofs.below.is_over_row.Goals as goal

pub returns-in-Some : goal.returns-in-Some
returns-in-Some c =
    let xs = c.args.rows.now in
    let e = c.row.inside.prefix in
    c.is_below.ensures.value
    ∙ over_first (map prefix_of xs) c.args.q c.row_past.result c.row_past.ensures.past e c.requires
    (key_at prefix_of xs c.row_past.result c.in-Some.row.now e (sym c.in-Some.ensures) (sym (ap (λ z. z.prefix) c.row.view_is)))
    c.is_below.ensures.ply c.is_below.ensures.entry

pub returns-in-None : goal.returns-in-None
returns-in-None c = over_none prefix_of c.args.rows.now c.args.q c.row_past.result c.row_past.ensures.past c.in-None.ensures
