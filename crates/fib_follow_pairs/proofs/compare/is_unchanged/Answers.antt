use Rattle.std.proofs.Common.{◌∙◌, ap, sym, option_copied}
use Rattle.fib_entries_rows.specs.Known.{row_of}
use Rattle.fib_follow_pairs.specs.Fresh.{prefix_in}
use Rattle.fib_follow_pairs.proofs.Compared.{held_found}
use Rattle.fib_follow_pairs.proofs.compare.is_unchanged.Goals as goal

pub is_as_found-requires : goal.is_as_found-requires
is_as_found-requires c = held_found c.args.rows.now c.args.lists.now c.prefix.result (option_copied c.row.result) c.requires.held c.row.ensures

pub returns : goal.returns
returns c v S T rows lists stands made =
    c.is_as_found.ensures v S T lists
    (c.row.ensures ∙ ap (row_of c.args.rows.now) c.prefix.ensures ∙ ap (λ z. row_of z (prefix_in c.args.fresh.now)) (sym rows)) stands made
