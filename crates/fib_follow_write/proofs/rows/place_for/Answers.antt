use Rattle.std.proofs.Common.{sym, subst}
use Rattle.std.specs.Prelude.{Contains, map}
use Rattle.fib_base_interned.proofs.Finding.{contains_at}
use Rattle.fib_resolve_changes.proofs.SamePairs.{map_in}
use Rattle.fib_entries_rows.specs.Known.{prefix_of}
use Rattle.fib_entries_rows.proofs.Gaps.{gap_from}
use Rattle.fib_entries_rows.proofs.Looking.{found_row}
use Rattle.fib_follow_write.proofs.Upon.{row_at}
use Rattle.fib_follow_write.proofs.rows.place_for.Goals as goal

pub unreachable-requires : goal.unreachable-requires
unreachable-requires c =
    let rows = c.args.rows.now in
    let k = c.in-Ok.field-0 in
    let g = row_at rows c.args.prefix k
    (found_row prefix_of rows c.args.prefix k c.requires.ordered c.in-Ok.ensures.bound c.in-Ok.ensures.position) c.in-Ok.ensures.bound in
    c.requires.absent (subst (Contains (map prefix_of rows)) (sym g.2) (map_in prefix_of rows g.0 (contains_at rows k g.0 g.1)))

pub returns-clause-gap : goal.returns-clause-gap
returns-clause-gap c = gap_from c.args.rows.now c.args.prefix c.in-Err.place c.requires.ordered c.in-Err.ensures.bound c.in-Err.ensures.position
