use Rattle.std.proofs.Common.{sym, ◌∙◌}
use Rattle.fib_entries_rows.proofs.Taking.{is_kept}
use Rattle.fib_entries_rows.proofs.Telling.{kept_some}
use Rattle.fib_follow_write.proofs.bodies.number.Goals as goal

pub unreachable-requires : goal.unreachable-requires
unreachable-requires c =
    let q = c.requires in
    let k = kept_some c.args.lists.now q.0 c.args.pair.now.paths q.1 in
    c.in-None.ensures.absent k.0 (is_kept c.args.lists.now q.0 k.0 k.1) (k.2 ∙ sym c.as_slice.ensures)
