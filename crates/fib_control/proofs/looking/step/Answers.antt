use Rattle.std.proofs.Common.{ap, ◌∙◌}
use Rattle.fib_core.specs.Walk.{word_at}
use Rattle.fib_control.proofs.Lookups.{stepped_balance, stepped_ply}
use Rattle.fib_control.proofs.looking.step.Goals as goal

pub returns-in-Ply : goal.returns-in-Ply
returns-in-Ply g c p =
    let cells = c.args.plane.now.plane.board.union.cells in
    stepped_ply cells c.args.addr c.args.hash c.in-Ply.object c.in-Ply.depth p c.load-word.result c.args.stage c.after_ply.result c.in-Ply.is
    (c.load-word.ensures ∙ ap (word_at cells c.in-Ply.object) c.nibble.ensures.value) c.after_ply.ensures

pub returns-in-Balance : goal.returns-in-Balance
returns-in-Balance g c p =
    let cells = c.args.plane.now.plane.board.union.cells in
    stepped_balance cells c.args.addr c.args.hash c.in-Balance.object c.in-Balance.left p c.load-word-in-Balance.result c.args.stage c.after_balance.result c.in-Balance.is
    c.load-word-in-Balance.ensures (c.after_balance.ensures c.args.hash)
