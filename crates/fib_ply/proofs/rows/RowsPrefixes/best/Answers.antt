use Rattle.std.proofs.Common.{arith, sym, ap, ◌∙◌}
use Rattle.fib_core_promise.specs.Matches.{best_block, look_of}
use Rattle.fib_ply.specs.Rows.{held}
use Rattle.fib_ply.proofs.Needing.{best_whole}
use Rattle.fib_ply.proofs.Upto.{best_at, best_none, best_past, none_below, none_past, row_here}
use Rattle.fib_ply.proofs.rows.RowsPrefixes.best.Goals as goal

pub returns-in_default : goal.returns-in_default
returns-in_default c =
    let f = held c.args.self.now.members in
    let i = c.loop-n.invariant in
    sym (i.2 ∙ best_none (look_of f) c.loop-n.n c.loop-n.block (none_below f c.loop-n.n c.loop-n.block i.0 c.in_default.ensures.none))

pub returns-then-common-from : goal.returns-then-common-from
returns-then-common-from c =
    let f = held c.args.self.now.members in
    let i = c.loop-n.invariant in
    let row = c.in-Some.row in
    let common = c.common-common.ensures.common in
    let m = c.common-common.result.len in
    let same = c.if-common-from.true ∙ c.from.ensures ∙ c.len.ensures.value in
    sym (i.2 ∙ best_past (look_of f) c.loop-n.n c.loop-n.block m common.within (none_past f c.loop-n.n c.loop-n.block i.0 row c.in-Some.ensures.some m c.common-common.result.top common)
    ∙ ap (best_block (look_of f) m) (sym common.part)
    ∙ best_at (look_of f) m c.common-common.result.top row.object (row_here f c.loop-n.n c.loop-n.block i.0 row c.in-Some.ensures.some m c.common-common.result.top common same))

pub loop-n-preserved : goal.loop-n-preserved
loop-n-preserved c =
    let f = held c.args.self.now.members in
    let i = c.loop-n.invariant in
    let common = c.common-common.ensures.common in
    let m = c.common-common.result.len in (
      omega (arith, i.0, common.within),
      c.common-common.ensures.top,
      i.2 ∙ best_past (look_of f) c.loop-n.n c.loop-n.block m common.within (none_past f c.loop-n.n c.loop-n.block i.0 c.in-Some.row c.in-Some.ensures.some m c.common-common.result.top common)
          ∙ ap (best_block (look_of f) m) (sym common.part),
    )

pub returns : goal.returns
returns c = c.find.ensures ∙ ap (held c.args.self.now.members) c.prefix_of.ensures ∙ sym (c.loop-n.invariant.2 ∙ best_whole (look_of (held c.args.self.now.members)) c.loop-n.n c.loop-n.block c.loop-n-test.false)
