use Rattle.std.proofs.Common.{◌≤◌, ◌<◌, List, length, sym, subst}
use Rattle.std.specs.Prelude.{All}
use Rattle.fib_resolve.specs.declared.aims.Marked.{Marked}
use Rattle.fib_stack.proofs.Spreading.{marked_few, marked_weighted}
use Rattle.fib_stack.proofs.ready.read.Goals as goal

pub wanted-requires-clause-few : goal.wanted-requires-clause-few
wanted-requires-clause-few c =
    let r = c.requires in
    subst (λ (ms : List Marked). length ms ≤ 16) (sym (c.marked-marks.ensures r.0 r.1)) (marked_few r.0 c.args.entry r.1.sound)

pub wanted-requires-clause-weighted : goal.wanted-requires-clause-weighted
wanted-requires-clause-weighted c =
    let r = c.requires in
    subst (λ (ms : List Marked). All (λ m. 0 < m.weight) ms) (sym (c.marked-marks.ensures r.0 r.1)) (marked_weighted r.0 c.args.entry r.1.sound)
