use Rattle.std.proofs.Common.{List, [], ◌∷◌, ◌++◌, ap, ◌∙◌}
use Rattle.fib_loops.proofs.Frames.{root_enters, root_passes, root_kept, root_entered, enters_same}
use Rattle.fib_loops.specs.declared.enter.Frame.{Frame}
use Rattle.fib_loops.proofs.enter.enter_all_from.Goals as goal

pub loop-newest-init : goal.loop-newest-init
loop-newest-init c =
    let w = c.args.walk.now in
    let v = c.requires.enters.0 in
    let e = c.requires.path in
    let path = c.in_ok-enter.ensures.path ∙ ap (λ (l : List Frame). l ++ record { node = c.args.root; passed = 0 } ∷ []) e in
    record {
      enters = enters_same c.args.graph.now _ c.enter.new.walk.starts.items w.ranks.items c.enter.new.walk.ranks.items w.order.items c.enter.new.walk.order.items _ c.enter.new.walk.path.items c.in_ok-enter.ensures.starts c.in_ok-enter.ensures.ranks c.in_ok-enter.ensures.order path
          (root_enters c.args.graph.now w.starts.items w.ranks.items w.order.items w.path.items v e c.args.root c.requires.inside c.requires.new, root_passes c.args.graph.now _ c.args.root);
      keeps = rw c.in_ok-enter.ensures.starts (root_kept c.args.graph.now w.starts.items w.ranks.items w.order.items w.path.items v e c.args.root c.requires.inside c.requires.new);
      entered = rw c.in_ok-enter.ensures.starts (root_entered c.args.graph.now w.starts.items w.ranks.items w.order.items w.path.items v e c.args.root c.requires.inside c.requires.new);
    }
