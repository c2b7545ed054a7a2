use Rattle.std.proofs.Common.{arith, ℕ, List, [], ◌∷◌, ◌++◌, ◌+◌, length, length-append, ap, ◌∙◌}
use Rattle.std.specs.Prelude.{slice_index}
use Rattle.fib_loops.specs.inner.Entering.{unset}
use Rattle.fib_loops.specs.declared.enter.Frame.{Frame}
use Rattle.fib_loops.proofs.Frames.{on_ok_two, newest_in, newest_passed, target_in, enters_one, passes_one, enters_shorter, leaves_one, passed_front, enters_same}
use Rattle.fib_loops.proofs.enter.step.Goals as goal

pub targets-targets-requires : goal.targets-targets-requires
targets-targets-requires c =
    let w = c.args.walk.now in
    newest_in c.args.graph.now w.starts.items w.ranks.items w.order.items w.path.items c.args.newest c.requires.enters c.requires.passed c.requires.closed

pub next_new-passed-requires-clause-low : goal.next_new-passed-requires-clause-low
next_new-passed-requires-clause-low c =
    let w = c.args.walk.now in
    rw c.targets-targets.ensures (newest_passed c.args.graph.now w.starts.items w.ranks.items w.order.items w.path.items c.args.newest c.requires.enters c.requires.passed c.requires.closed).0

pub next_new-passed-requires-clause-inside : goal.next_new-passed-requires-clause-inside
next_new-passed-requires-clause-inside c = λ y h. rw (c.as_slice.ensures.value, c.requires.enters.starts_len) (c.requires.closed c.args.newest.node y (rw c.targets-targets.ensures at h))

pub next_new-passed-requires-clause-before : goal.next_new-passed-requires-clause-before
next_new-passed-requires-clause-before c =
    let w = c.args.walk.now in
    rw (c.targets-targets.ensures, c.as_slice.ensures.value) (newest_passed c.args.graph.now w.starts.items w.ranks.items w.order.items w.path.items c.args.newest c.requires.enters c.requires.passed c.requires.closed).1

pub enter-requires-clause-inside : goal.enter-requires-clause-inside
enter-requires-clause-inside c =
    let w = c.args.walk.now in
    let low = rw c.targets-targets.ensures at c.if-passed-targets.true in
    rw (c.targets-targets.ensures, c.requires.enters.starts_len) (target_in c.args.graph.now w.starts.items w.ranks.items w.order.items w.path.items c.args.newest c.requires.enters c.requires.passed c.requires.closed c.next_new-passed.result low)

pub leave-requires-clause-inside : goal.leave-requires-clause-inside
leave-requires-clause-inside c =
    let w = c.args.walk.now in
    rw c.requires.enters.ranks_len (newest_in c.args.graph.now w.starts.items w.ranks.items w.order.items w.path.items c.args.newest c.requires.enters c.requires.passed c.requires.closed)

pub returns-in_ok-push-clause-enters : goal.returns-in_ok-push-clause-enters
returns-in_ok-push-clause-enters c =
    let w = c.args.walk.now in
    let low = rw c.targets-targets.ensures at c.if-passed-targets.true in
    let before = rw (c.targets-targets.ensures, c.as_slice.ensures.value) at c.next_new-passed.ensures.passed in
    let new = rw (c.targets-targets.ensures, c.as_slice.ensures.value) at (c.next_new-passed.ensures.new c.if-passed-targets.true) in
    let enters = enters_one c.args.graph.now w.starts.items w.ranks.items w.order.items w.path.items c.args.newest c.requires.enters c.requires.passed c.requires.closed c.next_new-passed.result low before new in
    let passes = passes_one c.args.graph.now w.starts.items w.ranks.items w.order.items w.path.items c.args.newest c.requires.enters c.requires.passed c.requires.closed c.next_new-passed.result low before new in
    on_ok_two c.enter.result c.enter.ensures.starts c.enter.ensures.path (λ s p.
    let starts = rw c.targets-targets.ensures at s in
    let path = rw c.targets-targets.ensures at (p ∙ ap (λ (l : List Frame). l ++ record { node = slice_index c.targets-targets.result.now c.next_new-passed.result; passed = 0 } ∷ []) c.in_ok-push.ensures.items) in
    enters_same c.args.graph.now _ c.enter.new.walk.starts.items w.ranks.items c.enter.new.walk.ranks.items w.order.items c.enter.new.walk.order.items _ c.enter.new.walk.path.items starts c.enter.ensures.ranks c.enter.ensures.order path (enters, passes))

pub returns-in_ok-push-clause-shorter : goal.returns-in_ok-push-clause-shorter
returns-in_ok-push-clause-shorter c =
    let w = c.args.walk.now in
    let low = rw c.targets-targets.ensures at c.if-passed-targets.true in
    let before = rw (c.targets-targets.ensures, c.as_slice.ensures.value) at c.next_new-passed.ensures.passed in
    let new = rw (c.targets-targets.ensures, c.as_slice.ensures.value) at (c.next_new-passed.ensures.new c.if-passed-targets.true) in
    let shorter = enters_shorter c.args.graph.now w.starts.items w.ranks.items w.order.items w.path.items c.args.newest c.requires.enters c.requires.passed c.requires.closed c.next_new-passed.result low before new in
    on_ok_two c.enter.result c.enter.ensures.starts c.enter.ensures.path (λ s p.
    let starts = rw c.targets-targets.ensures at s in
    omega (arith, shorter, ap (λ (l : List ℕ). unset l) starts, ap (λ (l : List Frame). length l) p, length-append c.push.new.self.items (record { node = slice_index c.targets-targets.result.now c.next_new-passed.result; passed = 0 } ∷ []), ap (λ (l : List Frame). length l) c.in_ok-push.ensures.items, length-append w.path.items (record { node = c.args.newest.node; passed = c.next_new-passed.result + 1 } ∷ [])))

pub returns-else-passed-targets-clause-enters : goal.returns-else-passed-targets-clause-enters
returns-else-passed-targets-clause-enters c =
    let w = c.args.walk.now in
    let low = rw c.targets-targets.ensures at c.if-passed-targets.false in
    let before = rw (c.targets-targets.ensures, c.as_slice.ensures.value) at c.next_new-passed.ensures.passed in
    let leaves = leaves_one c.args.graph.now w.starts.items w.ranks.items w.order.items w.path.items c.args.newest c.requires.enters c.requires.passed c.requires.closed (λ k l. before k (omega (arith, l, low))) in
    let passes = passed_front c.args.graph.now w.starts.items w.path.items c.args.newest c.requires.passed in
    on_ok_two c.leave.result c.leave.ensures.ranks c.leave.ensures.order (λ r o.
    enters_same c.args.graph.now w.starts.items c.leave.new.walk.starts.items _ c.leave.new.walk.ranks.items _ c.leave.new.walk.order.items w.path.items c.leave.new.walk.path.items c.leave.ensures.starts r o c.leave.ensures.path (leaves, passes))
