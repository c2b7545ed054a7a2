use Rattle.std.proofs.Common.{◌-◌, ◌<◌, ◌≤◌, length, get_or}
use Rattle.fib_stack_queue.specs.Queues.{turn_key}
use Rattle.fib_stack_queue.specs.declared.order.Queued.{Queued}
use Rattle.fib_stack_queue.proofs.order.count_before.Given as goal

abbrev pub invariant-loop-low : goal.invariant-loop-low
invariant-loop-low l = record {
  order : (l.low ≤ l.high) × (l.high ≤ length l.order.items);
  below : (d : Queued) → 0 < l.low → turn_key (get_or l.order.items (l.low - 1) d) < turn_key l.queued;
  above : (d : Queued) → l.high < length l.order.items → turn_key l.queued ≤ turn_key (get_or l.order.items l.high d);
}

abbrev pub decreases-loop-low : goal.decreases-loop-low
decreases-loop-low l = l.high - l.low
