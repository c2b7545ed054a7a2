use Rattle.std.proofs.Common.{◌≡◌, ◌≤◌, ◌+◌, ◌-◌, ◌/◌, ℕ, length, Option, Some, None}
use Rattle.std.specs.Prelude.{IfSome}
use Rattle.fib_rounds_homing.specs.Homes.{NoneOut}
use Rattle.fib_rounds_turns.specs.Routers.{applied_in}
use Rattle.fib_rounds.specs.Counts.{IsSmall}
use Rattle.fib_rounds.specs.Summaries.{summary_of}
use Rattle.fib_rounds.specs.Stages.{IsHistory}
use Rattle.fib_rounds.specs.Rounds.{MayOpen, closed_by, counts_from, stage_of}
use Rattle.fib_rounds.specs.inner.Forwarded.{IsAtRest}
use Rattle.fib_rounds.specs.declared.opening.Opening.{Opening}
use Rattle.fib_rounds.proofs.Running.{Going}
use Rattle.fib_rounds.proofs.rounds.run_rounds.Given as goal

abbrev pub invariant-rounds : goal.invariant-rounds
invariant-rounds g l = record {
  going : Going l.task.settings.workers (l.task.settings.objects / 2) l.task.script.now l.task.packets.now (closed_by (stage_of l.control l.reading.progress) l.next) l.next l.control.plane.board (g.K.Sink.written l.fn.out) (g.K.Sink.written l.out) (g.T.Tap.taken l.fn.tap) (g.T.Tap.taken l.tap);
  counts : counts_from l.task.packets.now l.task.script.now (closed_by (stage_of l.control l.reading.progress) l.next) l.next l.counts ≡ summary_of (l.task.settings.objects / 2) l.task.script.now l.task.packets.now;
  refused : l.refused_lines ≡ (closed_by (stage_of l.control l.reading.progress) l.next).router.refused;
  may : IfSome l.next (MayOpen l.task.script.now l.task.packets.now.packets);
  lines : IfSome l.next (λ o. l.reading.progress.lines ≡ o.place);
  few : IfSome l.next (λ o. applied_in l.control ≤ o.place);
  small : IfSome l.next (λ o. IsSmall (o.first + o.first) l.counts);
  rests : IfSome l.next (λ o. IsAtRest l.task.settings.workers o.place l.control);
  history : IsHistory (stage_of l.control l.reading.progress);
  none : NoneOut l.control.plane.board;
  settled : l.control.plane.board.log.version.settled ≡ applied_in l.control;
  counted : g.K.Sink.faults l.fn.out ≤ g.K.Sink.faults l.out;
  tapped : g.T.Tap.faults l.fn.tap ≤ g.T.Tap.faults l.tap;
}

-- how many lines are left, and one for the round that is open
abbrev left : ℕ → Option Opening → ℕ
left lines None = 0
left lines (Some o) = lines - o.place + 1

abbrev pub decreases-rounds : goal.decreases-rounds
decreases-rounds g l = left (length l.task.script.now) l.next
