use Rattle.std.proofs.Common.{◌≡◌, ◌≤◌, ◌++◌, ℕ, List, drop}
use Rattle.fib_outside.specs.Outside.{Appends}
use Rattle.fib_rounds_homing.specs.Places.{joined, parts_of}
use Rattle.fib_worker_crew.specs.Packets.{span}
use Rattle.fib_worker_crew.specs.Results.{numbered}
use Rattle.fib_rounds.specs.Packets.{packets_text}
use Rattle.fib_rounds.specs.Writes.{AreLaid}
use Rattle.fib_rounds.proofs.Handing.{HasHanded}
use Rattle.fib_rounds.proofs.put.write_frames.Given as goal

-- what was written and taken, and then what is left to be, is the whole
abbrev pub invariant-frames : goal.invariant-frames
invariant-frames g l = record {
  high : l.at ≤ l.round.to;
  laid : AreLaid l.page.packets.now.packets l.at l.round.to (drop l.place-index l.places);
  written : (done : List ℕ) × Appends (g.K.Sink.written l.fn.out) (g.K.Sink.written l.out) done
      × (done ++ packets_text l.page.tables.now l.at (span l.page.packets.now.packets l.at l.round.to) (joined (parts_of (drop l.place-index l.places))) ≡ packets_text l.page.tables.now l.fn.round.first (span l.page.packets.now.packets l.fn.round.first l.round.to) (joined (parts_of l.places)));
  taken : HasHanded (g.T.Tap.taken l.fn.tap) (g.T.Tap.taken l.tap)
      (numbered l.at (span l.page.packets.now.packets l.at l.round.to) (joined (parts_of (drop l.place-index l.places))))
      (numbered l.fn.round.first (span l.page.packets.now.packets l.fn.round.first l.round.to) (joined (parts_of l.places)));
  counted : g.K.Sink.faults l.fn.out ≤ g.K.Sink.faults l.out;
  tapped : g.T.Tap.faults l.fn.tap ≤ g.T.Tap.faults l.tap;
}
