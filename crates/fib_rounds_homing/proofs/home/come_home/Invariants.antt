use Rattle.std.proofs.Common.{◌≡◌, ◌++◌, length}
use Rattle.std.specs.Prelude.{◌&&◌}
use Rattle.fib_control.specs.Controls.{with_board}
use Rattle.fib_worker_crew.specs.Frames.{frames}
use Rattle.fib_worker_crew.specs.Packets.{span}
use Rattle.fib_rounds_homing.specs.Stations.{all_done, pasts_of, rests_of}
use Rattle.fib_rounds_homing.specs.inner.Coming.{IsComing}
use Rattle.fib_rounds_homing.proofs.home.come_home.Given as goal

abbrev pub invariant-loop-station : goal.invariant-loop-station
invariant-loop-station l = record {
  same : l.control ≡ with_board l.fn.control l.control.plane.board;
  coming : IsComing l.fn.taken.opened l.fn.taken.first l.fn.taken.base (length l.fn.crew.items) (span l.packets.packets l.fn.taken.first l.fn.taken.to) l.fn.control.plane.board l.control.plane.board l.fn.places l.places l.done l.station-iterator.rest.items;
  trails : l.control.plane.board.trails ++ pasts_of l.station-iterator.rest.items ≡ l.fn.control.plane.board.trails ++ pasts_of l.fn.crew.items;
  rests : rests_of l.control.plane.board.rests l.station-iterator.rest.items ≡ rests_of l.fn.control.plane.board.rests l.fn.crew.items;
  ended : (l.done && all_done l.station-iterator.rest.items) ≡ all_done l.fn.crew.items;
  places : length l.fn.places ≡ frames (span l.packets.packets l.fn.taken.first l.fn.taken.to);
}
