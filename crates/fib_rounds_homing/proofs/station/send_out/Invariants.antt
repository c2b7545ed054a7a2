use Rattle.std.proofs.Common.{◌≡◌, ◌≤◌, ℕ, length, false}
use Rattle.std.specs.Prelude.{slice_index_or, vec_capacity, vec_len}
use Rattle.fib_control.specs.Controls.{with_board}
use Rattle.fib_rounds_homing.specs.Homes.{but_out}
use Rattle.fib_rounds_homing.specs.Stations.{IsCrew}
use Rattle.fib_rounds_homing.proofs.station.send_out.Given as goal

abbrev pub invariant-loop-number : goal.invariant-loop-number
invariant-loop-number l = record {
  crew : IsCrew l.fn.control.plane.board 0 l.crew.items;
  all : length l.crew.items ≡ l.number;
  long : vec_len l.crew ≡ l.number;
  same : l.control ≡ with_board l.fn.control l.control.plane.board;
  sent : but_out l.control.plane.board ≡ but_out l.fn.control.plane.board;
  home : (n : ℕ) → l.number ≤ n → slice_index_or l.control.plane.board.out n false ≡ false;
  room : l.fn.workers ≤ vec_capacity l.crew;
}
