use Rattle.std.proofs.Common.{◌≡◌, ◌+◌, ◌≤◌, ◌++◌, length}
use Rattle.std.specs.Prelude.{map, vec_capacity, vec_len}
use Rattle.std.specs.List.{AllByRecursion}
use Rattle.fib_counts.specs.Counts.{outs}
use Rattle.fib_counter.specs.inner.Posts.{IsFreshPost, station_of}
use Rattle.fib_counter.proofs.posts.muster.Given as goal

-- the posts so far, and the stations that have none yet
abbrev pub invariant-loop-station : goal.invariant-loop-station
invariant-loop-station l = record {
  stations : map station_of l.posts.items ++ l.station-iterator.rest.items ≡ l.fn.crew.items;
  fresh : AllByRecursion (IsFreshPost l.fn.keeper.id) l.posts.items;
  out : outs l.keeper.out + length l.station-iterator.rest.items ≡ outs l.fn.keeper.out + length l.fn.crew.items;
  tally : l.keeper.tally ≡ l.fn.keeper.tally;
  id : l.keeper.id ≡ l.fn.keeper.id;
  place : vec_len l.posts + length l.station-iterator.rest.items ≤ vec_capacity l.posts;
}
