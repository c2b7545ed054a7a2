use Rattle.std.proofs.Common.{◌≡◌, ◌++◌, drop}
use Rattle.fib_worker_crew.specs.Results.{results_of}
use Rattle.fib_counter.specs.inner.Posts.{words_of}
use Rattle.fib_counter.proofs.counting.count_results.Given as goal

-- the rest of the results, counted after those so far, gives the same
abbrev pub invariant-loop-place : goal.invariant-loop-place
invariant-loop-place l = record {
  id : l.seat.id ≡ l.fn.seat.id;
  words : l.seat.tally.words ++ words_of (results_of (drop l.place l.results)) ≡ l.fn.seat.tally.words ++ words_of (results_of l.results);
}
