use Rattle.std.proofs.Common.{◌≡◌, ◌++◌, drop}
use Rattle.fib_counter.specs.inner.Posts.{results_by, words_of}
use Rattle.fib_counter.proofs.counting.count_frames.Given as goal

-- the rest of the frames, counted after those so far, gives the same
abbrev pub invariant-loop-place : goal.invariant-loop-place
invariant-loop-place l = record {
  id : l.seat.id ≡ l.fn.seat.id;
  words : l.seat.tally.words ++ words_of (results_by (drop l.place l.frames)) ≡ l.fn.seat.tally.words ++ words_of (results_by l.frames);
}
