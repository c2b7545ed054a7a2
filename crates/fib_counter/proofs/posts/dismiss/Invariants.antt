use Rattle.std.proofs.Common.{◌≡◌, ◌+◌, ◌≤◌, ◌++◌, length, true}
use Rattle.std.specs.Prelude.{map, vec_capacity, vec_len}
use Rattle.std.specs.List.{AllByRecursion}
use Rattle.fib_counts.specs.Counts.{outs}
use Rattle.fib_counter.specs.inner.Posts.{HasCounted, IsCountedPost, counted_by, station_of}
use Rattle.fib_counter.proofs.posts.dismiss.Given as goal

-- the stations so far, and the posts that are left
abbrev pub invariant-loop-post : goal.invariant-loop-post
invariant-loop-post l = record {
  stations : l.crew.items ++ map station_of l.post-iterator.rest.items ≡ map station_of l.fn.posts.items;
  left : AllByRecursion (IsCountedPost l.fn.keeper.id) l.post-iterator.rest.items;
  counted : l.all ≡ true → AllByRecursion HasCounted l.post-iterator.rest.items → AllByRecursion HasCounted l.fn.posts.items;
  tally : l.keeper.tally ++ counted_by l.post-iterator.rest.items ≡ l.fn.keeper.tally ++ counted_by l.fn.posts.items;
  out : outs l.keeper.out + length l.fn.posts.items ≡ outs l.fn.keeper.out + length l.post-iterator.rest.items;
  id : l.keeper.id ≡ l.fn.keeper.id;
  place : vec_len l.crew + length l.post-iterator.rest.items ≤ vec_capacity l.crew;
}
