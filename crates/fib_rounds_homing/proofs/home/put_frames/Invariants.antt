use Rattle.std.proofs.Common.{◌≡◌, ◌<◌, length}
use Rattle.std.specs.List.{AllByRecursion}
use Rattle.fib_worker_crew.specs.declared.claims.Frame.{Frame}
use Rattle.fib_rounds_homing.specs.Places.{placed}
use Rattle.fib_rounds_homing.proofs.home.put_frames.Given as goal

-- the rest of the frames, put into the places so far, gives the same
abbrev pub invariant-loop-frame : goal.invariant-loop-frame
invariant-loop-frame l = record {
  placed : placed l.places l.frame-iterator.rest.items ≡ placed l.fn.places l.fn.list.items;
  long : length l.places ≡ length l.fn.places;
  within : AllByRecursion (λ (f : Frame). f.number < length l.fn.places) l.frame-iterator.rest.items;
}
