use Rattle.std.proofs.Common.{◌≡◌, take}
use Rattle.std.specs.Prelude.{flat_map, option_to_list, slice_get}
use Rattle.fib_stack.proofs.wanted.spread.Given as goal

abbrev pub invariant-loop-place : goal.invariant-loop-place
invariant-loop-place l =
    l.out.items ≡ flat_map (λ j. option_to_list (slice_get l.marks j)) (take l.place-index l.place-items)
