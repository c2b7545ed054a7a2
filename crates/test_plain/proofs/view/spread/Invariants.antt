use Rattle.std.proofs.Common.{◌≡◌, take}
use Rattle.std.specs.Prelude.{flat_map, option_to_list, slice_get}
use Rattle.test_plain.proofs.view.spread.Given as goal

abbrev pub invariant-loop-j : goal.invariant-loop-j
invariant-loop-j l =
    l.out.items ≡ flat_map (λ j. option_to_list (slice_get l.paths j)) (take l.j-index l.j-items)
