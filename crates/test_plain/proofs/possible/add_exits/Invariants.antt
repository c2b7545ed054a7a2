use Rattle.std.proofs.Common.{◌≡◌, ◌++◌, map, take}
use Rattle.test_plain.specs.inner.Exits.{exit_of}
use Rattle.test_plain.proofs.possible.add_exits.Given as goal

abbrev pub invariant-loop-p : goal.invariant-loop-p
invariant-loop-p l = l.out.items ≡ l.fn.out.items ++ map (exit_of l.entry) (take l.p-index l.paths)
