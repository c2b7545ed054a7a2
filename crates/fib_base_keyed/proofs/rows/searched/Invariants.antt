use Rattle.std.proofs.Common.{◌≡◌, ◌+◌, drop, map}
use Rattle.std.specs.List.{position_or_len}
use Rattle.fib_base_keyed.specs.inner.Rows.{key_of}
use Rattle.fib_base_keyed.proofs.rows.searched.Given as goal

abbrev pub invariant-loop-place : goal.invariant-loop-place
invariant-loop-place g l =
    l.place + position_or_len (g.K.PartialEq.eq l.key) (map key_of (drop l.place l.rows)) ≡ position_or_len (g.K.PartialEq.eq l.key) (map key_of l.rows)
