use Rattle.std.proofs.Common.{◌≡◌, vec_len}
use Rattle.fib_config.specs.Undone.{undone_all}
use Rattle.fib_config.specs.inner.Digest.{HasKeys}
use Rattle.fib_config.proofs.changes.take_all_back.Given as goal

-- what is left to take back from these tables gives what all gave, and what is known of keys is right
abbrev pub invariant-loop-undo : goal.invariant-loop-undo
invariant-loop-undo l = (undone_all l.left.items l.tables ≡ undone_all l.fn.undos.items l.fn.tables) × (HasKeys l.tables l.digest × (l.digest.bound ≡ l.fn.digest.bound))

abbrev pub decreases-loop-undo : goal.decreases-loop-undo
decreases-loop-undo l = vec_len l.left
