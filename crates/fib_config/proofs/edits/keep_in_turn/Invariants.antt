use Rattle.std.proofs.Common.{◌≡◌, drop}
use Rattle.fib_resolve.specs.Tables.{IsSound}
use Rattle.fib_resolve.specs.Refusals.{edited_from, edited_in_turn}
use Rattle.fib_resolve_changes.specs.Differ.{Differ}
use Rattle.fib_config.specs.Undone.{undone_all}
use Rattle.fib_config.specs.inner.Digest.{IsDigest}
use Rattle.fib_config.proofs.edits.keep_in_turn.Given as goal

-- what is left to do from these tables on is what was to do, and what was done can be taken back
abbrev pub invariant-loop-place : goal.invariant-loop-place
invariant-loop-place l = record {
  left : edited_from l.place l.tables l.room (drop l.place l.edits) ≡ edited_in_turn l.fn.tables l.room l.edits;
  places : Differ l.kept.changes.items l.fn.tables l.tables;
  back : undone_all l.kept.undos.items l.tables ≡ undone_all l.fn.kept.undos.items l.fn.tables;
  sound : IsSound l.tables;
  digest : IsDigest l.tables l.digest;
}
