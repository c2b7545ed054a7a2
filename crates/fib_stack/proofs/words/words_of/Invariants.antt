use Rattle.std.proofs.Common.{◌≡◌, ◌<◌, ℕ, length}
use Rattle.std.specs.Prelude.{IfSome, slice_get}
use Rattle.fib_resolve_changes.specs.Wanted.{aim_of}
use Rattle.fib_core_promise.specs.Stack.{aim_word}
use Rattle.fib_ply.specs.Tables.{object_in}
use Rattle.fib_stack.specs.Runs.{word_in}
use Rattle.fib_stack.specs.inner.Readied.{found_in}
use Rattle.fib_stack.proofs.words.words_of.Given as goal

abbrev pub invariant-loop-slot : goal.invariant-loop-slot
invariant-loop-slot l = record {
  sixteen : length l.words ≡ 16;
  words : (k : ℕ) → k < l.slot → word_in l.words k ≡ aim_word (record { balance = object_in l.table; record_of = found_in l.uses }) (aim_of (slice_get l.wanted k));
  last : IfSome l.last (λ f. f.object ≡ object_in l.table f.entry);
}
