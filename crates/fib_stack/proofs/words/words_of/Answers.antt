use Rattle.std.proofs.Common.{arith, ap, ◌∙◌, length-set}
use Rattle.std.specs.Prelude.{slice_get}
use Rattle.fib_resolve_changes.specs.Wanted.{aim_of}
use Rattle.fib_core_promise.specs.Stack.{aim_word}
use Rattle.fib_ply.specs.Tables.{object_in}
use Rattle.fib_stack.specs.inner.Readied.{found_in}
use Rattle.fib_stack.proofs.Deferring.{word_set}
use Rattle.fib_stack.proofs.words.words_of.Goals as goal

pub loop-slot-preserved : goal.loop-slot-preserved
loop-slot-preserved c =
    let i = c.loop-slot.invariant in
    record {
      sixteen = length-set _ _ _ ∙ i.sixteen;
      words = λ k lt. word_set (λ j. aim_word (record { balance = object_in c.args.table.now; record_of = found_in c.args.uses.now }) (aim_of (slice_get c.args.wanted.now j))) c.loop-slot.words c.loop-slot.slot c.word_for.result (omega (arith, i.sixteen, c.loop-slot-test.true))
          (c.word_for.ensures.word ∙ ap (aim_word (record { balance = object_in c.args.table.now; record_of = found_in c.args.uses.now })) c.aim_at.ensures)
          i.words k lt;
      last = c.word_for.ensures.last;
    }
