use Rattle.std.proofs.Common.{arith, sym, ap, ◌∙◌}
use Rattle.fib_stack_ledger.specs.Deferred.{late_at, one_late}
use Rattle.fib_stack.specs.Runs.{put_in, word_in}
use Rattle.fib_stack.proofs.Deferring.{defer_next, count_next, one_most}
use Rattle.fib_stack.proofs.defer.defer.Goals as goal

pub loop-slot-preserved : goal.loop-slot-preserved
loop-slot-preserved c =
    let i = c.loop-slot.invariant in
    let e = c.args.entry in
    let n = c.loop-slot.slot in
    let l = late_at c.loop-slot.late.members e in
    let m = late_at c.defer_one-deferred.new.late.members e in
    let d = c.defer_one-deferred.ensures in
    record {
      done = defer_next l m c.args.words.now c.args.answers.now n c.loop-slot-test.true d.here (λ k ne. d.others e k (λ _ at. ne at)) i.done;
      clear = λ k le. d.others e k (λ _ at. absurd (omega (arith, at, le))) ∙ i.clear k (omega (arith, le));
      others = λ b k ne. d.others b k (λ at _. ne at) ∙ i.others b k ne;
      spare = omega (arith, i.spare, d.spare);
      count = count_next l m n c.loop-slot.deferred c.defer_one-deferred.result (λ k ne. d.others e k (λ _ at. ne at)) i.count (d.count ∙ ap one_late (sym d.here));
      few = omega (arith, i.few, d.count, one_most (word_in c.args.words.now n) (put_in c.args.answers.now n));
    }
