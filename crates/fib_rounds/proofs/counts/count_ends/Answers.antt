use Rattle.std.proofs.Common.{arith, ◌≡◌, ◌+◌, ℕ, sym, ◌∙◌, ap, drop}
use Rattle.std.specs.Prelude.{slice_index_or}
use Rattle.fib_core_results.specs.declared.record.Record.{Record}
use Rattle.fib_worker_crew.specs.Results.{results_of}
use Rattle.fib_rounds.specs.declared.summary.Summary.{Summary}
use Rattle.fib_rounds.specs.Counts.{IsSmall}
use Rattle.fib_rounds.specs.Summaries.{with_end, with_ends}
use Rattle.fib_rounds.proofs.Counting.{smaller, with_end_small, with_ends_head, ends_none}
use Rattle.fib_rounds.proofs.Spans.{length_results}
use Rattle.fib_rounds.proofs.counts.count_ends.Goals as goal

pub count_end-requires : goal.count_end-requires
count_end-requires c =
    smaller (c.requires.small.0 + c.loop-kept.kept-index) _ _ (omega (arith, c.requires.small.2, length_results c.args.results.now, c.loop-kept-test.true)) (c.loop-kept.invariant.small c.requires.small.0 c.requires.small.1)

pub loop-kept-preserved : goal.loop-kept-preserved
loop-kept-preserved c =
    let i = c.loop-kept.kept-index in
    let xs = c.args.results.now in
    let x = c.kept-item.result in
    let after : with_end c.loop-kept.counts (slice_index_or xs i x).1.end ≡ c.count_end.new.counts = ap (λ (r : ℕ × Record). with_end c.loop-kept.counts r.1.end) (sym c.kept-item.is) ∙ sym c.count_end.ensures.counts in
    record {
      counts = ap (λ (d : Summary). with_ends d (results_of (drop (i + 1) xs))) (sym after) ∙ (sym (with_ends_head c.loop-kept.counts xs i x c.loop-kept-test.true) ∙ c.loop-kept.invariant.counts);
      small = λ n h.
          let small : IsSmall (n + i + 1) (with_end c.loop-kept.counts x.1.end) = with_end_small (n + i) c.loop-kept.counts x.1.end (c.loop-kept.invariant.small n h) in
          rw c.count_end.ensures.counts (smaller (n + i + 1) (n + (i + 1)) (with_end c.loop-kept.counts x.1.end) (omega arith) small);
    }

pub returns-clause-counts : goal.returns-clause-counts
returns-clause-counts c = sym (ends_none c.loop-kept.counts c.args.results.now c.loop-kept.kept-index (omega (arith, c.loop-kept-test.false))) ∙ c.loop-kept.invariant.counts

pub returns-clause-small : goal.returns-clause-small
returns-clause-small c = λ n h. smaller (n + c.loop-kept.kept-index) _ _ (omega (arith, length_results c.args.results.now, c.loop-kept-test.false)) (c.loop-kept.invariant.small n h)
