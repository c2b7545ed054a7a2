use Rattle.std.proofs.Common.{arith}
use Rattle.fib_capture.proofs.Spanning.{record_lengths, one_span_more, all_spans_read}
use Rattle.fib_capture.proofs.spans.read_spans.Goals as goal

pub span_of-requires : goal.span_of-requires
span_of-requires c = omega (arith, c.requires, c.loop-frame.invariant.place, record_lengths _ _ _ c.in-Some.ensures.value)

pub overflow_cast-at-in-Some : goal.overflow_cast-at-in-Some
overflow_cast-at-in-Some c = omega (arith, c.requires, c.loop-frame.invariant.place, record_lengths _ _ _ c.in-Some.ensures.value)

pub overflow_add-at : goal.overflow_add-at
overflow_add-at c = omega (arith, c.requires, c.loop-frame.invariant.place, record_lengths _ _ _ c.in-Some.ensures.value)

pub loop-frame-preserved : goal.loop-frame-preserved
loop-frame-preserved c = record {
  told = one_span_more _ _ _ _ _ _ _ _ _ _ c.loop-frame.invariant.told c.in_ok-push.ensures.items c.in-Some.ensures.value c.span_of.ensures;
  place = omega (arith, c.loop-frame.invariant.place, record_lengths _ _ _ c.in-Some.ensures.value);
  few = omega (arith, c.loop-frame.invariant.few, c.in_ok-push.ensures.len);
}

pub returns : goal.returns
returns c = all_spans_read _ _ _ _ _ _ c.loop-frame.invariant.told c.in_default.ensures.value
