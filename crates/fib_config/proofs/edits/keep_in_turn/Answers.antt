use Rattle.std.proofs.Common.{sym, ◌∙◌}
use Rattle.fib_config.proofs.Batches.{differ_more}
use Rattle.fib_config.proofs.Made.{turn_stops, turn_more, turn_ends}
use Rattle.fib_config.proofs.edits.keep_in_turn.Goals as goal

pub loop-place-preserved : goal.loop-place-preserved
loop-place-preserved c = record {
  left = turn_more c.loop-place.place c.loop-place.tables _ c.args.room c.args.edits.now c.index-edits-place.result c.loop-place-test.true c.index-edits-place.is c.in-Ok.ensures.accepted c.in-Ok.ensures.edited ∙ c.loop-place.invariant.left;
  places = differ_more c.loop-place.kept.changes.items _ c.args.tables.now c.loop-place.tables _ c.index-edits-place.result c.loop-place.invariant.sound c.loop-place.invariant.places c.in-Ok.ensures.edited c.in-Ok.ensures.place;
  back = c.keep.ensures.back ∙ c.loop-place.invariant.back;
  sound = c.keep.ensures.sound;
  digest = c.keep.ensures.digest;
}

pub returns-in-Err-Refused-clause-refused : goal.returns-in-Err-Refused-clause-refused
returns-in-Err-Refused-clause-refused c =
    rw c.in-Err-Refused.refusal-is (sym c.loop-place.invariant.left ∙ turn_stops c.loop-place.place c.loop-place.tables c.args.room c.args.edits.now c.index-edits-place.result c.in-Err-Refused.refusal c.loop-place-test.true c.index-edits-place.is (rw c.in-Err-Refused.field-0-is at c.in-Err-Refused.ensures.refused))

pub returns-clause-made : goal.returns-clause-made
returns-clause-made c = sym c.loop-place.invariant.left ∙ turn_ends c.loop-place.place c.loop-place.tables c.args.room c.args.edits.now c.loop-place-test.false
