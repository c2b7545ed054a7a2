use Rattle.std.proofs.Common.{◌<◌, ap, ◌∙◌, length}
use Rattle.std.proofs.lemmas.List.{length-set}
use Rattle.fib_rounds_homing.specs.Places.{placed}
use Rattle.fib_rounds_homing.proofs.home.put_frames.Goals as goal

pub loop-frame-preserved : goal.loop-frame-preserved
loop-frame-preserved c =
    let inv = c.loop-frame.invariant in
    let rest = c.next.new.self.rest.items in
    let placed_rest = rw c.in-Some.ensures.steps.0 at inv.placed in
    let within_rest = rw c.in-Some.ensures.steps.0 at inv.within in
    record {
      placed = ap (λ xs. placed xs rest) c.put_at.ensures ∙ placed_rest;
      long = ap length c.put_at.ensures ∙ (length-set c.loop-frame.places _ _ ∙ inv.long);
      within = within_rest.1;
    }
