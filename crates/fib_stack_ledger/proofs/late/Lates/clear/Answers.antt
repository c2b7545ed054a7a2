use Rattle.std.proofs.Common.{◌≡◌, ◌<◌, ◌≤◌, length, get_or, arith, sym, ap, ◌∙◌}
use Rattle.fib_addr.proofs.PrefixLaws.{same_prefix-Decides}
use Rattle.fib_stack_ledger.specs.declared.late.Late.{Late}
use Rattle.fib_stack_ledger.proofs.LateLists.{others_removed, others_all, others_none, cleared_one}
use Rattle.fib_stack_ledger.proofs.late.Lates.clear.Goals as goal

pub loop-place-preserved-then-eq : goal.loop-place-preserved-then-eq
loop-place-preserved-then-eq c =
    let xs = c.loop-place.self.members in
    let i = c.loop-place.place in
    let lt : i < length xs = grind (arith) in
    let same : c.at.result.entry ≡ c.args.entry = (same_prefix-Decides c.at.result.entry c.args.entry).0 (sym c.eq.ensures ∙ c.if-eq.true) in
    let is : (get_or xs i c.at.result).entry ≡ c.args.entry = ap (λ (x : Late). x.entry) (sym c.at.ensures) ∙ same in
    record {
      before = rw c.take_out.ensures.members (others_removed xs i c.args.entry c.loop-place.invariant.before);
      others = λ e k ne. rw c.take_out.ensures.members (cleared_one xs i c.at.result c.args.entry e k lt is ne ∙ c.loop-place.invariant.others e k ne);
      spare = omega (arith, c.take_out.ensures.spare, c.loop-place.invariant.spare);
    }

pub returns-clause-here : goal.returns-clause-here
returns-clause-here c = λ k.
    let over : length c.loop-place.self.members ≤ c.loop-place.place = grind (arith) in
    others_none c.loop-place.self.members c.args.entry k (others_all c.loop-place.self.members c.loop-place.place c.args.entry over c.loop-place.invariant.before)
