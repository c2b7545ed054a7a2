use Rattle.std.proofs.Common.{arith, ◌≡◌, true, false, ◌∙◌, subst}
use Rattle.std.specs.Set.{is_member}
use Rattle.std.specs.List.Sorted.{IsPermutation}
use Rattle.fib_resolve_pairs.proofs.Backward.{front, not_there, there_already, added_keys, added_out, known_keys}
use Rattle.fib_resolve_pairs.proofs.repeats.distinct.Goals as goal

pub loop-i-preserved-in-Continue-branch-2 : goal.loop-i-preserved-in-Continue-branch-2
loop-i-preserved-in-Continue-branch-2 g c =
    let xs = c.args.items.now in
    let i = c.loop-i.i in
    let x = c.index-items-i.result in
    let at = front xs i x (omega arith) (omega arith) c.index-items-i.is in
    let none : is_member g.T.PartialEq.eq c.loop-i.seen.keys x ≡ false = not_there _ _ c.in_ok-insert.ensures.added c.if-branch.true in
    record {
      out = rw c.in_ok-push.ensures.items (added_out g.T.PartialEq.eq g.met.T.Eq.laws _ _ c.loop-i.seen.keys x at c.loop-i.invariant.seen c.loop-i.out.items c.loop-i.invariant.out none);
      seen = added_keys g.T.PartialEq.eq g.met.T.Eq.laws _ _ c.loop-i.seen.keys x at c.loop-i.invariant.seen c.insert.new.self.keys (rw c.if-branch.true at c.in_ok-insert.ensures.keys) none;
    }

pub loop-i-preserved : goal.loop-i-preserved
loop-i-preserved g c =
    let xs = c.args.items.now in
    let i = c.loop-i.i in
    let x = c.index-items-i.result in
    let at = front xs i x (omega arith) (omega arith) c.index-items-i.is in
    let there : is_member g.T.PartialEq.eq c.loop-i.seen.keys x ≡ true = there_already _ _ c.in_ok-insert.ensures.added c.if-branch.false in
    let same = known_keys g.T.PartialEq.eq g.met.T.Eq.laws _ _ c.loop-i.seen.keys x at c.loop-i.invariant.seen there in
    record {
      out = c.loop-i.invariant.out ∙ same;
      seen = rw (rw c.if-branch.false at c.in_ok-insert.ensures.keys) (subst (λ l. IsPermutation l c.loop-i.seen.keys) same c.loop-i.invariant.seen);
    }
