use Rattle.std.proofs.Common.{arith, ◌≡◌, ◌-◌, true, false, List, ◌∷◌, [], ◌++◌, length-append, reverse, sym, ◌∙◌, ap, subst}
use Rattle.std.specs.Set.{is_member}
use Rattle.std.specs.List.Sorted.{IsPermutation}
use Rattle.std.proofs.lemmas.Option.{get_or_from_slice_get}
use Rattle.fib_resolve.specs.Pairs.{same_pair}
use Rattle.fib_resolve.specs.declared.pairs.Pair.{Pair}
use Rattle.fib_resolve.proofs.Touching.{same_pair_equiv}
use Rattle.fib_resolve_pairs.proofs.Backward.{front, not_there, there_already, added_keys, added_out, known_keys}
use Rattle.fib_resolve_pairs.proofs.keyed.distinct_pairs.Goals as goal

pub loop-i-preserved-in_ok-push : goal.loop-i-preserved-in_ok-push
loop-i-preserved-in_ok-push c =
    let xs = c.args.pairs.now ++ c.args.more.now in
    let x = c.pair_at-pair.result.now in
    let keys = c.loop-i.seen.keys in
    let all = length-append c.args.pairs.now c.args.more.now in
    let at = front xs c.loop-i.i x (omega (arith, c.loop-i-test.true)) (omega (arith, c.loop-i.auto.i, all, c.in-Some.ensures)) (sym (get_or_from_slice_get xs (c.loop-i.i - 1) x x c.pair_at-pair.ensures)) in
    let none : is_member same_pair keys x ≡ false = not_there _ _ c.in_ok-insert.ensures.added c.if-branch.true in
    let put = rw c.if-branch.true at c.in_ok-insert.ensures.keys in
    record {
      out = ap reverse (c.in_ok-push.ensures.items ∙ ap (λ (k : Pair). c.loop-i.out.items ++ k ∷ []) c.in_ok-duplicate.ensures)
          ∙ added_out same_pair same_pair_equiv _ _ keys x at c.loop-i.invariant.seen c.loop-i.out.items c.loop-i.invariant.out none;
      seen = added_keys same_pair same_pair_equiv _ _ keys x at c.loop-i.invariant.seen c.insert.new.self.keys put none;
    }

pub loop-i-preserved : goal.loop-i-preserved
loop-i-preserved c =
    let xs = c.args.pairs.now ++ c.args.more.now in
    let x = c.pair_at-pair.result.now in
    let keys = c.loop-i.seen.keys in
    let all = length-append c.args.pairs.now c.args.more.now in
    let at = front xs c.loop-i.i x (omega (arith, c.loop-i-test.true)) (omega (arith, c.loop-i.auto.i, all, c.in-Some.ensures)) (sym (get_or_from_slice_get xs (c.loop-i.i - 1) x x c.pair_at-pair.ensures)) in
    let there : is_member same_pair keys x ≡ true = there_already _ _ c.in_ok-insert.ensures.added c.if-branch.false in
    let same = known_keys same_pair same_pair_equiv _ _ keys x at c.loop-i.invariant.seen there in
    record {
      out = c.loop-i.invariant.out ∙ same;
      seen = rw (rw c.if-branch.false at c.in_ok-insert.ensures.keys) (subst (λ (l : List Pair). IsPermutation l keys) same c.loop-i.invariant.seen);
    }
