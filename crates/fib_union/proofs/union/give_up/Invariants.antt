use Rattle.std.proofs.Common.{◌≡◌, ℕ, ◌+◌, ◌≤◌, ◌++◌, length, map, take, eqb, get_or, vec_capacity}
use Rattle.std.specs.Prelude.{count_by}
use Rattle.fib_union.specs.declared.retired.RetiredEdge.{RetiredEdge}
use Rattle.fib_union.proofs.union.give_up.Given as goal

abbrev pub invariant-loop-old : goal.invariant-loop-old
invariant-loop-old l = record {
  ins : (o : ℕ) → get_or l.ins o 0 + count_by (λ (r : RetiredEdge). eqb r.to o) (take l.old-index l.gone) ≡ get_or l.fn.ins o 0;
  left : l.left.items ≡ l.fn.left.items ++ map (λ (r : RetiredEdge). r.to) (take l.old-index l.gone);
  room : vec_capacity l.fn.left ≤ vec_capacity l.left;
  long : length l.left.items ≡ length l.fn.left.items + l.old-index;
}
