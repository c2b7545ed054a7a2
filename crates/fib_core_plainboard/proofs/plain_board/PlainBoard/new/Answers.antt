use Rattle.std.proofs.Common.{ap, sym, subst, ◌∙◌}
use Rattle.fib_core_board.specs.Boards.{Board}
use Rattle.fib_core_plainboard.proofs.Calls as calls
use Rattle.std.specs.Prelude.{None, replicate}
use Rattle.fib_core_plainboard.specs.Passes.{fresh_plain}
use Rattle.fib_core_plainboard.specs.inner.Sits.{HoldsBoard, IsPlain}
use Rattle.fib_core_plainboard.proofs.plain_board.PlainBoard.new.Goals as goal

pub invariant_of-result : goal.invariant_of-result
invariant_of-result c = subst (λ (p : Board). IsPlain c.in_ok-words.words.items p × HoldsBoard c.args.objects c.args.workers (replicate 8 None) p) (sym c.in_ok-memory.ensures) (
  subst (λ ws. IsPlain ws (fresh_plain c.args.objects c.args.workers)) (sym (c.in_ok-words.ensures ∙ ap (λ n. replicate n 0) c.words_for.ensures)) (calls.fresh_is c.args.objects c.args.workers c.requires),
  calls.fresh_kept c.args.objects c.args.workers c.requires,
)
