use Rattle.std.proofs.Common.{arith, sym, ◌∙◌, ap, ◌≡◌, ◌-◌, ℕ}
use Rattle.std.proofs.lemmas.Result.{err_from_is_err_and}
use Rattle.fib_base_list.proofs.Lists.{each-append}
use Rattle.fib_resolve.specs.Reachable.{IsWrittenPath}
use Rattle.fib_commands.specs.Paths.{paths_of}
use Rattle.fib_commands.proofs.PathLemmas.{with_front, paths_end, paths_over, paths_step, lacks_all}
use Rattle.fib_commands.proofs.paths.paths.Goals as goal

pub returns-then-not-has_word-clause-value : goal.returns-then-not-has_word-clause-value
returns-then-not-has_word-clause-value c = sym c.loop.invariant.value ∙ paths_end _ _ _ (cc)

pub returns-in_err-next-clause-value : goal.returns-in_err-next-clause-value
returns-in_err-next-clause-value c =
    let p = err_from_is_err_and c.from_residual.result c.from_residual.ensures.1 in
    rw (p.1, p.2) (lacks_all _ c.args.most c.loop.counter c.loop.words _ _ c.loop-test.true (cc) c.in_err-next.ensures.value c.loop.invariant.value)

pub loop-preserved : goal.loop-preserved
loop-preserved c = record {
  value = rw c.in_ok-push.ensures.ok (paths_step c.args.most c.loop.counter c.loop.words _ _ _ c.loop-test.true (cc) c.in_ok-next.ensures.value ∙ c.loop.invariant.value);
  written = rw c.in_ok-push.ensures.ok (each-append IsWrittenPath c.loop.list _ c.loop.invariant.written (c.in_ok-next.ensures.written, tt));
}

pub returns-then-not-has_word-2-clause-value : goal.returns-then-not-has_word-2-clause-value
returns-then-not-has_word-2-clause-value c = sym c.loop.invariant.value ∙ paths_end _ _ _ (cc)

pub returns-else-not-has_word-2-clause-value : goal.returns-else-not-has_word-2-clause-value
returns-else-not-has_word-2-clause-value c =
    let none : c.args.most - c.loop.counter ≡ 0 = omega arith in
    let done = ap (λ (n : ℕ). with_front c.loop.list (paths_of n c.loop.words)) (sym none) in
    sym c.loop.invariant.value ∙ sym done ∙ paths_over _ _ (cc)
