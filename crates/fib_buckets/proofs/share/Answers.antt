use Rattle.std.proofs.Common.{arith, ◌≡◌, ◌≤◌, ◌++◌, ◌∙◌, sym, ap, subst, length, replicate}
use Rattle.std.proofs.lemmas.List.{take_all}
use Rattle.fib_buckets.proofs.Runs.{runs, runs_more, length-runs_more, runs_all, run_fits}
use Rattle.fib_buckets.proofs.Sixteen.{length-buckets}
use Rattle.fib_buckets.specs.Shares.{buckets, IsFair}
use Rattle.fib_buckets.proofs.Fair.{buckets-fair}
use Rattle.fib_buckets.proofs.share.Goals as goal

pub put_run-requires : goal.put_run-requires
put_run-requires c =
    omega (arith, c.share_of-count.ensures, run_fits c.args.weights.now c.loop-j.j c.requires.some c.loop-j-test.true)

pub loop-j-preserved : goal.loop-j-preserved
loop-j-preserved c =
    let ws = c.args.weights.now in
    let j = c.loop-j.j in
    record {
      long = omega (arith, c.put_run.auto.out);
      place = omega (arith, c.share_of-count.ensures, length-runs_more ws j c.loop-j-test.true);
      done = c.put_run.ensures ∙ (ap (λ xs. xs ++ replicate c.share_of-count.result j) c.loop-j.invariant.done ∙ (ap (λ n. runs ws j ++ replicate n j) c.share_of-count.ensures ∙ sym (runs_more ws j c.loop-j-test.true)));
    }

pub returns : goal.returns
returns c =
    let ws = c.args.weights.now in
    let all = runs_all ws c.loop-j.j c.loop-j-test.false in
    let whole : length c.loop-j.out ≤ c.loop-j.at = omega (arith, ap length all, length-buckets ws c.requires.some) in
    let rule : c.loop-j.out ≡ buckets ws = sym (take_all c.loop-j.at c.loop-j.out whole) ∙ (c.loop-j.invariant.done ∙ all) in
    record { rule = rule; fair = subst (IsFair ws) (sym rule) (buckets-fair ws c.requires.some) }
