use Rattle.std.proofs.Common.{◌++◌, ap, ◌∙◌}
use Rattle.fib_entries_rows.specs.Known.{rank_of}
use Rattle.fib_checker.proofs.Checking.{check_said}
use Rattle.fib_checker.proofs.run.run_check.Goals as goal

pub returns : goal.returns
returns c =
    let S = c.args.checker.now.config.tables in
    let rank = rank_of c.args.checker.now.entries.rows in
    c.in_ok-put_verdicts.ensures ∙ ap (λ t. c.args.out.now.items ++ t)
    (check_said c.args.n S c.tables.result.now c.args.check.now.source c.args.check.now.interface c.in-Some.number c.strict-strictly.result c.loose-loosely.result
    c.tables.ensures.value c.in-Some.ensures (c.strict-strictly.ensures S rank c.requires.ready.kept) (c.loose-loosely.ensures S rank c.requires.ready.kept))
