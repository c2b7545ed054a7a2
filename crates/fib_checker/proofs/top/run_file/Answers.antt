use Rattle.std.proofs.Common.{◌∙◌}
use Rattle.fib_checker.proofs.Endings.{first_part}
use Rattle.fib_checker.proofs.top.run_file.Goals as goal

pub returns-clause-first : goal.returns-clause-first
returns-clause-first g c = λ e.
    let read = c.in_ok-script.ensures.ok in
    first_part (g.H.Shelf.holds c.args.shelf.now) c.args.name.now c.in_ok-script.script c.deref.result.now read.0 _ _ read.1 (c.deref.ensures.value ∙ c.in-Ok.ensures) read.2 c.in-Err.ensures.err
