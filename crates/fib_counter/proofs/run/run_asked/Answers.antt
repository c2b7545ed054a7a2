use Rattle.std.proofs.Common.{◌∙◌}
use Rattle.fib_counter.proofs.Endings.{first_counts}
use Rattle.fib_counter.proofs.run.run_asked.Goals as goal

pub returns-in-Ok-clause-first : goal.returns-in-Ok-clause-first
returns-in-Ok-clause-first g c = λ _.
    first_counts (g.H.Shelf.holds c.args.shelf.now) (g.H.Shelf.holds c.read_commands.new.shelf) c.args.asked.settings c.args.asked.commands.now c.args.asked.capture.now _ _ _ _ _
    c.read_commands.ensures.same c.in_ok-script.ensures.ok c.in_ok-packets.ensures.ok (c.deref.ensures.value ∙ c.in-Ok.ensures) c.in-Err-put_all.ensures.err
