use Rattle.std.proofs.Common.{List, ◌∙◌, ap}
use Rattle.fib_resolve.specs.declared.types.Tables.{Tables}
use Rattle.fib_config.specs.Undone.{undone_all}
use Rattle.fib_config.specs.declared.undo.Undo.{Undo}
use Rattle.fib_config.proofs.edits.keep.Goals as goal

pub returns-clause-back : goal.returns-clause-back
returns-clause-back c =
    c.keep_undo.ensures c.fitted.new.tables
    ∙ ap (λ (S : Tables). undone_all c.reserve-2.new.self.items S) c.in_ok-change.ensures.back
    ∙ ap (λ (us : List Undo). undone_all us c.args.tables.now) c.reserve-2.ensures.items
