use Rattle.std.proofs.Common.{sym, ◌∙◌}
use Rattle.fib_config.proofs.Made.{made_sound_at}
use Rattle.fib_config.proofs.edits.change.Goals as goal

pub returns-clause-sound : goal.returns-clause-sound
returns-clause-sound c =
    made_sound_at c.args.tables.now c.make.new.tables c.args.edit.now c.in_ok-undo.ensures.ok (sym c.in_ok-refusal.ensures ∙ c.in_default.is) c.requires.sound c.requires.written
