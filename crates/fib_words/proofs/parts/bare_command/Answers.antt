use Rattle.fib_words.proofs.Commands.{flagged}
use Rattle.fib_words.proofs.parts.bare_command.Goals as goal

pub returns : goal.returns
returns c = flagged _ _ _ _ c.new.ensures.app c.no_binary_name.ensures c.disable_help_flag.ensures
