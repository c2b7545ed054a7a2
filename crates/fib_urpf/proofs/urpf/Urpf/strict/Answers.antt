use Rattle.std.proofs.Common.{◌∙◌}
use Rattle.fib_urpf.proofs.urpf.Urpf.strict.Goals as goal

pub returns : goal.returns
returns c = λ S rank for. c.has.ensures ∙ c.checked.ensures S rank for c.args.interface c.requires.number
