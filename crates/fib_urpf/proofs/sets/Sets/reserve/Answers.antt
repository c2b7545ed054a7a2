use mathlib.Core.Path.{fun_ext}
use Rattle.std.proofs.Common.{ap, ◌∙◌}
use Rattle.fib_urpf.specs.Sets.{Held, set_of}
use Rattle.fib_urpf.proofs.sets.Sets.reserve.Goals as goal

pub returns-clause-kept : goal.returns-clause-kept
returns-clause-kept c = fun_ext (λ e. c.reserve.ensures.entries.2 e ∙ ap (λ (h : Held). set_of h.rows e) c.self.view_is)
