use Rattle.std.proofs.Common.{ap, ◌∙◌}
use Rattle.fib_urpf.specs.Sets.{Held, set_of}
use Rattle.fib_urpf.proofs.Gathered.{not_same}
use Rattle.fib_urpf.proofs.sets.Sets.keep.Goals as goal

pub returns-then-is_empty-clause-others : goal.returns-then-is_empty-clause-others
returns-then-is_empty-clause-others c = λ e ne. c.remove.ensures.updates.2 e (not_same e c.args.prefix ne) ∙ ap (λ (h : Held). set_of h.rows e) c.self.view_is

pub returns-clause-others : goal.returns-clause-others
returns-clause-others c = λ e ne. c.in-Ok.ensures.updates.2 e (not_same e c.args.prefix ne) ∙ ap (λ (h : Held). set_of h.rows e) c.self.view_is
