use Rattle.std.proofs.Common.{arith, ◌∙◌}
use Rattle.fib_resolve_pairs.proofs.Covering.{best_found, best_none}
use Rattle.fib_urpf.proofs.urpf.best_of.Goals as goal

pub returns-in-Some : goal.returns-in-Some
returns-in-Some c = λ S same. best_found S c.args.members.now c.args.addr (omega arith) c.len-count.ensures.prefixes same c.in-Some.prefix c.in-Some.ensures

pub returns-in-None : goal.returns-in-None
returns-in-None c = λ S same. c.masked.ensures ∙ best_none S c.args.members.now c.args.addr (omega arith) c.len-count.ensures.prefixes same c.in-None.ensures
