use Rattle.std.proofs.Common.{arith, ◌∙◌, ap}
use Rattle.fib_resolve.specs.Pairs.{best}
use Rattle.fib_resolve_pairs.proofs.Covering.{best_found, best_none}
use Rattle.fib_resolve_pairs.proofs.meaning.Meaning.best.Goals as goal

pub returns-in-Some : goal.returns-in-Some
returns-in-Some c =
    let s = c.self.inside in
    best_found s.known s.order c.args.addr (omega arith) c.len-count.ensures.prefixes c.self.invariant.order_is c.in-Some.prefix c.in-Some.ensures ∙ ap (λ S. best S c.args.addr) c.self.view_is

pub returns-in-None : goal.returns-in-None
returns-in-None c =
    let s = c.self.inside in
    c.masked.ensures ∙ best_none s.known s.order c.args.addr (omega arith) c.len-count.ensures.prefixes c.self.invariant.order_is c.in-None.ensures ∙ ap (λ S. best S c.args.addr) c.self.view_is
