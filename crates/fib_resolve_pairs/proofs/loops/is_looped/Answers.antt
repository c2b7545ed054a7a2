use Rattle.std.proofs.Common.{◌∙◌, sym, ap}
use Rattle.fib_resolve_pairs.specs.Numbers.{number_in}
use Rattle.fib_resolve_pairs.proofs.Cycles.{looped_found}
use Rattle.fib_resolve_pairs.proofs.Edges.{looped_none}
use Rattle.fib_resolve_pairs.proofs.loops.is_looped.Goals as goal

pub returns-in-Some : goal.returns-in-Some
returns-in-Some c =
    let S = c.args.known.now in
    let t = ap (number_in S) (sym c.host.ensures) ∙ (sym c.number.ensures.value ∙ c.in-Some.is) in
    c.contains.ensures ∙ looped_found S c.args.e c.args.a c.in-Some.k c.args.number c.args.on_cycles.now.keys c.requires.cycles t c.requires.number c.requires.there

pub returns-in-None : goal.returns-in-None
returns-in-None c =
    let S = c.args.known.now in
    sym (looped_none S c.args.e c.args.a c.args.number (ap (number_in S) (sym c.host.ensures) ∙ (sym c.number.ensures.value ∙ c.in-None.is)) c.requires.number)
