use Rattle.std.proofs.Common.{arith, ◌∙◌, ap}
use Rattle.fib_resolve.specs.Pairs.{cover}
use Rattle.fib_resolve_pairs.proofs.Covering.{cover_found, cover_none}
use Rattle.fib_resolve_pairs.proofs.covers.Covers.cover.Goals as goal

pub returns-in-Some : goal.returns-in-Some
returns-in-Some c =
    let s = c.self.inside in
    cover_found s.tables.now s.short c.args.addr (omega arith) c.len-count.ensures.prefixes c.self.invariant.short_are c.in-Some.prefix c.in-Some.ensures ∙ ap (λ S. cover S c.args.addr) c.self.view_is

pub returns-in-None : goal.returns-in-None
returns-in-None c =
    let s = c.self.inside in
    c.masked.ensures ∙ cover_none s.tables.now s.short c.args.addr (omega arith) c.len-count.ensures.prefixes c.self.invariant.short_are c.in-None.ensures ∙ ap (λ S. cover S c.args.addr) c.self.view_is
