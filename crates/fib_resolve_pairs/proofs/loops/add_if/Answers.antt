use Rattle.std.proofs.Common.{◌∙◌, ap, ◌&&◌, ◌||◌, sym, Bool}
use Rattle.fib_resolve_pairs.specs.inner.Edges.{same_edge, has_edge}
use Rattle.fib_resolve_pairs.proofs.Cycles.{put_edge}
use Rattle.fib_resolve_pairs.proofs.loops.add_if.Goals as goal

pub returns : goal.returns
returns c = λ d.
    put_edge c.args.looped.now.keys c.insert.new.self.keys c.args.edge d (c.in_ok-insert.ensures.updates.0 d)
    ∙ ap (λ (b : Bool). has_edge c.args.looped.now.keys d || (b && same_edge c.args.edge d)) (sym c.if-not-test.false)
