use Rattle.std.proofs.Common.{◌∙◌, ap, ◌&&◌, ◌||◌, sym}
use Rattle.fib_entries_rows.specs.inner.Looping.{has_ends, same_ends}
use Rattle.fib_entries_rows.proofs.Loopings.{put_ends}
use Rattle.fib_follow_part.proofs.edges.add_if.Goals as goal

pub returns : goal.returns
returns c = λ e t.
    let put = same_ends (c.args.from, c.args.to) (e, t) in
    let was = has_ends c.args.held.now.keys e t in
    put_ends was put (c.in_ok-insert.ensures.updates.0 (e, t)) ∙ ap (λ b. was || (b && put)) (sym c.if-not-test.false)
