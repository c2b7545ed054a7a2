use Rattle.std.proofs.Common.{◌∙◌, ap, sym}
use Rattle.fib_resolve.specs.Pairs.{attached_of}
use Rattle.fib_follow_pairs.specs.inner.Compared.{paths_held}
use Rattle.fib_follow_pairs.proofs.Made.{attached_row}
use Rattle.fib_follow_pairs.proofs.compare.attached_in.Goals as goal

pub returns : goal.returns
returns c v S lists stands there short =
    c.attached_of.ensures
    ∙ (ap attached_of (c.paths_held.ensures ∙ ap (paths_held c.args.lists.now) c.pairs.ensures ∙ ap (λ l. paths_held l c.args.r.now.pairs) (sym lists))
    ∙ attached_row v S c.args.r.now stands there short)
