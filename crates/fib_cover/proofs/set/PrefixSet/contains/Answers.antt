use Rattle.fib_cover.proofs.Order.{contains_iff}
use Rattle.fib_cover.proofs.set.PrefixSet.contains.Goals as goal

pub returns : goal.returns
returns c = rw (c.contains.ensures, ← c.self.view_is) (contains_iff c.self.inside.members c.args.prefix)
