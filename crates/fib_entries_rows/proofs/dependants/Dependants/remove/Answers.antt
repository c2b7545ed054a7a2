use Rattle.std.proofs.Common.{List, subst}
use Rattle.fib_addr.specs.Prefixes.{Prefix}
use Rattle.fib_entries_rows.specs.inner.Dependants.{IsWithout}
use Rattle.fib_entries_rows.proofs.Holding.{without_by}
use Rattle.fib_entries_rows.proofs.dependants.Dependants.remove.Goals as goal

pub returns : goal.returns
returns c =
    subst (λ (l : List Prefix). IsWithout c.args.p l c.swap_remove-was_there.new.self.keys) c.self.view_is
    (without_by c.args.p c.self.inside.held c.swap_remove-was_there.new.self c.swap_remove-was_there.ensures.updates c.swap_remove-was_there.ensures.unique)
