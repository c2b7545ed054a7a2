use Rattle.std.proofs.Common.{List, take, ap, ◌∙◌}
use Rattle.std.specs.Set.{is_member}
use Rattle.fib_addr.specs.Prefixes.{Prefix, same_prefix}
use Rattle.fib_entries_rows.proofs.Holding.{new_behind}
use Rattle.fib_entries_rows.proofs.dependants.Dependants.of.Goals as goal

pub put-requires : goal.put-requires
put-requires c =
    ap (λ (l : List Prefix). is_member same_prefix l c.p-item.result) c.loop-p.invariant
    ∙ (ap (λ (p : Prefix). is_member same_prefix (take c.loop-p.p-index c.args.list.now) p) c.p-item.is ∙ new_behind c.args.list.now c.loop-p.p-index _ c.requires c.loop-p-test.true)
