use Rattle.std.proofs.Common.{subst, sym, ◌∙◌, ◌≤◌}
use Rattle.std.specs.List.{AllByRecursion}
use Rattle.fib_resolve.specs.Tables.{IsSound}
use Rattle.fib_resolve.proofs.Sound.{short_addresses}
use Rattle.fib_resolve_changes.specs.Affected.{is_own}
use Rattle.fib_follow_pairs.proofs.BaseParts.{each_short}
use Rattle.fib_follow_pairs.proofs.base.looked_up.Goals as goal

pub add_own-requires : goal.add_own-requires
add_own-requires c =
    let sound = subst IsSound c.tables-tables.ensures.value c.tables-tables.ensures.sound in
    subst (AllByRecursion (λ a. a.len ≤ 32)) (sym (c.as_slice.ensures.value ∙ c.in_ok-addresses.ensures))
    (each_short c.args.config.now.tables.addresses (λ a. is_own a c.args.prefix) (short_addresses c.args.config.now.tables sound))
