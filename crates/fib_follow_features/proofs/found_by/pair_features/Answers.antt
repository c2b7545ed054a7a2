use Rattle.std.proofs.Common.{◌++◌, ◌∙◌, ap}
use Rattle.std.specs.Prelude.{flat_map}
use Rattle.fib_follow_features.specs.FoundBy.{pair_list, path_features}
use Rattle.fib_follow_features.proofs.Gathered.{gathered}
use Rattle.fib_follow_features.proofs.found_by.pair_features.Goals as goal

pub returns : goal.returns
returns c =
    gathered pair_list c.args.e c.args.cover c.args.pairs.now c.add_paths.new.out.items c.add_pairs.new.out.items c.add.new.out.items
    c.first_paths.result.now c.pair_under.result c.first_paths.ensures
    (c.in_ok-add_paths.ensures ∙ ap (λ l. l ++ flat_map (path_features c.args.e) c.first_paths.result.now) c.new-out.ensures.items)
    c.in_ok-add_pairs.ensures c.pair_under.ensures c.in_ok-add.ensures
