use Rattle.std.proofs.Common.{◌++◌, ◌∙◌, ap}
use Rattle.std.specs.Prelude.{flat_map}
use Rattle.fib_follow_features.specs.FoundBy.{held_list, path_features}
use Rattle.fib_follow_features.proofs.Gathered.{gathered}
use Rattle.fib_follow_features.proofs.found_by.list_features.Goals as goal

pub returns : goal.returns
returns c = λ cover is.
    gathered (held_list c.args.lists.now) c.args.e cover c.args.held.now c.add_paths.new.out.items c.add_held.new.out.items c.add.new.out.items
    c.first_held.result.now c.args.under c.first_held.ensures
    (c.in_ok-add_paths.ensures ∙ ap (λ l. l ++ flat_map (path_features c.args.e) c.first_held.result.now) c.new-out.ensures.items)
    c.in_ok-add_held.ensures is c.in_ok-add.ensures
