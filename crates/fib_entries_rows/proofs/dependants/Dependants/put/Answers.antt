use Rattle.std.proofs.Common.{List, ◌++◌, ◌∷◌, [], ap, ◌∙◌}
use Rattle.std.specs.Set.{is_member}
use Rattle.fib_addr.specs.Prefixes.{Prefix, same_prefix}
use Rattle.fib_entries_rows.proofs.Holding.{put_last}
use Rattle.fib_entries_rows.proofs.dependants.Dependants.put.Goals as goal

pub returns-clause-ok : goal.returns-clause-ok
returns-clause-ok c =
    c.in_ok-insert.ensures.keys
    ∙ (put_last c.self.inside.held.keys c.args.p (ap (λ (l : List Prefix). is_member same_prefix l c.args.p) c.self.view_is ∙ c.requires) ∙ ap (λ (l : List Prefix). l ++ c.args.p ∷ []) c.self.view_is)
