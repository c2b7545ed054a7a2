use Rattle.std.proofs.Common.{List, Some, sym, ap, ◌∙◌, subst}
use Rattle.std.specs.Prelude.{option_map, Contains}
use Rattle.fib_base_interned.specs.Interned.{kept_of}
use Rattle.fib_paths.specs.PathLists.{KeptList}
use Rattle.fib_paths.proofs.SamePaths.{lists_are}
use Rattle.fib_paths.proofs.Listing.{content_listed, new_of, not_listed}
use Rattle.fib_paths.proofs.lists.PathLists.find.Goals as goal

pub returns-in-Some-clause-found : goal.returns-in-Some-clause-found
returns-in-Some-clause-found c =
    let f = c.in-Some.ensures.found in
    ap (λ (l : List KeptList). option_map (λ k. k.content) (kept_of l c.in-Some.id)) (sym c.self.view_is)
    ∙ (content_listed c.self.inside.rows c.in-Some.id f.0.content (ap (option_map (λ k. k.content)) f.1) ∙ ap Some (sym (lists_are c.args.content.now f.0.content.items f.2)))

pub returns-in-None-clause-absent : goal.returns-in-None-clause-absent
returns-in-None-clause-absent c = λ k d. not_listed c.self.inside.rows c.args.content.now (new_of c.self.inside.rows c.args.content.now c.in-None.ensures.absent) k (subst (λ (l : List KeptList). Contains l k) (sym c.self.view_is) d)
