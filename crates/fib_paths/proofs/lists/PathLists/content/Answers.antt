use Rattle.std.proofs.Common.{Some, IsSome, sym, ap, ◌∙◌, subst}
use Rattle.std.specs.Prelude.{option_map}
use Rattle.fib_base_interned.specs.Interned.{kept_of}
use Rattle.fib_paths.proofs.Listing.{some_listed, content_listed}
use Rattle.fib_paths.proofs.lists.PathLists.content.Goals as goal

pub content-requires : goal.content-requires
content-requires c = some_listed c.self.inside.rows c.id.inside.0 (subst (λ v. IsSome (kept_of v c.id.inside.0)) (sym c.self.view_is) (subst (λ n. IsSome (kept_of c.args.self.now n)) (sym c.id.view_is) c.requires))

pub returns : goal.returns
returns c =
    let at = content_listed c.self.inside.rows c.id.inside.0 c.content.result.now c.content.ensures in
    ap (λ n. option_map (λ k. k.content) (kept_of c.args.self.now n)) (sym c.id.view_is)
    ∙ (ap (λ v. option_map (λ k. k.content) (kept_of v c.id.inside.0)) (sym c.self.view_is) ∙ (at ∙ ap Some (sym c.as_slice.ensures.value)))
