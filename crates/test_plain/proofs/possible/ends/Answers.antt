use Rattle.std.proofs.Common.{◌≡◌, List, [], ◌∷◌, ◌++◌, ◌∙◌, ap}
use Rattle.std.specs.Prelude.{filter_map}
use Rattle.fib_resolve.specs.declared.types.End.{End}
use Rattle.fib_resolve.specs.declared.types.End.TheVariants as answers
use Rattle.test_plain.specs.inner.Exits.{exits, exit_end}
use Rattle.test_plain.specs.declared.possible.Exit.{Exit}
use Rattle.test_plain.proofs.Exits.{ends_are}
use Rattle.test_plain.proofs.possible.ends.Goals as goal

pub returns : goal.returns
returns c =
    let S = c.args.view.now in
    let all : c.as_slice.result.now ≡ exits S = c.as_slice.ensures.value ∙ c.in_ok-all.ensures in
    let found : c.as_slice-2.result.now ≡ filter_map (exit_end S) (exits S) =
    c.as_slice-2.ensures.value ∙ (c.in_ok-found.ensures ∙ ap (λ (xs : List Exit). filter_map (exit_end S) xs) all) in
    let drop : c.push.new.self.items ≡ answers.Drop ∷ [] = c.in_ok-push.ensures.items ∙ ap (λ (xs : List End). xs ++ answers.Drop ∷ []) c.new-out.ensures.items in
    c.in_ok-extend_from_slice.ensures.items ∙ (ap (λ (xs : List End). xs ++ c.as_slice-2.result.now) drop
    ∙ (ap (λ (xs : List End). (answers.Drop ∷ []) ++ xs) found ∙ ends_are S))
