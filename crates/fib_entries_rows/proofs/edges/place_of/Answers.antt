use Rattle.std.proofs.Common.{rules, ◌≡◌, List, [], ◌∷◌, map, Some, refl, sym, ap, ◌∙◌, subst}
use Rattle.std.proofs.lemmas.List.Sorted.{answers_always}
use Rattle.fib_addr.specs.Prefixes.{Prefix}
use Rattle.fib_cover.specs.Covers.{IsAscending}
use Rattle.fib_entries_rows.proofs.Looking.{found_key, no_key}
use Rattle.fib_entries_rows.proofs.edges.place_of.Goals as goal

same_list : (xs : List Prefix) → map (λ q. q) xs ≡ xs
same_list [] = refl
same_list (x ∷ xs) = ap (λ l. x ∷ l) (same_list xs)

pub returns-in-Ok-clause-found : goal.returns-in-Ok-clause-found
returns-in-Ok-clause-found c =
    let r = found_key (λ q. q) c.args.order.now c.args.p c.in-Ok.place c.in-Ok.ensures.bound (c.in-Ok.ensures.position (λ q. q) (answers_always _ _ _ (λ f a r g called. search rules))) in
    r.1 ∙ ap Some r.2

pub returns-in-Err-clause-none : goal.returns-in-Err-clause-none
returns-in-Err-clause-none c = λ d.
    no_key (λ q. q) c.args.order.now c.args.p c.in-Err.field-0 (subst IsAscending (sym (same_list c.args.order.now)) c.requires)
    (c.in-Err.ensures.position (λ q. q) (answers_always _ _ _ (λ f a r g called. search rules))) c.args.p d refl
