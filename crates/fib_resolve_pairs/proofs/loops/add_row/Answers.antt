use Rattle.std.proofs.Common.{◌≡◌, ℕ, ◌+◌, ◌<◌, ◌∙◌, ap, sym, List, [], ◌∷◌, ◌++◌, map, take, length, get_or, Option, Some, None, refl, append_assoc}
use Rattle.std.specs.Prelude.{filter_map, option_to_list}
use Rattle.std.proofs.lemmas.List.{take_more, map-append}
use Rattle.std.proofs.lemmas.List.Elements.{filter_map-append}
use Rattle.fib_cover.proofs.Sets.{take_whole}
use Rattle.fib_resolve.specs.declared.types.Path.{Path}
use Rattle.fib_resolve_pairs.specs.inner.Edges.{goal_number, next_numbers}
use Rattle.fib_resolve_pairs.proofs.loops.add_row.Goals as goal

one_of : (f : Path → Option ℕ) (p : Path) (o : Option ℕ) → f p ≡ o → filter_map f (p ∷ []) ≡ option_to_list o
one_of f p (Some n) is = rw is refl
one_of f p None is = rw is refl

-- the edges of one path more
row_more : (f : Path → Option ℕ) (n : ℕ) (ps : List Path) (i : ℕ) (p : Path) (old out new : List (ℕ × ℕ)) → i < length ps → p ≡ get_or ps i p → out ≡ old ++ map (λ to. (n, to)) (filter_map f (take i ps))
    → new ≡ out ++ map (λ to. (n, to)) (option_to_list (f p)) → new ≡ old ++ map (λ to. (n, to)) (filter_map f (take (i + 1) ps))
row_more f n ps i p old out new lt is before after =
    let more : take (i + 1) ps ≡ take i ps ++ p ∷ [] = take_more ps i p lt ∙ ap (λ x. take i ps ++ x ∷ []) (sym is) in
    let hops : filter_map f (take (i + 1) ps) ≡ filter_map f (take i ps) ++ option_to_list (f p) =
    ap (filter_map f) more ∙ (filter_map-append f (take i ps) (p ∷ []) ∙ ap (λ l. filter_map f (take i ps) ++ l) (one_of f p (f p) refl)) in
    after ∙ (ap (λ l. l ++ map (λ to. (n, to)) (option_to_list (f p))) before
    ∙ (append_assoc old (map (λ to. (n, to)) (filter_map f (take i ps))) (map (λ to. (n, to)) (option_to_list (f p)))
    ∙ ap (λ l. old ++ l) (sym (map-append (λ to. (n, to)) (filter_map f (take i ps)) (option_to_list (f p))) ∙ ap (map (λ to. (n, to))) (sym hops))))

pub loop-p-preserved : goal.loop-p-preserved
loop-p-preserved c =
    row_more (λ p. goal_number c.args.known.now c.args.e p.kind) c.args.from c.chosen-p-items.result.now c.loop-p.p-index c.p-item.result c.args.out.now.items c.loop-p.out.items c.add_edge.new.out.items
    c.loop-p-test.true c.p-item.is c.loop-p.invariant (c.in_ok-add_edge.ensures ∙ ap (λ o. c.loop-p.out.items ++ map (λ to. (c.args.from, to)) (option_to_list o)) c.goal_number.ensures.value)

pub returns : goal.returns
unfolding next_numbers
returns c =
    c.loop-p.invariant ∙ ap (λ ps. c.args.out.now.items ++ map (λ to. (c.args.from, to)) (filter_map (λ p. goal_number c.args.known.now c.args.e p.kind) ps))
    (take_whole c.chosen-p-items.result.now c.loop-p.p-index c.loop-p-test.false ∙ c.chosen-p-items.ensures)
