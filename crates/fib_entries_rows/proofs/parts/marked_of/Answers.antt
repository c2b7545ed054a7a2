use Rattle.std.proofs.Common.{ℕ, ◌≡◌, ◌+◌, ◌<◌, ◌∙◌, List, [], ◌∷◌, ◌++◌, ap, sym, map, take, length, get_or}
use Rattle.std.proofs.lemmas.List.{take_more, map-append}
use Rattle.fib_cover.proofs.Sets.{take_whole}
use Rattle.fib_resolve.specs.Aims.{marked, marked_list}
use Rattle.fib_resolve.specs.declared.aims.Marked.{Marked}
use Rattle.fib_resolve.specs.declared.types.Path.{Path}
use Rattle.fib_entries_rows.proofs.parts.marked_of.Goals as goal

-- the mark of one path more
mark_more : (f : Path → Marked) (ps : List Path) (i : ℕ) (p : Path) (m : Marked) (out new : List Marked) → i < length ps → p ≡ get_or ps i p → m ≡ f p → out ≡ map f (take i ps) → new ≡ out ++ m ∷ [] → new ≡ map f (take (i + 1) ps)
mark_more f ps i p m out new lt at is was put =
    put ∙ (ap (λ (l : List Marked). l ++ m ∷ []) was ∙ (ap (λ (x : Marked). map f (take i ps) ++ x ∷ []) is
    ∙ sym (ap (map f) (take_more ps i p lt ∙ ap (λ (x : Path). take i ps ++ x ∷ []) (sym at)) ∙ map-append f (take i ps) (p ∷ []))))

pub loop-place-preserved : goal.loop-place-preserved
loop-place-preserved c =
    mark_more (marked c.args.meaning.now c.args.e) c.args.paths.now c.loop-place.place c.index-paths-place.result c.marked.result c.loop-place.out.items c.push.new.self.items c.loop-place-test.true
    c.index-paths-place.is c.marked.ensures c.loop-place.invariant c.in_ok-push.ensures.items

pub returns : goal.returns
unfolding marked_list
returns c =
    c.from_vec.ensures ∙ (c.loop-place.invariant ∙ (ap (map (marked c.args.meaning.now c.args.e)) (take_whole c.args.paths.now c.loop-place.place c.loop-place-test.false ∙ c.requires.paths)))
