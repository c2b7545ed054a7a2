use Rattle.std.proofs.Common.{◌≡◌, [], ◌∷◌, List, length, map, refl, sym, ap, subst, ◌∙◌, arith}
use Rattle.std.specs.Vec.Iter.{into_iter_items}
use Rattle.std.proofs.lemmas.List.{nil_from_length}
use Rattle.fib_entries_rows.proofs.Renewing.{map_twice}
use Rattle.fib_entries_rows.specs.Known.{prefix_of}
use Rattle.fib_cover.specs.Covers.{IsAscending}
use Rattle.fib_follow_write.specs.Written.{changed, marked}
use Rattle.fib_follow_write.specs.declared.plan.Marks.{Marks}
use Rattle.fib_follow_write.proofs.Upon.{map_same, mapped_ordered, marked_prefix}
use Rattle.fib_follow_write.proofs.bodies.mark_all.Goals as goal

pub mark-requires : goal.mark-requires
mark-requires c = c.loop-entry.invariant.ordered

pub loop-entry-preserved : goal.loop-entry-preserved
loop-entry-preserved c =
    let at = c.loop-entry in
    let x : Marks = c.in-Some.entry in
    let left : List Marks = into_iter_items c.next.new.self in
    let steps : into_iter_items at.entry-iterator ≡ x ∷ left = c.in-Some.ensures.steps.0 in
    record {
      whole = ap (map (changed marked left)) c.mark.ensures
          ∙ (map_twice (changed marked left) (marked x) at.rows ∙ (ap (λ (l : List Marks). map (changed marked l) at.rows) (sym steps) ∙ at.invariant.whole));
      left = (let was = at.invariant.left in let gone = c.in-Some.ensures.steps.1 in let short = ap length steps in omega arith);
      ordered = subst (λ l. IsAscending (map prefix_of l)) (sym c.mark.ensures) (mapped_ordered (marked x) (marked_prefix x) at.rows at.invariant.ordered);
    }

pub returns : goal.returns
returns c =
    let at = c.loop-entry in
    let empty : into_iter_items at.entry-iterator ≡ [] = nil_from_length _ (sym at.invariant.left ∙ c.in-None.ensures.steps.0) in
    sym (map_same (λ r. r) (λ r. refl) at.rows)
    ∙ (ap (λ (l : List Marks). map (changed marked l) at.rows) (sym empty)
    ∙ (at.invariant.whole ∙ ap (λ (l : List Marks). map (changed marked l) c.args.rows.now) c.into_iter-entry-iterator.ensures.into_iter_gives.0))
