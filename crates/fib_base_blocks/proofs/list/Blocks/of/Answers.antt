use Rattle.std.proofs.Common.{◌≡◌, ◌∷◌, [], ◌++◌, length, sym, ap, ◌∙◌, append_assoc, append-nil, arith}
use Rattle.std.specs.Prelude.{insert}
use Rattle.std.specs.Vec.Iter.{into_iter_items}
use Rattle.std.proofs.lemmas.List.{nil_from_length}
use Rattle.std.proofs.lemmas.List.Edits.{insert_end}
use Rattle.fib_base_blocks.proofs.list.Blocks.of.Goals as goal

pub loop-element-preserved : goal.loop-element-preserved
loop-element-preserved g c =
    let at = c.loop-element in
    let x = c.in-Some.element in
    let steps : into_iter_items at.element-iterator ≡ x ∷ into_iter_items c.next.new.self = c.in-Some.ensures.steps.0 in
    let more : c.insert.new.self ≡ at.out ++ (x ∷ []) = c.in_ok-insert.ensures.ok ∙ (ap (λ n. insert at.out n x) c.len-end.ensures ∙ insert_end at.out x) in (
      ap (λ l. l ++ into_iter_items c.next.new.self) more ∙ (append_assoc at.out (x ∷ []) (into_iter_items c.next.new.self) ∙ (ap (λ l. at.out ++ l) (sym steps) ∙ at.invariant.0)),
      let was = at.invariant.1 in
          let gone = c.in-Some.ensures.steps.1 in
          let short = ap length steps in
          omega arith,
    )

pub returns : goal.returns
returns g c =
    let at = c.loop-element in
    let none = c.in-None.ensures.steps in
    let empty : into_iter_items at.element-iterator ≡ [] = nil_from_length _ (sym at.invariant.1 ∙ none.0) in
    sym (append-nil at.out) ∙ (ap (λ l. at.out ++ l) (sym empty) ∙ (at.invariant.0 ∙ c.into_iter-element-iterator.ensures.into_iter_gives.0))
