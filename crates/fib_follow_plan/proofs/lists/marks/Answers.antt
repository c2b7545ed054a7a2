use Rattle.std.proofs.Common.{◌≡◌, [], ◌∷◌, ◌++◌, List, length, map, append-nil, refl, sym, ap, ◌∙◌, arith}
use Rattle.std.specs.Vec.Iter.{into_iter_items}
use Rattle.std.proofs.lemmas.List.{nil_from_length}
use Rattle.fib_follow_told.specs.declared.body.Body.{Body}
use Rattle.fib_follow_write.specs.declared.plan.Marks.{Marks}
use Rattle.fib_follow_plan.specs.Made.{marks_of}
use Rattle.fib_follow_plan.proofs.lists.marks.Goals as goal

pushed : {X : Type 0} (xs : List X) (y : X) (zs : List X) → (xs ++ y ∷ []) ++ zs ≡ xs ++ y ∷ zs
pushed [] y zs = refl
pushed (x ∷ xs) y zs = ap (λ l. x ∷ l) (pushed xs y zs)

pub loop-body-preserved : goal.loop-body-preserved
loop-body-preserved c =
    let at = c.loop-body in
    let f = marks_of c.args.view.now c.args.part.now c.args.ranks.now in
    let x : Body = c.in-Some.body in
    let left : List Body = into_iter_items c.next.new.self in
    let steps : into_iter_items at.body-iterator ≡ x ∷ left = c.in-Some.ensures.steps.0 in
    record {
      whole = ap (λ (l : List Marks). l ++ map f left) (c.in_ok-push.ensures.ok ∙ ap (λ (m : Marks). at.out ++ m ∷ []) c.marks_of.ensures)
          ∙ (pushed at.out (f x) (map f left) ∙ (ap (λ (l : List Body). at.out ++ map f l) (sym steps) ∙ at.invariant.whole));
      left = (let was = at.invariant.left in let gone = c.in-Some.ensures.steps.1 in let short = ap length steps in omega arith);
    }

pub returns : goal.returns
returns c =
    let at = c.loop-body in
    let f = marks_of c.args.view.now c.args.part.now c.args.ranks.now in
    let empty : into_iter_items at.body-iterator ≡ [] = nil_from_length _ (sym at.invariant.left ∙ c.in-None.ensures.steps.0) in
    sym (append-nil at.out) ∙ (ap (λ (l : List Body). at.out ++ map f l) (sym empty) ∙ at.invariant.whole)
