-- Copies of edges from plies: none leaves a ply into which no edge leads. A is the type of copies; Q says which are meant.
use Rattle.std.proofs.Common.{arith, ◌≡◌, ◌≢◌, ℕ, zero, suc, inl, inr, List, [], ◌∷◌, ◌++◌, set, take, Option, Some, None, refl, sym, ◌∙◌, ap, subst, get_or-set_other, append_assoc}
use Rattle.std.specs.Prelude.{Contains}
use Rattle.std.proofs.lemmas.Bool.{cases_eq}
use Rattle.std.proofs.lemmas.List.{append-nil}
use Rattle.std.proofs.lemmas.List.Elements.{Contains-append_left, Contains-append_right}
use Rattle.fib_union.specs.Unions.{owner, edge_at}
use Rattle.fib_union.specs.Backed.{LeadsIn, AreBacked}

module _ {A : Type 0} (cell to : A → ℕ) (Q : A → Type 0) where
  -- more current edges and later copies back no less
  backed_more : (edges edges' : List (Option ℕ)) → (newer newer' rs : List A) → ((x : ℕ) (later : List A) → LeadsIn to edges (newer ++ later) x → LeadsIn to edges' (newer' ++ later) x) → AreBacked cell to Q edges newer rs → AreBacked cell to Q edges' newer' rs
  backed_more edges edges' newer newer' [] f h = tt
  backed_more edges edges' newer newer' (r ∷ rs) f h = (
    λ p. subst (λ (l : List A). LeadsIn to edges' l (owner (cell r))) (append-nil newer') (f (owner (cell r)) [] (subst (λ (l : List A). LeadsIn to edges l (owner (cell r))) (sym (append-nil newer)) (h.0 p))),
    backed_more edges edges' (newer ++ r ∷ []) (newer' ++ r ∷ []) rs
        (λ x later l. subst (λ (c : List A). LeadsIn to edges' c x) (sym (append_assoc newer' (r ∷ []) later)) (f x (r ∷ later) (subst (λ (c : List A). LeadsIn to edges c x) (append_assoc newer (r ∷ []) later) l))) h.1,
  )

  module _ (edges : List (Option ℕ)) (rs : List A) (k : ℕ) (e : Option ℕ) where
    some_same : (a b : ℕ) → Some a ≡ Some b → a ≡ b
    some_same a b f = cc

    -- an edge is retired in a store: its object has a current edge into it from another cell, if it is such a copy
    pub backed_retired : (new : A) → edge_at edges k ≡ Some (to new) → cell new ≡ k → (Q new → (j : ℕ) × (j ≢ k) × (edge_at edges j ≡ Some (owner k))) → AreBacked cell to Q edges [] rs → AreBacked cell to Q (set edges k e) [] (new ∷ rs)
    backed_retired new is at entered h = (
      λ p. (let j = entered p in inl (j.0, get_or-set_other edges k j.0 e None j.1 ∙ (j.2 ∙ ap (λ (i : ℕ). Some (owner i)) (sym at)))),
      backed_more edges (set edges k e) [] (new ∷ []) rs (λ x later l. elim l [
        | inl c ↦ elim (cases_eq c.0 k) [
          | inl same ↦ inr (new, (0, omega arith, refl), some_same (to new) x (sym is ∙ (ap (λ (i : ℕ). edge_at edges i) (sym same) ∙ c.1)))
          | inr ne ↦ inl (c.0, get_or-set_other edges k c.0 e None ne ∙ c.1)
        ]
        | inr q ↦ inr (q.0, Contains-append_right (new ∷ []) later q.0 q.1, q.2)
      ]) h,
    )

    -- none was there, or it leaves at once and no such copy leaves its target
    pub backed_plain : ((y : ℕ) → edge_at edges k ≡ Some y → (r : A) → Contains rs r → Q r → owner (cell r) ≢ y) → AreBacked cell to Q edges [] rs → AreBacked cell to Q (set edges k e) [] rs
    backed_plain none h = plain [] rs (λ r c. c) h
      where
        still : (r : A) (newer : List A) → Contains rs r → Q r → LeadsIn to edges newer (owner (cell r)) → LeadsIn to (set edges k e) newer (owner (cell r))
        still r newer c p (inl j) = elim (cases_eq j.0 k) [
          | inl same ↦ absurd (none (owner (cell r)) (ap (λ (i : ℕ). edge_at edges i) (sym same) ∙ j.1) r c p refl)
          | inr ne ↦ inl (j.0, get_or-set_other edges k j.0 e None ne ∙ j.1)
        ]
        still r newer c p (inr q) = inr q

        plain : (newer os : List A) → ((r : A) → Contains os r → Contains rs r) → AreBacked cell to Q edges newer os → AreBacked cell to Q (set edges k e) newer os
        plain newer [] in_rs b = tt
        plain newer (r ∷ os) in_rs b = (λ p. still r newer (in_rs r (0, omega arith, refl)) p (b.0 p), plain (newer ++ r ∷ []) os (λ s c. in_rs s (suc c.0, omega (arith, c.1), c.2)) b.1)

  -- the oldest copies leave
  pub backed_take : (edges : List (Option ℕ)) (newer rs : List A) (n : ℕ) → AreBacked cell to Q edges newer rs → AreBacked cell to Q edges newer (take n rs)
  backed_take edges newer rs zero h = tt
  backed_take edges newer [] (suc n) h = tt
  backed_take edges newer (r ∷ rs) (suc n) h = (h.0, backed_take edges (newer ++ r ∷ []) rs n h.1)

  -- where no edge leads to an object, no such copy leaves it
  pub backed_free : (edges : List (Option ℕ)) (newer rs : List A) (x : ℕ) → AreBacked cell to Q edges newer rs → (LeadsIn to edges (newer ++ rs) x → ⊥) → (r : A) → Contains rs r → Q r → owner (cell r) ≢ x
  backed_free edges newer [] x h none r c p own = absurd (let lt = c.1 in let bad : ⊥ = omega arith in bad)
  backed_free edges newer (s ∷ rs) x h none r (zero, lt, e) p own = none (grown (h.0 (subst Q (sym e) p)))
    where
      at : owner (cell s) ≡ x
      at = ap (λ (q : A). owner (cell q)) e ∙ own

      grown : LeadsIn to edges newer (owner (cell s)) → LeadsIn to edges (newer ++ s ∷ rs) x
      grown (inl q) = inl (q.0, q.1 ∙ ap (λ (i : ℕ). Some i) at)
      grown (inr q) = inr (q.0, Contains-append_left newer (s ∷ rs) q.0 q.1, q.2 ∙ at)
  backed_free edges newer (s ∷ rs) x h none r (suc i, lt, e) p own =
      backed_free edges (newer ++ s ∷ []) rs x h.1 (λ l. none (subst (λ (c : List A). LeadsIn to edges c x) (append_assoc newer (s ∷ []) rs) l)) r (i, omega arith, e) p own
