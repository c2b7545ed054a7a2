-- A graph, and one edge more.
use Rattle.std.proofs.Common.{arith, ◌≡◌, ◌≢◌, ℕ, ◌<◌, ◌↔◌, inl, inr, List, [], ◌∷◌, ◌++◌, length, refl, sym, ◌∙◌, ap, subst, get_or-set_same, get_or-set_other, length-set}
use Rattle.std.specs.Prelude.{Contains}
use Rattle.std.proofs.lemmas.List.Elements.{Contains-push, Contains-push_cases, Contains-append_left}
use Rattle.fib_reach.specs.Walks.{Plus}
use Rattle.fib_reach.specs.Graphs.{next_of, Edge, with_edge}
use Rattle.fib_reach.specs.inner.Visits.{IsGraph}
use Rattle.fib_reach.proofs.Visits.{same_or_not}

module _ (g : List (List ℕ)) (x y : ℕ) (x_in : x < length g) where
  next_at : (q : ℕ) → q ≡ x → next_of (with_edge g x y) q ≡ next_of g x ++ y ∷ []
  next_at q e = ap (λ (k : ℕ). next_of (with_edge g x y) k) e ∙ rw get_or-set_same refl

  next_else : (q : ℕ) → q ≢ x → next_of (with_edge g x y) q ≡ next_of g q
  next_else q ne = rw get_or-set_other refl

  -- the edges are those of before and the new one
  pub with_edge-iff : (a b : ℕ) → Edge (with_edge g x y) a b ↔ Plus (Edge g) x y a b
  with_edge-iff a b = (there, back)
    where
      there : Edge (with_edge g x y) a b → Plus (Edge g) x y a b
      there e = elim (same_or_not a x) [
        | inl is ↦ elim (Contains-push_cases (next_of g x) y b (subst (λ l. Contains l b) (next_at a is) e)) [
          | inl old ↦ inl (subst (λ (k : ℕ). Edge g k b) (sym is) old)
          | inr is_y ↦ inr (is, sym is_y)
        ]
        | inr ne ↦ inl (subst (λ l. Contains l b) (next_else a ne) e)
      ]

      back : Plus (Edge g) x y a b → Edge (with_edge g x y) a b
      back (inl e) = elim (same_or_not a x) [
        | inl is ↦ subst (λ l. Contains l b) (sym (next_at a is)) (Contains-append_left (next_of g x) (y ∷ []) b (subst (λ (k : ℕ). Edge g k b) is e))
        | inr ne ↦ subst (λ l. Contains l b) (sym (next_else a ne)) e
      ]
      back (inr p) = subst (λ l. Contains l b) (sym (next_at a p.0)) (subst (λ (k : ℕ). Contains (next_of g x ++ y ∷ []) k) (sym p.1) (Contains-push (next_of g x) y))

  pub graph-with_edge : (nodes : ℕ) → y < length g → IsGraph g nodes → IsGraph (with_edge g x y) nodes
  graph-with_edge nodes y_in s =
      let same : length (with_edge g x y) ≡ length g = length-set g x (next_of g x ++ y ∷ []) in
      record {
        closed = λ a b e. elim ((with_edge-iff a b).0 e) [ inl old ↦ omega (arith, same, s.closed a b old) | inr p ↦ omega (arith, same, p.1, y_in) ];
        few = omega (arith, same, s.few);
        size = s.size ∙ sym same;
      }
