-- A graph made of a list of edges, an edge at a time.
use Rattle.std.proofs.Common.{arith, ◌≡◌, ℕ, ◌<◌, ◌↔◌, ◌⊎◌, inl, inr, List, [], ◌∷◌, ◌++◌, sym, ◌∙◌, ap, subst, length-set}
use Rattle.std.specs.Prelude.{Contains}
use Rattle.std.proofs.lemmas.List.Elements.{All-contains, Contains-push, Contains-push_cases, Contains-append_left}
use Rattle.fib_reach.specs.Graphs.{IsClosed, with_edge, next_of}
use Rattle.fib_reach.proofs.Graphs.{with_edge-iff}
use Rattle.fib_loops.specs.inner.Entering.{Joins, JoinsBack}
use Rattle.fib_loops.specs.Loops.{AreEdges}

-- one more pair at the end of a list
push_iff : (edges : List (ℕ × ℕ)) (e : ℕ × ℕ) (x y : ℕ) → Contains (edges ++ e ∷ []) (x, y) ↔ Contains edges (x, y) ⊎ ((x ≡ e.0) × (y ≡ e.1))
push_iff edges e x y = (
  λ c. elim (Contains-push_cases edges e (x, y) c) [ inl old ↦ inl old | inr is ↦ inr (ap (λ (p : ℕ × ℕ). p.0) (sym is), ap (λ (p : ℕ × ℕ). p.1) (sym is)) ],
  λ h. elim h [
    | inl old ↦ Contains-append_left edges (e ∷ []) (x, y) old
    | inr is ↦ (let same : e ≡ (x, y) = sym (ap (λ (a : ℕ). (a, y)) is.0 ∙ ap (λ (b : ℕ). (e.0, b)) is.1) in subst (λ (p : ℕ × ℕ). Contains (edges ++ e ∷ []) p) same (Contains-push edges e))
  ],
)

pub joins_more : (g : List (List ℕ)) (nodes : ℕ) (edges : List (ℕ × ℕ)) (e : ℕ × ℕ) → e.0 < nodes → Joins g nodes edges → Joins (with_edge g e.0 e.1) nodes (edges ++ e ∷ [])
joins_more g nodes edges e inside j = (
  length-set g e.0 (next_of g e.0 ++ e.1 ∷ []) ∙ j.0,
  λ x y. (
    λ c. (push_iff edges e x y).1 (elim ((with_edge-iff g e.0 e.1 (omega (arith, inside, j.0)) x y).0 c) [ inl old ↦ inl ((j.1 x y).0 old) | inr is ↦ inr is ]),
    λ c. (with_edge-iff g e.0 e.1 (omega (arith, inside, j.0)) x y).1 (elim ((push_iff edges e x y).0 c) [ inl old ↦ inl ((j.1 x y).1 old) | inr is ↦ inr is ]),
  ),
)

pub joins_back_more : (g : List (List ℕ)) (nodes : ℕ) (edges : List (ℕ × ℕ)) (e : ℕ × ℕ) → e.1 < nodes → JoinsBack g nodes edges → JoinsBack (with_edge g e.1 e.0) nodes (edges ++ e ∷ [])
joins_back_more g nodes edges e inside j = (
  length-set g e.1 (next_of g e.1 ++ e.0 ∷ []) ∙ j.0,
  λ x y. (
    λ c. (push_iff edges e y x).1 (elim ((with_edge-iff g e.1 e.0 (omega (arith, inside, j.0)) x y).0 c) [ inl old ↦ inl ((j.1 x y).0 old) | inr is ↦ inr (is.1, is.0) ]),
    λ c. (with_edge-iff g e.1 e.0 (omega (arith, inside, j.0)) x y).1 (elim ((push_iff edges e y x).0 c) [ inl old ↦ inl ((j.1 x y).1 old) | inr is ↦ inr (is.1, is.0) ]),
  ),
)

pub joins_closed : (g : List (List ℕ)) (nodes : ℕ) (edges : List (ℕ × ℕ)) → AreEdges nodes edges → Joins g nodes edges → IsClosed g
joins_closed g nodes edges inside j x y e =
    omega (arith, j.0, (All-contains (λ (p : ℕ × ℕ). (p.0 < nodes) × (p.1 < nodes)) edges (x, y) inside ((j.1 x y).0 e)).1)

pub joins_back_closed : (g : List (List ℕ)) (nodes : ℕ) (edges : List (ℕ × ℕ)) → AreEdges nodes edges → JoinsBack g nodes edges → IsClosed g
joins_back_closed g nodes edges inside j x y e =
    omega (arith, j.0, (All-contains (λ (p : ℕ × ℕ). (p.0 < nodes) × (p.1 < nodes)) edges (y, x) inside ((j.1 x y).0 e)).0)
