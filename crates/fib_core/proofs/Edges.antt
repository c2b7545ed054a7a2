-- The union over words is the union of edges between objects: the same edges, and the same stores and looks.
use Rattle.std.proofs.Common.{◌≡◌, ◌&&◌, inl, inr, Bool, true, false, cond, not, ℕ, zero, suc, List, [], ◌∷◌, map, filter, Option, Some, None, refl, sym, ap, ◌∙◌, arith}
use Rattle.std.specs.Prelude.{Contains, slice_index, slice_set, if◌then◌else◌}
use Rattle.std.proofs.lemmas.List.{map-set}
use Rattle.fib_reach.specs.Walks.{IsAcyclic}
use Rattle.fib_reach.proofs.Walking.{acyclic_part}
use Rattle.fib_union.specs.Marks.{Mark, fresh, looked, all_passed}
use Rattle.fib_union.specs.Unions as edges
use Rattle.fib_core.specs.Words.{goes, target}
use Rattle.fib_core.specs.Union.{Retired, Union, AnyOf, Goes, Edge, retire_if, stored, drop_if, remark, scan_retired, scanned, edge_in, copy_of, edges_of, must_retire, AreEdges}
use Rattle.fib_core.proofs.Unions.{edge_in_at, edge_in_of, edge_edges}

edge_none : (w : ℕ) → goes w ≡ false → edge_in w ≡ None
edge_none w no_edge = ap (λ (b : Bool). if b then Some (target w) else None) no_edge

some_same : (x y : ℕ) → Some x ≡ Some y → x ≡ y
some_same x y e = cc

none_some : (y : ℕ) → None ≡ Some y → ⊥
none_some y e = cc

-- what is an edge of a cell
pub edge_is : (w y : ℕ) → edge_in w ≡ Some y → (goes w ≡ true) × (target w ≡ y)
edge_is w y e = by_goes (goes w) refl
  where
    by_goes : (b : Bool) → goes w ≡ b → (goes w ≡ true) × (target w ≡ y)
    by_goes true is = (is, some_same (target w) y (sym (edge_in_of w is) ∙ e))
    by_goes false is = absurd (none_some y (sym (edge_none w is) ∙ e))

-- an edge between objects is one of words, where the retired words are edges

copy_word : (k y : ℕ) (rs : List Retired) → AreEdges rs → (r : edges.Retired) → Contains (map copy_of rs) r → r.cell ≡ k → r.to ≡ y → (w : ℕ) × (goes w ≡ true) × (target w ≡ y) × AnyOf (λ s. (s.cell ≡ k) × (s.word ≡ w)) rs
copy_word k y [] all r (i, lt, is) cell to = absurd (let bad : ⊥ = omega arith in bad)
copy_word k y (s ∷ rs) all r (zero, lt, is) cell to = (s.word, all.0, ap (λ (x : edges.Retired). x.to) is ∙ to, inl (ap (λ (x : edges.Retired). x.cell) is ∙ cell, refl))
copy_word k y (s ∷ rs) all r (suc i, lt, is) cell to =
    let q = copy_word k y rs all.1 r (i, (let small = lt in omega arith), is) cell to in
    (q.0, q.1, q.2, inr q.3)

pub goes_words : (u : Union) → AreEdges u.retired → (k y : ℕ) → edges.Goes (edges_of u) k y → (w : ℕ) × (target w ≡ y) × Goes u k w
goes_words u all k y (inl is) =
    let e = edge_is (slice_index u.cells k) y (sym (edge_in_at u.cells k) ∙ is) in
    (slice_index u.cells k, e.1, (e.0, inl refl))
goes_words u all k y (inr (r, there, cell, to)) =
    let q = copy_word k y u.retired all r there cell to in
    (q.0, q.2, (q.1, inr q.3))

pub edge_words : (u : Union) → AreEdges u.retired → (x y : ℕ) → edges.Edge (edges_of u) x y → Edge u x y
edge_words u all x y (k, from, g) = (let q = goes_words u all k y g in (k, q.0, from, q.1, q.2))

pub acyclic_edges : (u : Union) → AreEdges u.retired → IsAcyclic (Edge u) → IsAcyclic (edges.Edge (edges_of u))
acyclic_edges u all calm = acyclic_part (edges.Edge (edges_of u)) (Edge u) (edge_words u all) calm

pub acyclic_words : (u : Union) → IsAcyclic (edges.Edge (edges_of u)) → IsAcyclic (Edge u)
acyclic_words u calm = acyclic_part (Edge u) (edges.Edge (edges_of u)) (edge_edges u) calm

-- stores and looks

union_of : List (Option ℕ) → List edges.Retired → edges.Union
union_of es rs = record { edges = es; retired = rs }

copies_kept : (b g : Bool) (k old : ℕ) (marks : List Mark) (rs : List Retired) → goes old ≡ g → map copy_of (retire_if (b && g) (record { cell = k; word = old; marks = marks }) rs) ≡ edges.retire_if b k marks (edge_in old) (map copy_of rs)
copies_kept false g k old marks rs is = refl
copies_kept true true k old marks rs is = ap (λ (e : Option ℕ). edges.retire_if true k marks e (map copy_of rs)) (sym (edge_in_of old is))
copies_kept true false k old marks rs is = ap (λ (e : Option ℕ). edges.retire_if true k marks e (map copy_of rs)) (sym (edge_none old is))

module _ (workers : ℕ) (u : Union) (k w : ℕ) where
  pub edges_stored : edges_of (stored (must_retire u k) (fresh workers) u k w) ≡ edges.stored workers (edges_of u) k (edge_in w)
  unfolding must_retire union_of
  edges_stored =
      ap (λ (es : List (Option ℕ)). union_of es (map copy_of (retire_if (must_retire u k && goes (slice_index u.cells k)) (record { cell = k; word = slice_index u.cells k; marks = fresh workers }) u.retired))) (map-set edge_in u.cells k w)
      ∙ ap (union_of (slice_set (map edge_in u.cells) k (edge_in w)))
      (copies_kept (must_retire u k) (goes (slice_index u.cells k)) k (slice_index u.cells k) (fresh workers) u.retired refl
      ∙ ap (λ (e : Option ℕ). edges.retire_if (must_retire u k) k (fresh workers) e (map copy_of u.retired)) (sym (edge_in_at u.cells k)))

kept_when : (b : Bool) (r : Retired) (rs : List Retired) (qs : List edges.Retired) → map copy_of rs ≡ qs → map copy_of (drop_if b r rs) ≡ cond (not b) (copy_of r ∷ qs) qs
kept_when true r rs qs e = e
kept_when false r rs qs e = ap (λ (xs : List edges.Retired). copy_of r ∷ xs) e

copies_scanned : (n w : ℕ) (rs : List Retired) → map copy_of (scan_retired n w rs) ≡ filter (λ r. not (edges.is_gone r)) (map (edges.marked n w) (map copy_of rs))
copies_scanned n w [] = refl
copies_scanned n w (r ∷ rs) = kept_when (all_passed (looked n w r.marks)) (remark n w r) (scan_retired n w rs) (filter (λ s. not (edges.is_gone s)) (map (edges.marked n w) (map copy_of rs))) (copies_scanned n w rs)

pub edges_scanned : (u : Union) (n w : ℕ) → edges_of (scanned u n w) ≡ edges.scanned n w (edges_of u)
unfolding union_of
edges_scanned u n w = ap (union_of (map edge_in u.cells)) (copies_scanned n w u.retired)
