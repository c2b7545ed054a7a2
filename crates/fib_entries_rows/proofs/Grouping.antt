-- The edges by where they lead: each entry's sources, each once.
use Rattle.std.proofs.Common.{arith, ◌≡◌, ◌≢◌, ℕ, zero, suc, ◌<◌, Bool, true, false, ◌==◌, ◌&&◌, List, [], ◌∷◌, ◌++◌, length, replicate, get_or, Option, Some, None, inl, inr, refl, sym, ◌∙◌, ap, subst, slice_get, slice_set, if◌then◌else◌}
use Rattle.std.specs.Prelude.{All, Contains}
use Rattle.std.specs.List.{AllByRecursion, AllZip, IsDistinct}
use Rattle.std.specs.Set.{unique_keys}
use Rattle.std.specs.Cmp.{IsEquivalence}
use Rattle.std.proofs.Math.ListN.{length-replicate}
use Rattle.std.proofs.lemmas.Bool.{false≢true}
use Rattle.std.proofs.lemmas.Bool.Decides.{Decides-eqb, eqb_tells}
use Rattle.std.proofs.lemmas.List.{get_or-set_same, get_or-set_other}
use Rattle.fib_base_list.proofs.Lists.{either, Contains-nil}
use Rattle.fib_base_list.proofs.Booleans.{and_both}
use Rattle.fib_reach.specs.Walks.{AllDiffer}
use Rattle.fib_reach.specs.Graphs.{next_of, with_edge}
use Rattle.fib_reach.proofs.Through.{decides_equiv}
use Rattle.fib_addr.specs.Prefixes.{Prefix}
use Rattle.fib_cover.specs.Covers.{IsAscending}
use Rattle.fib_resolve.proofs.Covering.{distinct_keys, unique_in}
use Rattle.fib_resolve_changes.proofs.Edits.{in_cases, in_front, in_rest}
use Rattle.fib_resolve_pairs.proofs.Members.{filter_map_in, filter_map_from}
use Rattle.fib_base_interned.proofs.Finding.{some_is, none_some}
use Rattle.fib_entries_rows.specs.inner.Edges.{ArePlaces, AreSources, AreSourcesIn, IsTurned, sources_of}
use Rattle.fib_entries_rows.proofs.Edging.{edge_in}
use Rattle.fib_entries_rows.proofs.Looking.{one_in_order}

abbrev source_to : ℕ → ℕ × ℕ → Option ℕ
source_to k d = if d.1 == k then Some d.0 else None

sources-append : (xs ys : List (ℕ × ℕ)) (k : ℕ) → sources_of (xs ++ ys) k ≡ sources_of xs k ++ sources_of ys k
sources-append [] ys k = refl
sources-append (d ∷ xs) ys k = elim (either (d.1 == k)) [
  | inl is ↦ rw is (ap (λ (l : List ℕ). d.0 ∷ l) (sources-append xs ys k))
  | inr isnt ↦ rw isnt (sources-append xs ys k)
]

-- no edge yet
pub turned_none : (nodes : ℕ) (graph : List (List ℕ)) → graph ≡ replicate nodes [] → IsTurned nodes [] graph
turned_none nodes graph is = record {
  size = ap length is ∙ length-replicate nodes [];
  rows = λ k lt. ap (λ g. next_of g k) is ∙ none nodes k;
}
  where
    none : (n k : ℕ) → next_of (replicate n []) k ≡ []
    none zero k = refl
    none (suc n) zero = refl
    none (suc n) (suc k) = none n k

length-set_is : (g : List (List ℕ)) (x : ℕ) (row : List ℕ) → length (slice_set g x row) ≡ length g
length-set_is [] x row = refl
length-set_is (r ∷ g) zero row = refl
length-set_is (r ∷ g) (suc x) row = ap suc (length-set_is g x row)

-- an edge more
pub turned_more : (nodes : ℕ) (edges : List (ℕ × ℕ)) (graph : List (List ℕ)) (d : ℕ × ℕ) → d.1 < nodes → IsTurned nodes edges graph → IsTurned nodes (edges ++ d ∷ []) (with_edge graph d.1 d.0)
turned_more nodes edges graph d small h = record {
  size = length-set_is graph d.1 (next_of graph d.1 ++ d.0 ∷ []) ∙ h.size;
  rows = λ k lt. elim (eqb_tells d.1 k) [
    | inl is ↦ (let here : d.1 < length graph = (let n = h.size in omega (arith, n, small)) in
        ap (λ (n : ℕ). next_of (with_edge graph d.1 d.0) n) (sym is.1)
        ∙ (get_or-set_same graph d.1 (next_of graph d.1 ++ d.0 ∷ []) [] here
        ∙ (ap (λ (row : List ℕ). row ++ d.0 ∷ []) (h.rows d.1 small)
        ∙ (ap (λ (n : ℕ). sources_of edges n ++ d.0 ∷ []) is.1
        ∙ sym (sources-append edges (d ∷ []) k ∙ ap (λ (l : List ℕ). sources_of edges k ++ l) (rw is.0 refl))))))
    | inr isnt ↦ (get_or-set_other graph d.1 k (next_of graph d.1 ++ d.0 ∷ []) [] (λ e. isnt.1 (sym e))
        ∙ (h.rows k lt
        ∙ sym (sources-append edges (d ∷ []) k ∙ ap (λ (l : List ℕ). sources_of edges k ++ l) (rw isnt.0 refl) ∙ append-none (sources_of edges k))))
  ];
}
  where
    append-none : (xs : List ℕ) → xs ++ [] ≡ xs
    append-none [] = refl
    append-none (x ∷ xs) = ap (λ (l : List ℕ). x ∷ l) (append-none xs)

-- the sources of the edges
source_in : (edges : List (ℕ × ℕ)) (from k : ℕ) → Contains {X = ℕ × ℕ} edges (from, k) → Contains (sources_of edges k) from
source_in edges from k c = filter_map_in (source_to k) edges (from, k) from c (rw ((Decides-eqb k k).1 refl) refl)

source_from : (edges : List (ℕ × ℕ)) (from k : ℕ) → Contains (sources_of edges k) from → Contains {X = ℕ × ℕ} edges (from, k)
source_from edges from k c =
    let r = filter_map_from (source_to k) edges from c in
    elim (eqb_tells r.0.1 k) [
      | inl is ↦ (let own : r.0.0 ≡ from = some_is r.0.0 from (sym (ap (λ (b : Bool). if b then Some r.0.0 else None) is.0) ∙ r.2) in
          subst (λ (d : ℕ × ℕ). Contains edges d) (ap (λ (n : ℕ). (r.0.0, n)) is.1 ∙ ap (λ (n : ℕ). (n, k)) own) r.1)
      | inr isnt ↦ absurd (none_some from (sym (ap (λ (b : Bool). if b then Some r.0.0 else None) isnt.0) ∙ r.2))
    ]

each_in : {X : Type 0} (P : X → Type 0) (xs : List X) → ((x : X) → Contains xs x → P x) → AllByRecursion P xs
each_in P [] h = tt
each_in P (x ∷ xs) h = (h x (in_front x x xs refl), each_in P xs (λ y c. h y (in_rest x y xs c)))

each_of : {X : Type 0} (P : X → Type 0) (xs : List X) (x : X) → AllByRecursion P xs → Contains xs x → P x
each_of P [] x all c = absurd (Contains-nil x c)
each_of P (y ∷ ys) x all c = elim (in_cases y x ys c) [ inl is ↦ subst P is all.0 | inr later ↦ each_of P ys x all.1 later ]

sources_differ : (edges : List (ℕ × ℕ)) (k : ℕ) → AllDiffer edges → AllDiffer (sources_of edges k)
sources_differ [] k all = tt
sources_differ (d ∷ ds) k all = elim (eqb_tells d.1 k) [
  | inl is ↦ rw is.0 (
    each_in (λ y. d.0 ≢ y) (sources_of ds k) (λ y c e.
        each_of (λ z. d ≢ z) ds (y, k) all.0 (source_from ds y k c) (ap (λ (n : ℕ). (d.0, n)) is.1 ∙ ap (λ (n : ℕ). (n, k)) e)),
    sources_differ ds k all.1,
  )
  | inr isnt ↦ rw isnt.0 (sources_differ ds k all.1)
]

abbrev pub same_edge : ℕ × ℕ → ℕ × ℕ → Bool
same_edge d e = (d.0 == e.0) && (d.1 == e.1)

edge_is : (d e : ℕ × ℕ) → same_edge d e ≡ true → d ≡ e
edge_is (a, b) (c, d) h =
    let r = and_both (a == c) (b == d) h in
    let x = (Decides-eqb a c).0 r.0 in
    let y = (Decides-eqb b d).0 r.1 in
    cc

-- the test is that of equality
pub edge_laws : IsEquivalence same_edge
edge_laws = decides_equiv same_edge (λ d e. (edge_is d e, λ is. subst (λ (z : ℕ × ℕ). same_edge d z ≡ true) is (edge_self d)))
  where
    edge_self : (d : ℕ × ℕ) → same_edge d d ≡ true
    edge_self (a, b) = rw ((Decides-eqb a a).1 refl, (Decides-eqb b b).1 refl) refl

distinct_differ : (xs : List (ℕ × ℕ)) → IsDistinct same_edge xs → AllDiffer xs
unfolding IsDistinct
distinct_differ [] d = tt
distinct_differ (x ∷ xs) d = (apart xs d.0, distinct_differ xs d.1)
  where
    apart : (ys : List (ℕ × ℕ)) → AllByRecursion (λ y. same_edge x y ≡ false) ys → AllByRecursion (λ y. x ≢ y) ys
    apart [] all = tt
    apart (y ∷ ys) all = (λ e. false≢true (sym all.0 ∙ subst (λ (z : ℕ × ℕ). same_edge x z ≡ true) e (itself x)), apart ys all.1)
      where
        itself : (d : ℕ × ℕ) → same_edge d d ≡ true
        itself (a, b) = rw ((Decides-eqb a a).1 refl, (Decides-eqb b b).1 refl) refl

-- each edge once
pub sources_once : (nodes : ℕ) (edges : List (ℕ × ℕ)) (graph : List (List ℕ)) → IsEquivalence same_edge → IsTurned nodes (unique_keys same_edge edges) graph → AreSourcesIn nodes edges graph
sources_once nodes edges graph laws h =
    let once = unique_keys same_edge edges in
    let same = unique_in same_edge laws edge_is edges in
    record {
      size = h.size;
      once = λ k lt. subst AllDiffer (sym (h.rows k lt)) (sources_differ once k (distinct_differ once (distinct_keys same_edge laws edges)));
      sources = λ k from lt. (
        λ c. (same (from, k)).1 (source_from once from k (subst (λ (row : List ℕ). Contains row from) (h.rows k lt) c)),
        λ c. subst (λ (row : List ℕ). Contains row from) (sym (h.rows k lt)) (source_in once from k ((same (from, k)).0 c)),
      );
    }

-- the entries at these places, in their order
abbrev pub AreAt : List Prefix → List ℕ → List Prefix → Type 0
AreAt order froms list = AllZip (λ k p. slice_get order k ≡ Some p) froms list

pub at_push : (order : List Prefix) (froms : List ℕ) (list : List Prefix) (k : ℕ) (p : Prefix) → AreAt order froms list → slice_get order k ≡ Some p → AreAt order (froms ++ k ∷ []) (list ++ p ∷ [])
at_push order [] [] k p h is = (is, tt)
at_push order [] (q ∷ qs) k p h is = absurd h
at_push order (f ∷ fs) [] k p h is = absurd h
at_push order (f ∷ fs) (q ∷ qs) k p h is = (h.0, at_push order fs qs k p h.1 is)

at_from : (order : List Prefix) (froms : List ℕ) (list : List Prefix) (p : Prefix) → AreAt order froms list → Contains list p → (k : ℕ) × Contains froms k × (slice_get order k ≡ Some p)
at_from order [] [] p h c = absurd (Contains-nil p c)
at_from order [] (q ∷ qs) p h c = absurd h
at_from order (f ∷ fs) [] p h c = absurd h
at_from order (f ∷ fs) (q ∷ qs) p h c = elim (in_cases q p qs c) [
  | inl is ↦ (f, in_front f f fs refl, h.0 ∙ ap (λ (z : Prefix). Some z) is)
  | inr later ↦ (let r = at_from order fs qs p h.1 later in (r.0, in_rest f r.0 fs r.1, r.2))
]

at_in : (order : List Prefix) (froms : List ℕ) (list : List Prefix) (k : ℕ) (p : Prefix) → AreAt order froms list → Contains froms k → slice_get order k ≡ Some p → Contains list p
at_in order [] [] k p h c at = absurd (Contains-nil k c)
at_in order [] (q ∷ qs) k p h c at = absurd h
at_in order (f ∷ fs) [] k p h c at = absurd h
at_in order (f ∷ fs) (q ∷ qs) k p h c at = elim (in_cases f k fs c) [
  | inl is ↦ in_front q p qs (some_is q p (sym h.0 ∙ (ap (slice_get order) is ∙ at)))
  | inr later ↦ in_rest q p qs (at_in order fs qs k p h.1 later at)
]

at_differ : (order : List Prefix) (froms : List ℕ) (list : List Prefix) → ((i j : ℕ) (p : Prefix) → slice_get order i ≡ Some p → slice_get order j ≡ Some p → i ≡ j) → AreAt order froms list → AllDiffer froms → AllDiffer list
at_differ order [] [] one h all = tt
at_differ order [] (q ∷ qs) one h all = absurd h
at_differ order (f ∷ fs) [] one h all = absurd h
at_differ order (f ∷ fs) (q ∷ qs) one h all = (
  each_in (λ y. q ≢ y) qs (λ y c e. (let r = at_from order fs qs y h.1 c in
      each_of (λ z. f ≢ z) fs r.0 all.0 r.1 (one f r.0 y (h.0 ∙ ap (λ (z : Prefix). Some z) e) r.2))),
  at_differ order fs qs one h.1 all.1,
)

-- the entries with an edge to that at a place
pub sources_listed : (order : List Prefix) (edges : List (ℕ × ℕ)) (graph : List (List ℕ)) (place : ℕ) (e : Prefix) (list : List Prefix) → IsAscending order → place < length order → ArePlaces order edges → AreSourcesIn (length order) edges graph
    → slice_get order place ≡ Some e → AreAt order (next_of graph place) list → AreSources order edges e list
sources_listed order edges graph place e list ascending small places h at are =
    let one = one_in_order order ascending in
    record {
      once = at_differ order (next_of graph place) list one are (h.once place small);
      real = λ p c. (let r = at_from order (next_of graph place) list p are c in
          ((r.0, place), (h.sources place r.0 small).0 r.1, r.2, at));
      found = λ d p c a b. (let to : d.1 ≡ place = one d.1 place e b at in
          at_in order (next_of graph place) list d.0 p are ((h.sources place d.0 small).1 (subst (λ (n : ℕ). Contains {X = ℕ × ℕ} edges (d.0, n)) to c)) a);
    }

-- each source is a place
pub source_inside : (order : List Prefix) (edges : List (ℕ × ℕ)) (graph : List (List ℕ)) (place from : ℕ) → place < length order → ArePlaces order edges → AreSourcesIn (length order) edges graph → Contains (next_of graph place) from → from < length order
source_inside order edges graph place from small places h c = (places (from, place) ((h.sources place from small).0 c)).0

-- what holds of all edges holds of them once
pub edges_once : (P : ℕ × ℕ → Type 0) (edges once : List (ℕ × ℕ)) → IsEquivalence same_edge → once ≡ unique_keys same_edge edges → All P edges → All P once
edges_once P edges once laws is all k d lt =
    let here = edge_in once k d lt in
    let x = get_or once k d in
    let c = (unique_in same_edge laws edge_is edges x).1 (subst (λ (l : List (ℕ × ℕ)). Contains l x) is here) in
    subst P c.2 (all c.0 x c.1)

pub at_place_in : (xs : List ℕ) (i : ℕ) → i < length xs → Contains xs (get_or xs i 0)
at_place_in xs i lt = (i, lt, default xs i 0 (get_or xs i 0) lt)
  where
    default : (xs : List ℕ) (k d e : ℕ) → k < length xs → get_or xs k e ≡ get_or xs k d
    default [] k d e lt = absurd (omega (arith, lt))
    default (x ∷ xs) zero d e lt = refl
    default (x ∷ xs) (suc k) d e lt = default xs k d e (omega (arith, lt))
