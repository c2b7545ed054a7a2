-- The edges as a list of pairs, and those of them that lie on cycles.
use Rattle.std.proofs.Common.{arith, ◌≡◌, ℕ, zero, suc, ◌+◌, ◌-◌, ◌<◌, ◌≤◌, Bool, true, false, ◌==◌, ◌&&◌, ◌||◌, List, [], ◌∷◌, ◌++◌, map, take, length, get_or, Some, inl, inr, refl, sym, ◌∙◌, ap, subst, cond, append_assoc}
use Rattle.std.specs.Prelude.{All, Contains, IsTrue, slice_get, slice_index_or, slice_set}
use Rattle.std.proofs.lemmas.Bool.{false≢true, cases_eq}
use Rattle.std.proofs.lemmas.Bool.Decides.{Decides-eqb}
use Rattle.std.proofs.lemmas.Option.{slice_get-get_or}
use Rattle.std.proofs.lemmas.Grind.{get_or-set_at}
use Rattle.std.proofs.lemmas.List.{take_more, length-take, length-map, map-append, append-nil, get_or-set_other}
use Rattle.std.proofs.lemmas.List.Elements.{All-from_recursion, Contains-append_left, Contains-append_right, Contains-append_cases}
use Rattle.std.specs.List.{AllByRecursion}
use Rattle.fib_base_list.proofs.Lists.{either, Contains-nil, each-append, each-map, each-weaker}
use Rattle.std.proofs.lemmas.List.Elements.{All-contains}
use Rattle.fib_resolve.proofs.PairLaws.{each-all}
use Rattle.fib_base_list.proofs.Booleans.{and_both}
use Rattle.fib_reach.specs.Walks.{Walk, Among}
use Rattle.fib_reach.specs.Graphs.{Edge}
use Rattle.fib_reach.proofs.Walking.{leads_iff}
use Rattle.fib_cover.proofs.Sets.{take_whole}
use Rattle.fib_loops.specs.Loops.{IsLooped, IsMarked, Marked}
use Rattle.fib_addr.specs.Prefixes.{Prefix, host}
use Rattle.fib_resolve.specs.Pairs.{entries, chosen}
use Rattle.fib_resolve.specs.Loops.{looped}
use Rattle.fib_resolve.specs.declared.types.Path.{Path}
use Rattle.fib_resolve.specs.declared.types.PathKind.TheVariants as kinds
use Rattle.fib_resolve.specs.declared.types.Tables.{Tables}
use Rattle.fib_resolve_pairs.specs.Numbers.{number_in}
use Rattle.fib_resolve_pairs.specs.inner.Edges.{goal_number, next_numbers, graph_of, edges_from, edges_of, same_edge, has_edge, AreMarked, AreLooped, AreStarts}
use Rattle.fib_resolve_pairs.proofs.Edges.{looped_by, looped_none, row_is, next_below}
use Rattle.fib_resolve_pairs.proofs.Members.{in_cases, first_in, later_in, filter_map_in, some_or_none}

pair_is : (a b c d : ℕ) → ◌≡◌ {A = ℕ × ℕ} (a, b) (c, d) → (a ≡ c) × (b ≡ d)
pair_is a b c d h = (ap (λ (p : ℕ × ℕ). p.0) h, ap (λ (p : ℕ × ℕ). p.1) h)

-- one row more
edges-append : (n : ℕ) (xs ys : List (List ℕ)) → edges_from n (xs ++ ys) ≡ edges_from n xs ++ edges_from (n + length xs) ys
edges-append n [] ys = ap (λ (k : ℕ). edges_from k ys) (omega arith)
edges-append n (x ∷ xs) ys =
    ap (λ (es : List (ℕ × ℕ)). map (λ to. (n, to)) x ++ es) (edges-append (n + 1) xs ys ∙ ap (λ (k : ℕ). edges_from (n + 1) xs ++ edges_from k ys) (omega arith))
    ∙ sym (append_assoc (map (λ to. (n, to)) x) (edges_from (n + 1) xs) (edges_from (n + suc (length xs)) ys))

pub edges_more : (f : Prefix → List ℕ) (es : List Prefix) (i : ℕ) (e : Prefix) → i < length es → e ≡ get_or es i e →
    edges_from 0 (map f (take i es)) ++ map (λ to. (i, to)) (f e) ≡ edges_from 0 (map f (take (i + 1) es))
edges_more f es i e lt is =
    let front = map f (take i es) in
    let long : 0 + length front ≡ i = omega (arith, length-map (take i es) f, length-take i es, lt) in
    let more : map f (take (i + 1) es) ≡ front ++ f e ∷ [] =
    ap (map f) (take_more es i e lt ∙ ap (λ (x : Prefix). take i es ++ x ∷ []) (sym is)) ∙ map-append f (take i es) (e ∷ []) in
    sym (ap (edges_from 0) more ∙ (edges-append 0 front (f e ∷ [])
    ∙ ap (λ (es : List (ℕ × ℕ)). edges_from 0 front ++ es) (append-nil (map (λ to. (0 + length front, to)) (f e)) ∙ ap (λ (n : ℕ). map (λ to. (n, to)) (f e)) long)))

map_to_in : (n : ℕ) (row : List ℕ) (j : ℕ) → Contains row j → Contains {X = ℕ × ℕ} (map (λ to. (n, to)) row) (n, j)
map_to_in n [] j c = absurd (Contains-nil j c)
map_to_in n (x ∷ row) j c = elim (in_cases x j row c) [
  | inl is ↦ subst (λ (k : ℕ). Contains {X = ℕ × ℕ} ((n, x) ∷ map (λ to. (n, to)) row) (n, k)) is (first_in (n, x) (map (λ to. (n, to)) row))
  | inr later ↦ later_in (n, x) (n, j) (map (λ to. (n, to)) row) (map_to_in n row j later)
]

map_to_from : (n : ℕ) (row : List ℕ) (i j : ℕ) → Contains {X = ℕ × ℕ} (map (λ to. (n, to)) row) (i, j) → (n ≡ i) × Contains row j
map_to_from n [] i j c = absurd (Contains-nil (i, j) c)
map_to_from n (x ∷ row) i j c = elim (in_cases (n, x) (i, j) (map (λ to. (n, to)) row) c) [
  | inl is ↦ (let p = pair_is n x i j is in (p.0, subst (λ (k : ℕ). Contains (x ∷ row) k) p.1 (first_in x row)))
  | inr later ↦ (let r = map_to_from n row i j later in (r.0, later_in x j row r.1))
]

rows_in : (n : ℕ) (rows : List (List ℕ)) (i j : ℕ) → n ≤ i → Contains (get_or rows (i - n) []) j → Contains {X = ℕ × ℕ} (edges_from n rows) (i, j)
rows_in n [] i j le c = absurd (Contains-nil j c)
rows_in n (row ∷ rows) i j le c = elim (cases_eq n i) [
  | inl is ↦ (let none : i - n ≡ 0 = omega (arith, is) in
      Contains-append_left (map (λ to. (n, to)) row) (edges_from (n + 1) rows) (i, j)
      (subst (λ (k : ℕ). Contains {X = ℕ × ℕ} (map (λ to. (n, to)) row) (k, j)) is (map_to_in n row j (subst (λ (k : ℕ). Contains (get_or (row ∷ rows) k []) j) none c))))
  | inr isnt ↦ (let more : i - n ≡ suc (i - (n + 1)) = omega (arith, isnt, le) in
      Contains-append_right (map (λ to. (n, to)) row) (edges_from (n + 1) rows) (i, j)
      (rows_in (n + 1) rows i j (omega (arith, isnt, le)) (subst (λ (k : ℕ). Contains (get_or (row ∷ rows) k []) j) more c)))
]

rows_from : (n : ℕ) (rows : List (List ℕ)) (i j : ℕ) → Contains {X = ℕ × ℕ} (edges_from n rows) (i, j) → (n ≤ i) × Contains (get_or rows (i - n) []) j
rows_from n [] i j c = absurd (Contains-nil (i, j) c)
rows_from n (row ∷ rows) i j c = elim (Contains-append_cases (map (λ to. (n, to)) row) (edges_from (n + 1) rows) (i, j) c) [
  | inl here ↦ (let r = map_to_from n row i j here in
      let none : 0 ≡ i - n = omega (arith, r.0) in
      (omega (arith, r.0), subst (λ (k : ℕ). Contains (get_or (row ∷ rows) k []) j) none r.1))
  | inr there ↦ (let r = rows_from (n + 1) rows i j there in
      let more : suc (i - (n + 1)) ≡ i - n = omega (arith, r.0) in
      (omega (arith, r.0), subst (λ (k : ℕ). Contains (get_or (row ∷ rows) k []) j) more r.1))
]

-- the list has the edges of the graph
pub edge_in : (S : Tables) (i j : ℕ) → Edge (graph_of S) i j → Among (edges_of S) i j
unfolding edges_of
edge_in S i j c = rows_in 0 (graph_of S) i j (omega arith) (subst (λ (k : ℕ). Contains (get_or (graph_of S) k []) j) (omega arith) c)

pub edge_from : (S : Tables) (i j : ℕ) → Among (edges_of S) i j → Edge (graph_of S) i j
unfolding edges_of
edge_from S i j c = let r = rows_from 0 (graph_of S) i j c in subst (λ (k : ℕ). Contains (get_or (graph_of S) k []) j) (omega arith) r.1

walk_part : {A : Type 0} (E F : A → A → Type 0) → ((x y : A) → E x y → F x y) → (n : ℕ) (x y : A) → Walk E n x y → Walk F n x y
walk_part E F part zero x y w = w
walk_part E F part (suc n) x y w = (w.0, part x w.0 w.1, walk_part E F part n w.0 y w.2)

-- a set of edges is asked by a test
edge_is : (d e : ℕ × ℕ) → same_edge d e ≡ true → d ≡ e
edge_is (a, b) (c, d) h =
    let r = and_both (a == c) (b == d) h in
    let x = (Decides-eqb a c).0 r.0 in
    let y = (Decides-eqb b d).0 r.1 in
    cc

edge_self : (d : ℕ × ℕ) → same_edge d d ≡ true
edge_self (a, b) = rw ((Decides-eqb a a).1 refl, (Decides-eqb b b).1 refl) refl

some_edge : (d e : ℕ × ℕ) → Some d ≡ Some e → d ≡ e
some_edge d e h = cc

or_false : (b : Bool) → (b || false) ≡ b
or_false true = refl
or_false false = refl

or_true : (b : Bool) → (b || true) ≡ true
or_true true = refl
or_true false = refl

-- the set with an edge more, or the same
pub put_edge : (old new : List (ℕ × ℕ)) (x q : ℕ × ℕ) → has_edge new q ≡ cond (same_edge x q) true (has_edge old q) → has_edge new q ≡ has_edge old q || same_edge x q
put_edge old new x q h = elim (either (same_edge x q)) [
  | inl is ↦ h ∙ (rw is (sym (or_true (has_edge old q))))
  | inr isnt ↦ h ∙ (rw isnt (sym (or_false (has_edge old q))))
]

module _ (edges : List (ℕ × ℕ)) (marks : List Bool) (k : ℕ) (x : ℕ × ℕ) (at : slice_get edges k ≡ Some x) (old new : List (ℕ × ℕ)) (was : AreMarked edges marks k old) where
  marked_more : IsTrue (slice_index_or marks k false) → ((q : ℕ × ℕ) → has_edge new q ≡ has_edge old q || same_edge x q) → AreMarked edges marks (k + 1) new
  marked_more mark put d = (
    λ t. elim (either (same_edge x d)) [
      | inl is ↦ (k, omega arith, at ∙ ap (λ (e : ℕ × ℕ). Some e) (edge_is x d is), mark)
      | inr isnt ↦ (let r = (was d).0 (sym (put d ∙ (ap (λ (b : Bool). has_edge old d || b) isnt ∙ or_false (has_edge old d))) ∙ t) in (r.0, omega (arith, r.1), r.2, r.3))
    ],
    λ r. elim (cases_eq r.0 k) [
      | inl is ↦ (let same : x ≡ d = some_edge x d (sym at ∙ (ap (slice_get edges) (sym is) ∙ r.2)) in
          put d ∙ (ap (λ (b : Bool). has_edge old d || b) (ap (λ (e : ℕ × ℕ). same_edge x e) (sym same) ∙ edge_self x) ∙ or_true (has_edge old d)))
      | inr isnt ↦ put d ∙ rw ((was d).1 (r.0, omega (arith, r.1, isnt), r.2, r.3)) refl
    ],
  )

  unmarked_more : slice_index_or marks k false ≡ false → ((q : ℕ × ℕ) → has_edge new q ≡ has_edge old q) → AreMarked edges marks (k + 1) new
  unmarked_more mark same d = (
    λ t. (let r = (was d).0 (sym (same d) ∙ t) in (r.0, omega (arith, r.1), r.2, r.3)),
    λ r. elim (cases_eq r.0 k) [
      | inl is ↦ absurd (false≢true (sym mark ∙ (ap (λ (n : ℕ). slice_index_or marks n false) (sym is) ∙ r.3)))
      | inr isnt ↦ same d ∙ (was d).1 (r.0, omega (arith, r.1, isnt), r.2, r.3)
    ],
  )

  -- one edge further
  pub marked_step : (b : Bool) → b ≡ slice_index_or marks k false → ((q : ℕ × ℕ) → has_edge new q ≡ has_edge old q || (b && same_edge x q)) → AreMarked edges marks (k + 1) new
  marked_step true mark put = marked_more (sym mark) put
  marked_step false mark put = unmarked_more (sym mark) (λ q. put q ∙ or_false (has_edge old q))

marks_at : (marks : List Bool) (k : ℕ) → slice_index_or marks k false ≡ get_or marks k false
marks_at marks k = refl

-- the marked edges are those that lie on cycles
pub looped_marked : (nodes : ℕ) (edges found : List (ℕ × ℕ)) (m : Marked) → IsMarked nodes edges m → AreMarked edges m.looped (length edges) found → AreLooped edges found
looped_marked nodes edges found m is are d = (
  λ t. (let r = (are d).0 t in
      let here = edge_at edges r.0 d r.1 r.2 in
      ((r.0, r.1, here), subst (λ (e : ℕ × ℕ). IsLooped edges e) here ((is.loops r.0 d r.1).0 r.3))),
  λ h. (are d).1 (h.0.0, h.0.1, slice_get-get_or edges h.0.0 d h.0.1 ∙ ap (λ (e : ℕ × ℕ). Some e) h.0.2, (is.loops h.0.0 d h.0.1).1 (subst (λ (e : ℕ × ℕ). IsLooped edges e) (sym h.0.2) h.1)),
)
  where
    edge_at : (xs : List (ℕ × ℕ)) (k : ℕ) (e : ℕ × ℕ) → k < length xs → slice_get xs k ≡ Some e → get_or xs k e ≡ e
    edge_at xs k e lt at = some_edge (get_or xs k e) e (sym (slice_get-get_or xs k e lt) ∙ at)

kind_edge : (S : Tables) (e : Prefix) (a t : ℕ) → ((p : Path) × Contains (chosen S e) p × (p.kind ≡ kinds.Recursive a)) → number_in S (host a) ≡ Some t → Contains (next_numbers S e) t
unfolding next_numbers goal_number
kind_edge S e a t p h = filter_map_in (λ q. goal_number S e q.kind) (chosen S e) p.0 t p.1 (ap (goal_number S e) p.2 ∙ h)

-- a recursive path of the entry is looped exactly where its edge lies on a cycle
pub looped_found : (S : Tables) (e : Prefix) (a t k : ℕ) (found : List (ℕ × ℕ)) → AreLooped (edges_of S) found → number_in S (host a) ≡ Some t → number_in S e ≡ Some k →
    ((p : Path) × Contains (chosen S e) p × (p.kind ≡ kinds.Recursive a)) → has_edge found (k, t) ≡ looped S e a
looped_found S e a t k found are h n p =
    let edge : Edge (graph_of S) k t = subst (λ (row : List ℕ). Contains row t) (sym (row_is S e k n)) (kind_edge S e a t p h) in
    looped_by S e a t k (has_edge found (k, t)) h n (
      λ b. (let r = (are (k, t)).0 b in (leads_iff (Edge (graph_of S)) t k).0 (r.1.0, walk_part (Among (edges_of S)) (Edge (graph_of S)) (edge_from S) r.1.0 t k r.1.1)),
      λ led. (let w = (leads_iff (Edge (graph_of S)) t k).1 led in
          (are (k, t)).1 (edge_in S k t edge, (w.0, walk_part (Edge (graph_of S)) (Among (edges_of S)) (edge_in S) w.0 t k w.1))),
    )

each_inside : (N n : ℕ) (rows : List (List ℕ)) → AllByRecursion (λ row. AllByRecursion (λ k. k < N) row) rows → n + length rows ≤ N →
    AllByRecursion (λ d. (d.0 < N) × (d.1 < N)) (edges_from n rows)
each_inside N n [] h few = tt
each_inside N n (row ∷ rows) h few =
    each-append (λ d. (d.0 < N) × (d.1 < N)) (map (λ to. (n, to)) row) (edges_from (n + 1) rows)
    (each-map (λ d. (d.0 < N) × (d.1 < N)) (λ to. (n, to)) row (each-weaker (λ k. k < N) (λ k. (n < N) × (k < N)) (λ k lt. (omega (arith, few), lt)) row h.0))
    (each_inside N (n + 1) rows h.1 (omega (arith, few)))

-- each edge joins two entries' numbers
pub edges_inside : (S : Tables) → All (λ d. (d.0 < length (entries S)) × (d.1 < length (entries S))) (edges_of S)
unfolding edges_of graph_of
edges_inside S =
    let N = length (entries S) in
    All-from_recursion (λ d. (d.0 < N) × (d.1 < N)) (edges_of S) (each_inside N 0 (graph_of S)
    (each-map (λ row. AllByRecursion (λ k. k < N) row) (next_numbers S) (entries S) (each-all (λ e. AllByRecursion (λ k. k < N) (next_numbers S e)) (next_below S) (entries S)))
    (omega (arith, length-map (entries S) (next_numbers S))))

pub edges_whole : (S : Tables) (es : List Prefix) (out : List (ℕ × ℕ)) (i : ℕ) → es ≡ entries S → length es ≤ i → out ≡ edges_from 0 (map (next_numbers S) (take i es)) → out ≡ edges_of S
unfolding edges_of graph_of
edges_whole S es out i are all is = is ∙ ap (λ (xs : List Prefix). edges_from 0 (map (next_numbers S) xs)) (take_whole es i all ∙ are)

pub none_marked : (edges : List (ℕ × ℕ)) (marks : List Bool) (found : List (ℕ × ℕ)) → found ≡ [] → AreMarked edges marks 0 found
none_marked edges marks found none d = (
  λ t. absurd (false≢true (sym (ap (λ (es : List (ℕ × ℕ)). has_edge es d) none) ∙ t)),
  λ r. absurd (omega (arith, r.1)),
)

-- each edge on a cycle starts at an entry
each_start : (S : Tables) (found xs : List (ℕ × ℕ)) → AreLooped (edges_of S) found → ((d : ℕ × ℕ) → IsTrue (has_edge xs d) → IsTrue (has_edge found d)) → AllByRecursion (λ d. d.0 < length (entries S)) xs
each_start S found [] are part = tt
each_start S found (x ∷ xs) are part =
    let N = length (entries S) in
    let here : IsTrue (has_edge (x ∷ xs) x) = rw (edge_self x) refl in
    ((All-contains (λ d. (d.0 < N) × (d.1 < N)) (edges_of S) x (edges_inside S) ((are x).0 (part x here)).0).0, each_start S found xs are (λ d h. part d (later d h)))
  where
    later : (d : ℕ × ℕ) → IsTrue (has_edge xs d) → IsTrue (has_edge (x ∷ xs) d)
    later d h = elim (either (same_edge d x)) [ inl is ↦ rw is refl | inr isnt ↦ rw isnt h ]

pub starts_inside : (S : Tables) (found : List (ℕ × ℕ)) → AreLooped (edges_of S) found → AllByRecursion (λ d. d.0 < length (entries S)) found
starts_inside S found are = each_start S found found are (λ d h. h)

-- one start more
pub start_more : (keys old new : List (ℕ × ℕ)) (x : ℕ × ℕ) (starts : List Bool) → old ≡ x ∷ new → x.0 < length starts →
    ((d : ℕ × ℕ) → IsTrue (has_edge keys d) → has_edge old d ≡ false → IsTrue (slice_index_or starts d.0 false)) →
    (d : ℕ × ℕ) → IsTrue (has_edge keys d) → has_edge new d ≡ false → IsTrue (slice_index_or (slice_set starts x.0 true) d.0 false)
start_more keys old new x starts steps lt was d h none =
    elim (cases_eq d.0 x.0) [
      | inl is ↦ get_or-set_at starts x.0 d.0 true false is lt
      | inr isnt ↦ get_or-set_other starts x.0 d.0 true false isnt ∙ was d h (ap (λ (es : List (ℕ × ℕ)). has_edge es d) steps ∙ apart isnt)
    ]
  where
    apart : (d.0 ≡ x.0 → ⊥) → has_edge (x ∷ new) d ≡ false
    apart isnt = elim (either (same_edge d x)) [ inl is ↦ absurd (isnt (ap (λ (e : ℕ × ℕ). e.0) (edge_is d x is))) | inr other ↦ rw other none ]

-- where no edge on a cycle starts, nothing is looped
pub looped_start : (S : Tables) (e : Prefix) (a k : ℕ) (found : List (ℕ × ℕ)) (starts : List Bool) → AreLooped (edges_of S) found → AreStarts found starts → number_in S e ≡ Some k →
    ((p : Path) × Contains (chosen S e) p × (p.kind ≡ kinds.Recursive a)) → slice_index_or starts k false ≡ false → false ≡ looped S e a
looped_start S e a k found starts are begin n p none =
    elim (some_or_none (number_in S (host a))) [
      | inl lacks ↦ sym (looped_none S e a k lacks n)
      | inr has ↦ elim (either (has_edge found (k, has.0))) [
        | inl is ↦ absurd (false≢true (sym none ∙ begin (k, has.0) is))
        | inr isnt ↦ sym isnt ∙ looped_found S e a has.0 k found are has.1 n p
      ]
    ]
