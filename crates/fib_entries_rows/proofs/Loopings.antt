-- What a prefix leads to, collected, and the edges among it that lie on cycles.
use Rattle.std.proofs.Common.{arith, ◌≡◌, ◌≢◌, ℕ, zero, suc, ◌+◌, ◌<◌, ◌≤◌, Bool, true, false, ◌||◌, List, [], ◌∷◌, ◌++◌, length, take, flat_map, get_or, cond, nat_lt, Option, Some, None, inl, inr, refl, sym, ◌∙◌, ap, subst, slice_get}
use Rattle.std.specs.Prelude.{◌⊎◌, ◌&&◌, Contains, slice_index_or}
use Rattle.std.specs.List.{AllByRecursion, position, position_or_len}
use Rattle.std.specs.Set.{is_member}
use Rattle.std.proofs.lemmas.Bool.{false≢true, cases_lt}
use Rattle.std.proofs.lemmas.Bool.Decides.{nat_tests}
use Rattle.std.proofs.lemmas.List.{flat_map_more}
use Rattle.std.proofs.lemmas.List.Elements.{Contains-append_left, Contains-append_right, Contains-append_cases}
use Rattle.std.proofs.lemmas.List.Folds.{find_at}
use Rattle.std.proofs.lemmas.List.Sums.{fails_before_first}
use Rattle.std.proofs.lemmas.Option.{slice_get_within, slice_get-get_or}
use Rattle.fib_addr.specs.Prefixes.{Prefix, same_prefix}
use Rattle.fib_addr.proofs.PrefixLaws.{same_prefix-Decides}
use Rattle.fib_base_list.proofs.Lists.{Contains-nil}
use Rattle.fib_reach.specs.Walks.{AllDiffer, Among, Leads, Next, Walk}
use Rattle.fib_reach.proofs.Walking.{edge_leads, leads_then}
use Rattle.fib_loops.specs.Loops.{AreEdges, IsLooped, IsMarked}
use Rattle.fib_loops.specs.Loops.{Marked as Marks}
use Rattle.fib_base_list.proofs.Booleans.{and_both}
use Rattle.fib_resolve_changes.proofs.Edits.{any_in, in_cases, in_front}
use Rattle.fib_base_interned.proofs.Finding.{some_is, none_some, contains_at, find_place}
use Rattle.fib_entries_rows.specs.inner.Looping.{IsMore}
use Rattle.fib_entries_rows.specs.inner.Looping.{AddsEdge, AddsEdges, AreEdgesAmong, AreLoopedEnds, AreLoops, AreMarkedEnds, Sees, has_ends, same_ends}
use Rattle.fib_entries_rows.proofs.Anew.{take_more, take_all}
use Rattle.fib_entries_rows.proofs.Seeing.{each_more, more_in, more_push, more_self, more_then}
use Rattle.fib_entries_rows.proofs.Edging.{places_join}
use Rattle.fib_entries_rows.proofs.Linking.{member_in}
use Rattle.fib_entries_rows.proofs.PlyOrder.{index_of}
use Rattle.fib_entries_rows.proofs.Touches.{append_differ}

-- a list that is put together part by part
pub flat_step : {X Y : Type 0} (f : X → List Y) (xs : List X) (i : ℕ) (x : X) (old out new : List Y) → slice_get xs i ≡ Some x → out ≡ old ++ flat_map f (take i xs) → new ≡ out ++ f x → new ≡ old ++ flat_map f (take (i + 1) xs)
flat_step f xs i x old out new here before after =
    let inside = slice_get_within xs i x here in
    let is : x ≡ get_or xs i x = some_is x (get_or xs i x) (sym here ∙ slice_get-get_or xs i x inside) in
    after ∙ (ap (λ l. l ++ f x) before ∙ (flat_map_more f old (take i xs) x ∙ ap (λ l. old ++ flat_map f l) (sym (take_more xs i x inside is))))

pub flat_whole : {X Y : Type 0} (f : X → List Y) (xs : List X) (i : ℕ) (old out : List Y) → length xs ≤ i → out ≡ old ++ flat_map f (take i xs) → out ≡ old ++ flat_map f xs
flat_whole f xs i old out le before = before ∙ ap (λ l. old ++ flat_map f l) (take_all xs i le)

differ_push : (list : List Prefix) (p : Prefix) → AllDiffer list → is_member same_prefix list p ≡ false → AllDiffer (list ++ p ∷ [])
differ_push list p once off = append_differ list (p ∷ []) once (tt, tt) (λ x y cx cy is. elim (in_cases p y [] cy) [
  | inl own ↦ (let c = subst (Contains list) (is ∙ sym own) cx in false≢true (sym off ∙ any_in (same_prefix p) list p c ((same_prefix-Decides p p).1 refl)))
  | inr none ↦ absurd (Contains-nil y none)
])

-- one prefix
pub sees_same : (seen : List Prefix) (e : Prefix) → AllDiffer seen → is_member same_prefix seen e ≡ true → Sees (e ∷ []) seen seen
sees_same seen e once there = (
  more_self seen,
  once,
  λ t c. elim (in_cases e t [] c) [ inl is ↦ subst (Contains seen) is (member_in seen e there) | inr none ↦ absurd (Contains-nil t none) ],
)

pub sees_put : (old new : List Prefix) (e : Prefix) → AllDiffer old → is_member same_prefix old e ≡ false → new ≡ old ++ e ∷ [] → Sees (e ∷ []) old new
sees_put old new e once off made =
    let r = more_push old new e made in (
      r.0,
      subst AllDiffer (sym made) (differ_push old e once off),
      λ t c. elim (in_cases e t [] c) [ inl is ↦ subst (Contains new) is r.1 | inr none ↦ absurd (Contains-nil t none) ],
    )

-- those of a list before a place
abbrev pub SeesFirst : List Prefix → ℕ → List Prefix → List Prefix → Type 0
SeesFirst list place old new = IsMore old new × AllDiffer new × ((i : ℕ) (t : Prefix) → i < place → slice_get list i ≡ Some t → Contains new t)

pub sees_none : (list seen : List Prefix) → AllDiffer seen → SeesFirst list 0 seen seen
sees_none list seen once = (more_self seen, once, λ i t lt at. absurd (omega (arith, lt)))

pub sees_step : (list : List Prefix) (place : ℕ) (e : Prefix) (first old new : List Prefix) → slice_get list place ≡ Some e → SeesFirst list place first old → Sees (e ∷ []) old new → SeesFirst list (place + 1) first new
sees_step list place e first old new here before sees = (
  more_then first old new before.0 sees.0,
  sees.1,
  each_more (λ x l. Contains l x) (λ x a b more c. more_in a b more x c) list place e old new here sees.0 before.2 (sees.2 e (0, omega arith, refl)),
)

pub sees_whole : (list : List Prefix) (place : ℕ) (old new : List Prefix) → length list ≤ place → SeesFirst list place old new → Sees list old new
sees_whole list place old new le h = (
  h.0,
  h.1,
  λ t c. (let g = index_of list t c in let inside = slice_get_within list g.0 t g.1 in h.2 g.0 t (omega (arith, inside, le)) g.1),
)

-- the place of a prefix
test_lt : (n m k : ℕ) → Some k ≡ cond (nat_lt n m) (Some n) None → (k ≡ n) × (n < m)
test_lt n m k is = elim (cases_lt n m) [
  | inl lt ↦ (grind (arith, nat_tests, is, lt), lt)
  | inr over ↦ absurd (grind (arith, nat_tests, is, over))
]

test_ge : (n m : ℕ) → ◌≡◌ {A = Option ℕ} None (cond (nat_lt n m) (Some n) None) → m ≤ n
test_ge n m is = elim (cases_lt n m) [
  | inl lt ↦ absurd (grind (arith, nat_tests, is, lt))
  | inr over ↦ over
]

pub place_found : (order : List Prefix) (p : Prefix) (k : ℕ) → Some k ≡ position (same_prefix p) order → slice_get order k ≡ Some p
place_found order p k is =
    let n = position_or_len (same_prefix p) order in
    let r = test_lt n (length order) k is in
    let q = get_or order n p in
    let here = slice_get-get_or order n p r.1 in
    let f = find_place (same_prefix p) order q (find_at (same_prefix p) order ∙ here) in
    ap (slice_get order) r.0 ∙ (here ∙ ap Some (sym ((same_prefix-Decides p q).0 f.2)))

pub place_missed : (order : List Prefix) (p : Prefix) → None ≡ position (same_prefix p) order → Contains order p → ⊥
place_missed order p is c =
    let n = position_or_len (same_prefix p) order in
    let le = test_ge n (length order) is in
    let g = index_of order p c in
    let inside = slice_get_within order g.0 p g.1 in
    let own : get_or order g.0 p ≡ p = some_is (get_or order g.0 p) p (sym (slice_get-get_or order g.0 p inside) ∙ g.1) in
    false≢true (sym (fails_before_first (same_prefix p) order g.0 p (omega (arith, inside, le))) ∙ (same_prefix-Decides p (get_or order g.0 p)).1 (sym own))

each_at : (P : Prefix → Type 0) (xs : List Prefix) → AllByRecursion P xs → (j : ℕ) (y : Prefix) → slice_get xs j ≡ Some y → P y
each_at P [] all j y here = absurd (none_some y here)
each_at P (x ∷ xs) all zero y here = subst P (some_is x y here) all.0
each_at P (x ∷ xs) all (suc j) y here = each_at P xs all.1 j y here

pub once_in : (order : List Prefix) → AllDiffer order → (i j : ℕ) (p : Prefix) → slice_get order i ≡ Some p → slice_get order j ≡ Some p → i ≡ j
once_in [] once i j p a b = absurd (none_some p a)
once_in (x ∷ xs) once zero zero p a b = refl
once_in (x ∷ xs) once zero (suc j) p a b = absurd (each_at (λ y. x ≢ y) xs once.0 j p b (some_is x p a))
once_in (x ∷ xs) once (suc i) zero p a b = absurd (each_at (λ y. x ≢ y) xs once.0 i p a (some_is x p b))
once_in (x ∷ xs) once (suc i) (suc j) p a b = ap (λ n. suc n) (once_in xs once.1 i j p a b)

-- edges from a place
pub edge_put : (order : List Prefix) (from to : ℕ) (t : Prefix) (old new : List (ℕ × ℕ)) → AllDiffer order → slice_get order to ≡ Some t → new ≡ old ++ (from, to) ∷ [] → AddsEdge order from t old new
edge_put order from to t old new once here made d = (
  λ c. elim (Contains-append_cases old ((from, to) ∷ []) d (subst (λ l. Contains l d) made c)) [
    | inl early ↦ inl early
    | inr late ↦ elim (in_cases (from, to) d [] late) [ inl is ↦ inr (ap (λ (z : ℕ × ℕ). z.0) (sym is), ap (λ (z : ℕ × ℕ). slice_get order z.1) (sym is) ∙ here) | inr none ↦ absurd (Contains-nil d none) ]
  ],
  λ k. subst (λ l. Contains l d) (sym made) (elim k [
    | inl c ↦ Contains-append_left old ((from, to) ∷ []) d c
    | inr n ↦ (let to_is = once_in order once to d.1 t here n.1 in
        Contains-append_right old ((from, to) ∷ []) d (in_front (from, to) d [] (ap (λ z. (from, z)) to_is ∙ ap (λ z. (z, d.1)) (sym n.0))))
  ]),
)

pub edge_none : (order : List Prefix) (from : ℕ) (t : Prefix) (old : List (ℕ × ℕ)) → (Contains order t → ⊥) → AddsEdge order from t old old
edge_none order from t old off d = (λ c. inl c, λ k. elim k [ inl c ↦ c | inr n ↦ absurd (off (contains_at order d.1 t n.1)) ])

edges_more : (order : List Prefix) (from : ℕ) (done : List Prefix) (t : Prefix) (old mid new : List (ℕ × ℕ)) → AddsEdges order from done old mid → AddsEdge order from t mid new → AddsEdges order from (done ++ t ∷ []) old new
edges_more order from done t old mid new before adds d = (
  λ c. elim ((adds d).0 c) [
    | inl early ↦ elim ((before d).0 early) [ inl o ↦ inl o | inr x ↦ inr (x.0, x.1, Contains-append_left done (t ∷ []) x.1 x.2, x.3) ]
    | inr mine ↦ inr (mine.0, t, Contains-append_right done (t ∷ []) t (in_front t t [] refl), mine.1)
  ],
  λ k. elim k [
    | inl o ↦ (adds d).1 (inl ((before d).1 (inl o)))
    | inr x ↦ elim (Contains-append_cases done (t ∷ []) x.1 x.2) [
      | inl early ↦ (adds d).1 (inl ((before d).1 (inr (x.0, x.1, early, x.3))))
      | inr late ↦ elim (in_cases t x.1 [] late) [ inl is ↦ (adds d).1 (inr (x.0, x.3 ∙ ap Some (sym is))) | inr none ↦ absurd (Contains-nil x.1 none) ]
    ]
  ],
)

pub edges_step : (order : List Prefix) (from : ℕ) (targets : List Prefix) (i : ℕ) (t : Prefix) (old mid new : List (ℕ × ℕ)) → slice_get targets i ≡ Some t → AddsEdges order from (take i targets) old mid → AddsEdge order from t mid new
    → AddsEdges order from (take (i + 1) targets) old new
edges_step order from targets i t old mid new here before adds =
    let inside = slice_get_within targets i t here in
    let is : t ≡ get_or targets i t = some_is t (get_or targets i t) (sym here ∙ slice_get-get_or targets i t inside) in
    subst (λ l. AddsEdges order from l old new) (sym (take_more targets i t inside is)) (edges_more order from (take i targets) t old mid new before adds)

pub edges_whole : (order : List Prefix) (from : ℕ) (targets : List Prefix) (i : ℕ) (old new : List (ℕ × ℕ)) → length targets ≤ i → AddsEdges order from (take i targets) old new → AddsEdges order from targets old new
edges_whole order from targets i old new le h = subst (λ l. AddsEdges order from l old new) (take_all targets i le) h

module _ (next : Prefix → List Prefix) (order : List Prefix) where
  pub among_none : AreEdgesAmong next order 0 []
  among_none d = (λ c. absurd (Contains-nil d c), λ k. absurd (let lt = k.0 in omega (arith, lt)))

  pub among_more : (from : ℕ) (e : Prefix) (ahead : List Prefix) (old new : List (ℕ × ℕ)) → AreEdgesAmong next order from old → slice_get order from ≡ Some e → ahead ≡ next e → AddsEdges order from ahead old new → AreEdgesAmong next order (from + 1) new
  among_more from e ahead old new before here is_next adds d = (
    λ c. elim ((adds d).0 c) [
      | inl early ↦ (let r = (before d).0 early in ((let lt = r.0 in omega (arith, lt)), r.1))
      | inr x ↦ ((let is = x.0 in omega (arith, is)), (e, x.1, ap (slice_get order) x.0 ∙ here, x.3, subst (λ l. Contains l x.1) is_next x.2))
    ],
    λ k. elim (cases_lt d.0 from) [
      | inl low ↦ (adds d).1 (inl ((before d).1 (low, k.1)))
      | inr high ↦ (let is : d.0 ≡ from = (let lt = k.0 in omega (arith, lt, high)) in
          let own = some_is k.1.0 e (sym k.1.2 ∙ (ap (slice_get order) is ∙ here)) in
          (adds d).1 (inr (is, k.1.1, subst (λ l. Contains l k.1.1) (sym is_next) (subst (λ z. Contains (next z) k.1.1) own k.1.4), k.1.3)))
    ],
  )

  pub among_join : (n : ℕ) (edges : List (ℕ × ℕ)) → AreEdgesAmong next order n edges → AreEdges (length order) edges
  among_join n edges are = places_join order edges (λ d c. (let r = (are d).0 c in (slice_get_within order d.0 r.1.0 r.1.2, slice_get_within order d.1 r.1.1 r.1.3)))

  module _ (edges : List (ℕ × ℕ)) (once : AllDiffer order) (closed : (e t : Prefix) → Contains order e → Contains (next e) t → Leads (Next next) t e → Contains order t) (are : AreEdgesAmong next order (length order) edges) where
    walk_back : (n i j : ℕ) (a b : Prefix) → slice_get order i ≡ Some a → slice_get order j ≡ Some b → Walk (Among edges) n i j → Walk (Next next) n a b
    walk_back zero i j a b at_i at_j w = some_is a b (sym at_i ∙ (ap (slice_get order) w ∙ at_j))
    walk_back (suc n) i j a b at_i at_j w =
        let r = ((are (i, w.0)).0 w.1).1 in
        let own = some_is r.0 a (sym r.2 ∙ at_i) in
        (r.1, subst (λ z. Contains (next z) r.1) own r.4, walk_back n w.0 j r.1 b r.3 at_j w.2)

    -- along a walk whose end leads back to its start
    walk_on : (n i j : ℕ) (a b : Prefix) → slice_get order i ≡ Some a → slice_get order j ≡ Some b → Leads (Next next) b a → Walk (Next next) n a b → Walk (Among edges) n i j
    walk_on zero i j a b at_i at_j back w = once_in order once i j b (at_i ∙ ap Some w) at_j
    walk_on (suc n) i j a b at_i at_j back w =
        let k = index_of order w.0 (closed a w.0 (contains_at order i a at_i) w.1 (leads_then (Next next) w.0 b a (n, w.2) back)) in (
          k.0,
          (are (i, k.0)).1 (slice_get_within order i a at_i, (a, w.0, at_i, k.1, w.1)),
          walk_on n k.0 j w.0 b k.1 at_j (leads_then (Next next) b a w.0 back (edge_leads (Next next) a w.0 w.1)) w.2,
        )

    pub loops_are : (found : List (Prefix × Prefix)) → AreLoopedEnds order edges found → AreLoops next order found
    loops_are found ends e t there ahead = (
      λ h. (let r = (ends e t).0 h in (r.2.0, walk_back r.2.0 r.0.1 r.0.0 t e r.3.1 r.3.0 r.2.1)),
      λ w. (let i = index_of order e there in
          let j = index_of order t (closed e t there ahead w) in
          (ends e t).1 ((i.0, j.0), (are (i.0, j.0)).1 (slice_get_within order i.0 e i.1, (e, t, i.1, j.1, ahead)), (w.0, walk_on w.0 j.0 i.0 t e j.1 i.1 (edge_leads (Next next) e t ahead) w.1), (i.1, j.1))),
    )

-- marked edges by their ends
or_cases : (b c : Bool) → (b || c) ≡ true → (b ≡ true) ⊎ (c ≡ true)
or_cases true c h = inl refl
or_cases false c h = inr h

both_and : (b c : Bool) → b ≡ true → c ≡ true → (b && c) ≡ true
both_and b c h k = rw (h, k) refl

or_left : (b c : Bool) → b ≡ true → (b || c) ≡ true
or_left b c h = rw h refl

or_right : (b c : Bool) → c ≡ true → (b || c) ≡ true
or_right true c h = refl
or_right false c h = h

pub put_ends : (b put : Bool) → {c : Bool} → c ≡ cond put true b → c ≡ (b || put)
put_ends true true h = h
put_ends true false h = h
put_ends false true h = h
put_ends false false h = h

module _ (order : List Prefix) (edges : List (ℕ × ℕ)) (marks : List Bool) (k : ℕ) (d : ℕ × ℕ) (from to : Prefix) (here : slice_get edges k ≡ Some d) (at_from : slice_get order d.0 ≡ Some from) (at_to : slice_get order d.1 ≡ Some to) (old new : List (Prefix × Prefix)) (was : AreMarkedEnds order edges marks k old) where
  pub ends_more : (b : Bool) → b ≡ slice_index_or marks k false → ((e t : Prefix) → has_ends new e t ≡ (has_ends old e t || (b && same_ends (from, to) (e, t)))) → AreMarkedEnds order edges marks (k + 1) new
  ends_more true mark put e t = (
    λ h. elim (or_cases (has_ends old e t) (same_ends (from, to) (e, t)) (sym (put e t) ∙ h)) [
      | inl o ↦ (let r = (was e t).0 o in (r.0, r.1, (let lt = r.2 in omega (arith, lt)), r.3, r.4, r.5))
      | inr s ↦ (let both = and_both (same_prefix from e) (same_prefix to t) s in
          (k, d, omega arith, here, sym mark, (at_from ∙ ap Some ((same_prefix-Decides from e).0 both.0), at_to ∙ ap Some ((same_prefix-Decides to t).0 both.1))))
    ],
    λ r. elim (cases_lt r.0 k) [
      | inl early ↦ put e t ∙ or_left (has_ends old e t) (same_ends (from, to) (e, t)) ((was e t).1 (r.0, r.1, early, r.3, r.4, r.5))
      | inr late ↦ (let is : r.0 ≡ k = (let lt = r.2 in omega (arith, lt, late)) in
          let own = some_is d r.1 (sym here ∙ (ap (slice_get edges) (sym is) ∙ r.3)) in
          let a = some_is from e (sym at_from ∙ (ap (λ (z : ℕ × ℕ). slice_get order z.0) own ∙ r.5.0)) in
          let b = some_is to t (sym at_to ∙ (ap (λ (z : ℕ × ℕ). slice_get order z.1) own ∙ r.5.1)) in
          put e t ∙ or_right (has_ends old e t) (same_ends (from, to) (e, t)) (both_and (same_prefix from e) (same_prefix to t) ((same_prefix-Decides from e).1 a) ((same_prefix-Decides to t).1 b)))
    ],
  )
  ends_more false mark put e t = (
    λ h. elim (or_cases (has_ends old e t) false (sym (put e t) ∙ h)) [
      | inl o ↦ (let r = (was e t).0 o in (r.0, r.1, (let lt = r.2 in omega (arith, lt)), r.3, r.4, r.5))
      | inr s ↦ absurd (false≢true s)
    ],
    λ r. elim (cases_lt r.0 k) [
      | inl early ↦ put e t ∙ or_left (has_ends old e t) false ((was e t).1 (r.0, r.1, early, r.3, r.4, r.5))
      | inr late ↦ (let is : r.0 ≡ k = (let lt = r.2 in omega (arith, lt, late)) in
          absurd (false≢true (mark ∙ (ap (λ n. slice_index_or marks n false) (sym is) ∙ r.4))))
    ],
  )

pub looped_ends : (nodes : ℕ) (order : List Prefix) (edges : List (ℕ × ℕ)) (m : Marks) (found : List (Prefix × Prefix)) → IsMarked nodes edges m → AreMarkedEnds order edges m.looped (length edges) found → AreLoopedEnds order edges found
looped_ends nodes order edges m found is are e t = (
  λ h. (let r = (are e t).0 h in
      (r.1, contains_at edges r.0 r.1 r.3, subst (IsLooped edges) (edge_here r.0 r.1 r.2 r.3) ((is.loops r.0 r.1 r.2).0 r.4), r.5)),
  λ r. (let g = index_of edges r.0 r.1 in
      let inside = slice_get_within edges g.0 r.0 g.1 in
      (are e t).1 (g.0, r.0, inside, g.1, (is.loops g.0 r.0 inside).1 (subst (IsLooped edges) (sym (edge_here g.0 r.0 inside g.1)) r.2), r.3)),
)
  where
    edge_here : (k : ℕ) (d : ℕ × ℕ) → k < length edges → slice_get edges k ≡ Some d → slice_index_or edges k d ≡ d
    edge_here k d lt here = some_is (slice_index_or edges k d) d (sym (slice_get-get_or edges k d lt) ∙ here)
