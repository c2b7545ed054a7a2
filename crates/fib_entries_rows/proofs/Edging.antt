-- Edges by places, made from paths.
use Rattle.std.proofs.Common.{arith, ◌≡◌, ◌≢◌, ℕ, zero, suc, ◌+◌, ◌<◌, Bool, true, false, List, [], ◌∷◌, ◌++◌, length, take, Some, inl, inr, refl, sym, ◌∙◌, ap, subst, slice_get, ◌↔◌, if◌then◌else◌}
use Rattle.std.specs.Prelude.{Contains, slice_index_or}
use Rattle.std.proofs.lemmas.Bool.{false≢true, cases_lt}
use Rattle.std.proofs.lemmas.List.Elements.{Contains-append_left, Contains-append_right, Contains-append_cases}
use Rattle.std.proofs.lemmas.Option.{slice_get_within}
use Rattle.fib_base_list.proofs.Lists.{Contains-nil, Contains-flat_map}
use Rattle.fib_addr.specs.Prefixes.{Prefix}
use Rattle.fib_resolve.specs.Pairs.{entries, chosen}
use Rattle.fib_resolve.specs.Loops.{targets, kind_targets}
use Rattle.fib_resolve.specs.declared.types.Path.{Path}
use Rattle.fib_resolve.specs.declared.types.PathKind.{PathKind}
use Rattle.fib_resolve.specs.declared.types.Tables.{Tables}
use Rattle.fib_loops.specs.Loops.{AreEdges}
use Rattle.fib_resolve.proofs.KeptEdges.{kept_target}
use Rattle.fib_resolve_changes.specs.Ranks.{wakes}
use Rattle.fib_resolve_changes.proofs.Ranking.{wake_edge}
use Rattle.fib_resolve_changes.proofs.Edits.{in_cases, in_front}
use Rattle.fib_resolve_changes.proofs.SamePairs.{flat_map_from}
use Rattle.fib_resolve_changes.proofs.Targets.{edge_entry}
use Rattle.fib_base_interned.proofs.Finding.{some_is}
use Rattle.fib_entries_rows.specs.inner.Building.{IsKeptEdge, AreKeptEdges}
use Rattle.fib_entries_rows.specs.inner.Edges.{AreEdgesOf, IsPathEdge, AddsPath, AddsPaths, ArePlaces, AreSources}
use Rattle.fib_entries_rows.proofs.Anew.{take_more, entry_of}

pub one_path : (S : Tables) (order : List Prefix) (from to : ℕ) (e t : Prefix) (kind : PathKind) (old new : List (ℕ × ℕ)) → ((i j : ℕ) (p : Prefix) → slice_get order i ≡ Some p → slice_get order j ≡ Some p → i ≡ j) → t ∷ [] ≡ kind_targets S e kind → slice_get order to ≡ Some t
    → new ≡ old ++ (from, to) ∷ [] → AddsPath S order from e kind old new
one_path S order from to e t kind old new once one at made d = (
  λ c. elim (Contains-append_cases old ((from, to) ∷ []) d (subst (λ l. Contains l d) made c)) [
    | inl early ↦ inl early
    | inr late ↦ elim (in_cases (from, to) d [] late) [
      | inl is ↦ inr (ap (λ (z : ℕ × ℕ). z.0) (sym is), t, subst (λ l. Contains l t) one (in_front t t [] refl), ap (λ (z : ℕ × ℕ). slice_get order z.1) (sym is) ∙ at)
      | inr none ↦ absurd (Contains-nil d none)
    ]
  ],
  λ k. subst (λ l. Contains l d) (sym made) (elim k [
    | inl c ↦ Contains-append_left old ((from, to) ∷ []) d c
    | inr new_one ↦ (let is = only t new_one.1 (subst (λ l. Contains l new_one.1) (sym one) new_one.2) in
        let to_is = once to d.1 t at (new_one.3 ∙ ap Some (sym is)) in
        Contains-append_right old ((from, to) ∷ []) d (in_front (from, to) d [] (ap (λ z. (from, z)) to_is ∙ ap (λ z. (z, d.1)) (sym new_one.0))))
  ]),
)
  where
    only : (t u : Prefix) → Contains (t ∷ []) u → t ≡ u
    only t u c = elim (in_cases t u [] c) [ inl is ↦ is | inr none ↦ absurd (Contains-nil u none) ]

pub more_paths : (S : Tables) (order : List Prefix) (from : ℕ) (e : Prefix) (paths : List Path) (p : Path) (old mid new : List (ℕ × ℕ)) → AddsPaths S order from e paths old mid → AddsPath S order from e p.kind mid new → AddsPaths S order from e (paths ++ p ∷ []) old new
more_paths S order from e paths p old mid new before adds d = (
  λ c. elim ((adds d).0 c) [
    | inl early ↦ elim ((before d).0 early) [ inl o ↦ inl o | inr x ↦ inr (x.0, Contains-append_left paths (p ∷ []) x.0 x.1, x.2) ]
    | inr mine ↦ inr (p, Contains-append_right paths (p ∷ []) p (in_front p p [] refl), mine)
  ],
  λ k. elim k [
    | inl o ↦ (adds d).1 (inl ((before d).1 (inl o)))
    | inr x ↦ elim (Contains-append_cases paths (p ∷ []) x.0 x.1) [
      | inl early ↦ (adds d).1 (inl ((before d).1 (inr (x.0, early, x.2))))
      | inr late ↦ elim (in_cases p x.0 [] late) [
        | inl is ↦ (adds d).1 (inr (subst (λ (z : Path). IsPathEdge S order from e z.kind d) (sym is) x.2))
        | inr none ↦ absurd (Contains-nil x.0 none)
      ]
    ]
  ],
)

pub more_edges_of : (S : Tables) (order : List Prefix) (from : ℕ) (e : Prefix) (old new : List (ℕ × ℕ)) → AreEdgesOf S order from old → slice_get order from ≡ Some e → AddsPaths S order from e (chosen S e) old new → AreEdgesOf S order (from + 1) new
unfolding targets
more_edges_of S order from e old new before at adds d = (
  λ c. elim ((adds d).0 c) [
    | inl early ↦ (let r = (before d).0 early in ((let lt = r.0 in omega (arith, lt)), r.1))
    | inr x ↦ ((let is = x.2.0 in omega (arith, is)), (e, x.2.1, ap (slice_get order) x.2.0 ∙ at, x.2.3, Contains-flat_map (λ p. kind_targets S e p.kind) (chosen S e) x.0 x.2.1 x.1 x.2.2))
  ],
  λ k. elim (cases_lt d.0 from) [
    | inl low ↦ (adds d).1 (inl ((before d).1 (low, k.1)))
    | inr high ↦ (let is : d.0 ≡ from = (let lt = k.0 in omega (arith, lt, high)) in
        let own = some_is k.1.0 e (sym k.1.2 ∙ ap (slice_get order) is ∙ at) in
        let r = flat_map_from (λ p. kind_targets S e p.kind) (chosen S e) k.1.1 (subst (λ z. Contains (targets S z) k.1.1) own k.1.4) in
        (adds d).1 (inr (r.0, r.1, (is, k.1.1, r.2, k.1.3))))
  ],
)

-- both ends are places
pub edge_places : (S : Tables) (order : List Prefix) (done : ℕ) (edges : List (ℕ × ℕ)) → AreEdgesOf S order done edges → ArePlaces order edges
edge_places S order done edges are d c = let r = (are d).0 c in (slice_get_within order d.0 r.1.0 r.1.2, slice_get_within order d.1 r.1.1 r.1.3)

-- those that are kept, among the first
abbrev pub AreKeptOf : Tables → List Prefix → List (ℕ × ℕ) → List (ℕ × ℕ) → Type 0
AreKeptOf S order edges kept = (d : ℕ × ℕ) → Contains kept d ↔ Contains edges d × IsKeptEdge S order d

pub more_kept : (S : Tables) (order : List Prefix) (edges old new : List (ℕ × ℕ)) (edge : ℕ × ℕ) (e t : Prefix) (test : Bool) → AreKeptOf S order edges old → slice_get order edge.0 ≡ Some e → slice_get order edge.1 ≡ Some t → test ≡ wakes S e t
    → new ≡ (if test then old ++ edge ∷ [] else old) → AreKeptOf S order (edges ++ edge ∷ []) new
more_kept S order edges old new edge e t test before at_e at_t is made d = (there, back)
  where
    there : Contains new d → Contains (edges ++ edge ∷ []) d × IsKeptEdge S order d
    there c = by test refl (subst (λ l. Contains l d) made c)
      where
        by : (b : Bool) → test ≡ b → Contains (if b then old ++ edge ∷ [] else old) d → Contains (edges ++ edge ∷ []) d × IsKeptEdge S order d
        by false w c = (let r = (before d).0 c in (Contains-append_left edges (edge ∷ []) d r.0, r.1))
        by true w c = elim (Contains-append_cases old (edge ∷ []) d c) [
          | inl early ↦ (let r = (before d).0 early in (Contains-append_left edges (edge ∷ []) d r.0, r.1))
          | inr late ↦ elim (in_cases edge d [] late) [
            | inl same ↦ (Contains-append_right edges (edge ∷ []) d late, (e, t, ap (λ (z : ℕ × ℕ). slice_get order z.0) (sym same) ∙ at_e, ap (λ (z : ℕ × ℕ). slice_get order z.1) (sym same) ∙ at_t, sym is ∙ w))
            | inr none ↦ absurd (Contains-nil d none)
          ]
        ]

    back : Contains (edges ++ edge ∷ []) d × IsKeptEdge S order d → Contains new d
    back k = subst (λ l. Contains l d) (sym made) (elim (Contains-append_cases edges (edge ∷ []) d k.0) [
      | inl early ↦ keep test ((before d).1 (early, k.1))
      | inr late ↦ elim (in_cases edge d [] late) [
        | inl same ↦ (let e_is = some_is e k.1.0 (sym at_e ∙ ap (λ (z : ℕ × ℕ). slice_get order z.0) same ∙ k.1.2) in
            let t_is = some_is t k.1.1 (sym at_t ∙ ap (λ (z : ℕ × ℕ). slice_get order z.1) same ∙ k.1.3) in
            let passes : test ≡ true = is ∙ ap (λ z. wakes S z t) e_is ∙ ap (wakes S k.1.0) t_is ∙ k.1.4 in
            put test passes (Contains-append_right old (edge ∷ []) d late))
        | inr none ↦ absurd (Contains-nil d none)
      ]
    ])
      where
        keep : (b : Bool) → Contains old d → Contains (if b then old ++ edge ∷ [] else old) d
        keep true c = Contains-append_left old (edge ∷ []) d c
        keep false c = c

        put : (b : Bool) → b ≡ true → Contains (old ++ edge ∷ []) d → Contains (if b then old ++ edge ∷ [] else old) d
        put true w c = c
        put false w c = absurd (false≢true w)

-- of all edges these are the kept ones
pub all_kept : (S : Tables) (order : List Prefix) (edges kept : List (ℕ × ℕ)) → AreEdgesOf S order (length order) edges → AreKeptOf S order edges kept → AreKeptEdges S order (length order) kept
all_kept S order edges kept are h d = (
  λ c. (let r = (h d).0 c in (slice_get_within order d.0 r.1.0 r.1.2, r.1)),
  λ k. (h d).1 ((are d).1 (k.0, (k.1.0, k.1.1, k.1.2, k.1.3, kept_target S k.1.0 k.1.1 (wake_edge S k.1.0 k.1.1 k.1.4))), k.1),
)

-- the sources of all edges to an entry are those that have an edge to it
pub sources_are : (S : Tables) (order : List Prefix) (edges : List (ℕ × ℕ)) (e : Prefix) (list : List Prefix) → ((p : Prefix) → Contains order p ↔ Contains (entries S) p) → AreEdgesOf S order (length order) edges → AreSources order edges e list
    → (d : Prefix) → Contains list d ↔ Contains (targets S d) e
sources_are S order edges e list same are h d = (
  λ c. (let r = h.real d c in let x = (are r.0).0 r.1 in
      subst (λ z. Contains (targets S d) z) (some_is x.1.1 e (sym x.1.3 ∙ r.3)) (subst (λ z. Contains (targets S z) x.1.1) (some_is x.1.0 d (sym x.1.2 ∙ r.2)) x.1.4)),
  λ c. (let a = place order d ((same d).1 (entry_of S d e c)) in let b = place order e ((same e).1 (edge_entry S d e c)) in
      h.found (a.0, b.0) d ((are (a.0, b.0)).1 (slice_get_within order a.0 d a.1, (d, e, a.1, b.1, c))) a.1 b.1),
)
  where
    place : (xs : List Prefix) (p : Prefix) → Contains xs p → (k : ℕ) × (slice_get xs k ≡ Some p)
    place [] p c = absurd (Contains-nil p c)
    place (x ∷ xs) p c = elim (in_cases x p xs c) [ inl is ↦ (0, ap Some is) | inr later ↦ (let r = place xs p later in (suc r.0, r.1)) ]

any_default : (xs : List (ℕ × ℕ)) (k : ℕ) (d e : ℕ × ℕ) → k < length xs → slice_index_or xs k d ≡ slice_index_or xs k e
any_default [] k d e lt = absurd (omega (arith, lt))
any_default (x ∷ xs) zero d e lt = refl
any_default (x ∷ xs) (suc k) d e lt = any_default xs k d e (omega (arith, lt))

-- the edge at a place
pub edge_in : (edges : List (ℕ × ℕ)) (k : ℕ) (d : ℕ × ℕ) → k < length edges → Contains edges (slice_index_or edges k d)
edge_in edges k d lt = (k, lt, any_default edges k (slice_index_or edges k d) d lt)

pub edge_take : (edges : List (ℕ × ℕ)) (k : ℕ) (d : ℕ × ℕ) → k < length edges → take (k + 1) edges ≡ take k edges ++ slice_index_or edges k d ∷ []
edge_take edges k d lt = take_more edges k (slice_index_or edges k d) lt (any_default edges k d (slice_index_or edges k d) lt)

-- edges between places join nodes
pub places_join : (order : List Prefix) (edges : List (ℕ × ℕ)) → ArePlaces order edges → AreEdges (length order) edges
places_join order edges h k d lt = h (slice_index_or edges k d) (edge_in edges k d lt)
