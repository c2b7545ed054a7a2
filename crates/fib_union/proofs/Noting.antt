-- What a search notes of a node's edges.
use Rattle.std.proofs.Common.{arith, ◌≡◌, ◌≢◌, ℕ, suc, ◌+◌, ◌*◌, ◌-◌, ◌<◌, ◌≤◌, inl, inr, List, [], ◌∷◌, ◌++◌, length, get_or, take, map, Option, Some, refl, sym, ◌∙◌, ap, subst, append_assoc, length-append}
use Rattle.std.specs.Prelude.{Contains}
use Rattle.std.proofs.lemmas.Bool.{cases_lt, cases_eq}
use Rattle.std.proofs.lemmas.List.{append-nil, get_or_append_left, get_or-append_right, get_or-take, length-take-le, length-map, get_or_default}
use Rattle.std.proofs.lemmas.List.Elements.{All-push, All-nil, Contains-append_left, All-contains}
use Rattle.fib_reach.specs.Seen.{GrowsBy}
use Rattle.fib_reach.specs.Walks.{Reaches}
use Rattle.fib_reach.proofs.Searched.{Searched, searched_found, searched_more}
use Rattle.fib_union.specs.Unions.{owner, edge_at}
use Rattle.fib_union.specs.inner.Fields.{IsGrown, CellRuns, CopyRuns, Runs, IsNewest, IsLinked, plain}
use Rattle.fib_union.specs.declared.retired.RetiredEdge.{RetiredEdge}
use Rattle.fib_union.proofs.Chains.{plain_at, no_copy}

pub grown_none : (P : ℕ → Type 0) (xs : List ℕ) → IsGrown P xs xs
grown_none P xs = ([], sym (append-nil xs), All-nil P)

pub grown_by : (P : ℕ → Type 0) (xs ys : List ℕ) (y : ℕ) → GrowsBy xs y ys → P y → IsGrown P xs ys
grown_by P xs ys y (inl e) p = subst (λ (l : List ℕ). IsGrown P xs l) (sym e) (grown_none P xs)
grown_by P xs ys y (inr e) p = (y ∷ [], e, All-push P [] y (All-nil P) p)

pub grown_then : (P Q : ℕ → Type 0) (xs ys zs : List ℕ) → IsGrown P xs ys → IsGrown Q ys zs → ((y : ℕ) → Q y → P y) → IsGrown P xs zs
grown_then P Q xs ys zs g h f = (
  g.0 ++ h.0,
  h.1 ∙ (ap (λ (l : List ℕ). l ++ h.0) g.1 ∙ append_assoc xs g.0 h.0),
  λ k d lt. elim (cases_lt k (length g.0)) [
    | inl here ↦ subst P (sym (get_or_append_left g.0 h.0 d k here)) (g.2 k d here)
    | inr past ↦ subst P (sym (get_or-append_right g.0 h.0 (length g.0) k d refl past)) (f (get_or h.0 (k - length g.0) d) (h.2 (k - length g.0) d (let l = length-append g.0 h.0 in omega arith)))
  ],
)

pub grown_keeps : (P : ℕ → Type 0) (xs ys : List ℕ) (q : ℕ) → IsGrown P xs ys → Contains xs q → Contains ys q
grown_keeps P xs ys q g c = subst (λ (l : List ℕ). Contains l q) (sym g.1) (Contains-append_left xs g.0 q c)

-- the cells of a node

owner_slot : (x s : ℕ) → s < 16 → owner (16 * x + s) ≡ x
owner_slot x s lt = omega arith

module _ (edges : List (Option ℕ)) (x to : ℕ) where
  abbrev pub Noted : ℕ → List ℕ → Type 0
  Noted n seen = (s y : ℕ) → s < n → edge_at edges (16 * x + s) ≡ Some y → (y ≢ to) × Contains seen y

  pub cells_more : (old ys zs : List ℕ) (slot : ℕ) → slot < 16 → IsGrown (CellRuns edges x) old ys → IsGrown (λ y. edge_at edges (16 * x + slot) ≡ Some y) ys zs → IsGrown (CellRuns edges x) old zs
  cells_more old ys zs slot lt g h = grown_then (CellRuns edges x) (λ y. edge_at edges (16 * x + slot) ≡ Some y) old ys zs g h (λ y e. (16 * x + slot, owner_slot x slot lt, e))

  pub noted_more : (ys zs : List ℕ) (slot : ℕ) → IsGrown (λ y. edge_at edges (16 * x + slot) ≡ Some y) ys zs → Noted slot ys → ((y : ℕ) → edge_at edges (16 * x + slot) ≡ Some y → (y ≢ to) × Contains zs y) → Noted (slot + 1) zs
  noted_more ys zs slot h n new s y lt e = elim (cases_lt s slot) [
    | inl before ↦ (let old = n s y before e in (old.0, grown_keeps (λ z. edge_at edges (16 * x + slot) ≡ Some z) ys zs y h old.1))
    | inr ge ↦ (let same : s ≡ slot = omega arith in new y (subst (λ (t : ℕ). edge_at edges (16 * x + t) ≡ Some y) same e))
  ]

  pub noted_all : (seen : List ℕ) (n : ℕ) → 16 ≤ n → Noted n seen → (y : ℕ) → CellRuns edges x y → (y ≢ to) × Contains seen y
  noted_all seen n all noted y (k, own, e) =
      let s : ℕ = k - 16 * x in
      let lt : s < n = omega arith in
      let at : k ≡ 16 * x + s = omega arith in
      noted s y lt (subst (λ (j : ℕ). edge_at edges j ≡ Some y) at e)

  pub found_cell : (slot : ℕ) → slot < 16 → edge_at edges (16 * x + slot) ≡ Some to → CellRuns edges x to
  found_cell slot lt e = (16 * x + slot, owner_slot x slot lt, e)

-- the chain of a node

module _ (os : List RetiredEdge) (x to : ℕ) where
  abbrev pub Passed : ℕ → List ℕ → Type 0
  Passed below seen = (i : ℕ) (d : RetiredEdge) → below ≤ i → i < length os → owner (get_or os i d).cell ≡ x → ((get_or os i d).to ≢ to) × Contains seen (get_or os i d).to

  plain_there : (i : ℕ) (d : RetiredEdge) → i < length os → Contains (map plain os) ((get_or os i d).cell, (get_or os i d).to)
  plain_there i d lt = (i, (let l : length (map plain os) ≡ length os = length-map os plain in omega arith), get_or_default (map plain os) i _ (plain d) (let l : length (map plain os) ≡ length os = length-map os plain in omega arith) ∙ plain_at os i d lt)

  module _ (below at : ℕ) (within : below ≤ length os) (h : IsNewest x (take below os) at) (some : 0 < at) where
    at_below : at ≤ below
    at_below = (let w = h.within in let l : length (take below os) ≡ below = length-take-le below os within in omega arith)

    pub at_within : at - 1 < length os
    at_within = (let b = at_below in omega arith)

    pub starts_here : (d : RetiredEdge) → owner (get_or os (at - 1) d).cell ≡ x
    starts_here d = (let b = at_below in let e : at ≡ suc (at - 1) = omega arith in ap (λ (o : RetiredEdge). owner o.cell) (sym (get_or-take below os (at - 1) d (omega arith))) ∙ h.here (at - 1) d e)

    pub runs_here : (d : RetiredEdge) → CopyRuns (map plain os) x (get_or os (at - 1) d).to
    runs_here d = ((get_or os (at - 1) d).cell, starts_here d, plain_there (at - 1) d at_within)

    pub passed_more : (ys zs : List ℕ) (y : ℕ) → y ≡ (get_or os (at - 1) no_copy).to → GrowsBy ys y zs → (y ≢ to) → Contains zs y → Passed below ys → Passed (at - 1) zs
    passed_more ys zs y is g ne c p i d ge lt own = elim (cases_lt i below) [
      | inl before ↦ elim (cases_eq i (at - 1)) [
        | inl same ↦ (let e : get_or os i d ≡ get_or os (at - 1) no_copy = ap (λ (j : ℕ). get_or os j d) same ∙ get_or_default os (at - 1) d no_copy at_within in
            subst (λ (q : ℕ). (q ≢ to) × Contains zs q) (is ∙ ap (λ (o : RetiredEdge). o.to) (sym e)) (ne, c))
        | inr other ↦ absurd (h.after i d (omega arith) (let l : length (take below os) ≡ below = length-take-le below os within in omega arith) (ap (λ (o : RetiredEdge). owner o.cell) (get_or-take below os i d before) ∙ own))
      ]
      | inr past ↦ (let old = p i d past lt own in (old.0, grown_keeps (λ q. q ≡ y) ys zs (get_or os i d).to (grown_by (λ q. q ≡ y) ys zs y g refl) old.1))
    ]

  pub passed_all : (below : ℕ) (seen : List ℕ) → below ≤ length os → IsNewest x (take below os) 0 → Passed below seen → (y : ℕ) → CopyRuns (map plain os) x y → (y ≢ to) × Contains seen y
  passed_all below seen within h p y (k, own, c) =
      let lt : c.0 < length os = (let l : length (map plain os) ≡ length os = length-map os plain in let b = c.1 in omega arith) in
      let e : ◌≡◌ {A = ℕ × ℕ} (plain (get_or os c.0 no_copy)) (k, y) = sym (plain_at os c.0 no_copy lt) ∙ (get_or_default (map plain os) c.0 (plain no_copy) (k, y) c.1 ∙ c.2) in
      let own_at : owner (get_or os c.0 no_copy).cell ≡ x = ap (λ (q : ℕ × ℕ). owner q.0) e ∙ own in
      elim (cases_lt c.0 below) [
        | inl before ↦ absurd (h.after c.0 no_copy (omega arith) (let l : length (take below os) ≡ below = length-take-le below os within in omega arith) (ap (λ (o : RetiredEdge). owner o.cell) (get_or-take below os c.0 no_copy before) ∙ own_at))
        | inr past ↦ subst (λ (q : ℕ). (q ≢ to) × Contains seen q) (ap (λ (q : ℕ × ℕ). q.1) e) (p c.0 no_copy past lt own_at)
      ]

-- both

module _ (edges : List (Option ℕ)) (cs : List (ℕ × ℕ)) (from to : ℕ) (seen : List ℕ) (done x : ℕ) (s : Searched (Runs edges cs) from to seen done) (lt : done < length seen) (is : x ≡ get_or seen done 0) where
  here : Contains seen x
  here = (done, lt, get_or_default seen done x 0 lt ∙ sym is)

  pub found_cells : CellRuns edges x to → Reaches (Runs edges cs) from to
  found_cells r = searched_found (Runs edges cs) from to seen done x s here (inl r)

  pub found_copies : CopyRuns cs x to → Reaches (Runs edges cs) from to
  found_copies r = searched_found (Runs edges cs) from to seen done x s here (inr r)

  pub searched_step : (ys zs : List ℕ) → IsGrown (CellRuns edges x) seen ys → ((y : ℕ) → CellRuns edges x y → (y ≢ to) × Contains ys y) → IsGrown (CopyRuns cs x) ys zs → ((y : ℕ) → CopyRuns cs x y → (y ≢ to) × Contains zs y) → Searched (Runs edges cs) from to zs (done + 1)
  searched_step ys zs g a h b =
      let all : IsGrown (Runs edges cs x) seen zs = grown_then (Runs edges cs x) (CopyRuns cs x) seen ys zs (grown_then (Runs edges cs x) (CellRuns edges x) seen seen ys (grown_none (Runs edges cs x) seen) g (λ y r. inl r)) h (λ y r. inr r) in
      subst (λ (l : List ℕ). Searched (Runs edges cs) from to l (done + 1)) (sym all.1)
      (searched_more (Runs edges cs) from to seen all.0 done x s lt (get_or_default seen done x 0 lt ∙ sym is) (omega arith)
      (λ y c. All-contains (Runs edges cs x) all.0 y all.2 c)
      (λ y r. elim r [
        | inl q ↦ (let t = a y q in (t.0, subst (λ (l : List ℕ). Contains l y) all.1 (grown_keeps (CopyRuns cs x) ys zs y h t.1)))
        | inr q ↦ (let t = b y q in (t.0, subst (λ (l : List ℕ). Contains l y) all.1 t.1))
      ]))

pub older_at : (os : List RetiredEdge) (n : ℕ) (newest : List ℕ) (x at : ℕ) → IsLinked n newest os → 0 < at → at - 1 < length os → owner (get_or os (at - 1) no_copy).cell ≡ x → IsNewest x (take (at - 1) os) (at - (get_or os (at - 1) no_copy).back)
older_at os n newest x at h some lt own =
    let o = get_or os (at - 1) no_copy in
    let e : at - 1 + 1 - o.back ≡ at - o.back = omega arith in
    subst (λ (y : ℕ). IsNewest y (take (at - 1) os) (at - o.back)) own (subst (λ (m : ℕ). IsNewest (owner o.cell) (take (at - 1) os) m) e (h.older (at - 1) no_copy lt))
