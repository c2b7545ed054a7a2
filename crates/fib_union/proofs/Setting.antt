-- An edge is set.
use Rattle.std.proofs.Common.{arith, ◌≡◌, ℕ, ◌+◌, ◌*◌, ◌<◌, ◌≤◌, ◌⊎◌, Bool, true, false, ◌||◌, ltb, eqb, List, [], ◌∷◌, ◌++◌, length, set, map, Option, Some, None, refl, sym, ◌∙◌, ap, subst}
use Rattle.std.specs.Prelude.{slice_index}
use Rattle.std.proofs.lemmas.List.{length-map}
use Rattle.fib_union.specs.Unions.{Kept, owner, edge_at, one, must_retire, stored, left_if, left_at_once}
use Rattle.fib_union.specs.inner.Fields.{plain, union_of, ins_of, IsLinked, AreProgress, IsKept, spare_of}
use Rattle.fib_union.specs.declared.retired.RetiredEdge.{RetiredEdge}
use Rattle.fib_union.specs.declared.retired.Progress.{Progress}
use Rattle.fib_union.proofs.Views.{retire-of, retired-stored, plain-stored, length-of}
use Rattle.fib_union.proofs.Keeping.{kept_none, kept_left, kept_retired, ins_there}

pub spare_pos : (room count room_left count_left : ℕ) → 0 < spare_of room count room_left count_left → (count < room) × (count_left + (count + 1) ≤ room_left) × (count < 4294967295)
spare_pos room count room_left count_left h = (omega arith, omega arith, omega arith)

module _ {edges : List (Option ℕ)} {ins : List ℕ} {os : List RetiredEdge} {newest : List ℕ} {ps : List Progress} {left : List ℕ} {room : ℕ} (h : IsKept (length ins) edges ins os newest ps left room) (from slot : ℕ) (small : slot < 16) (from_in : 16 * from < length edges) where
  abbrev pub cell : ℕ
  cell = 16 * from + slot

  pub own : owner cell ≡ from
  own = omega arith

  pub from_below : from < length ins
  from_below = (let s = h.within.size in omega arith)

  pub cell_in : cell < length edges
  cell_in = (let s = h.within.size in let f = from_below in omega arith)

  pub retire_is : must_retire (union_of edges (map plain os) ps) cell ≡ (eqb from 0 || ltb 0 (slice_index ins from))
  retire_is = retire-of edges (map plain os) ps cell ∙ (ap (λ (o : ℕ). eqb o 0 || ltb 0 (ins_of edges (map plain os) o)) own ∙ ap (λ (n : ℕ). eqb from 0 || ltb 0 n) (sym (h.counted.here from from_below)))

  pub target_below : (y : ℕ) → edge_at edges cell ≡ Some y → y < length ins
  target_below y e = h.within.ends cell y e

  module _ (e : Option ℕ) (to_in : (y : ℕ) → e ≡ Some y → 16 * y < length edges) (ins' : List ℕ) (len : length ins' ≡ length ins) (more : (o : ℕ) → o < length ins → slice_index ins' o ≡ slice_index ins o + one o e) where
    pub to_below : (y : ℕ) → e ≡ Some y → y < length ins
    to_below y is = (let t = to_in y is in let s = h.within.size in omega arith)

    pub set_none : edge_at edges cell ≡ None → IsKept (length ins') (set edges cell e) ins' os newest ps left room
    set_none none = subst (λ (n : ℕ). IsKept n (set edges cell e) ins' os newest ps left room) (sym len) (kept_none h cell e cell_in to_below ins' len more none)

    pub set_left : (ins'' : List ℕ) (y : ℕ) → length ins'' ≡ length ins' → ((o : ℕ) → slice_index ins'' o + one o (Some y) ≡ slice_index ins' o) → edge_at edges cell ≡ Some y → IsKept (length ins'') (set edges cell e) ins'' os newest ps left room
    set_left ins'' y len' less is = subst (λ (n : ℕ). IsKept n (set edges cell e) ins'' os newest ps left room) (sym (len' ∙ len)) (kept_left h cell e cell_in to_below ins' ins'' y (len' ∙ len) more less is)

    pub set_retired : (os' : List RetiredEdge) (newest' : List ℕ) (y : ℕ) → edge_at edges cell ≡ Some y → map plain os' ≡ map plain os ++ (cell, y) ∷ [] → IsLinked (length newest) newest' os' → length left + (length os + 1) ≤ room → length os < 4294967295 → IsKept (length ins') (set edges cell e) ins' os' newest' ps left room
    set_retired os' newest' y is pushed linked roomy short = subst (λ (n : ℕ). IsKept n (set edges cell e) ins' os' newest' ps left room) (sym len) (kept_retired h cell e cell_in to_below ins' os' newest' y len more is pushed (subst (λ (n : ℕ). IsLinked n newest' os') h.linked.size linked) roomy (omega arith))

    -- the edge that was there is still counted
    pub still_counted : (y : ℕ) → edge_at edges cell ≡ Some y → 0 < slice_index ins' y
    still_counted y is = (let m = more y (target_below y is) in let c = h.counted.here y (target_below y is) in let p = there y is in omega arith)
      where
        there : (y : ℕ) → edge_at edges cell ≡ Some y → 0 < ins_of edges (map plain os) y
        there y is = ins_there edges (map plain os) cell y cell_in is

pub room_for : (v now : Kept) (k y : ℕ) → v ≡ now → edge_at v.union.edges k ≡ Some y → must_retire v.union k ≡ true → ((z : ℕ) → edge_at now.union.edges k ≡ Some z → must_retire now.union k ≡ true → 0 < now.spare) → 0 < v.spare
room_for v now k y e is must room = subst (λ (q : Kept). 0 < q.spare) (sym e) (room y (subst (λ (q : Kept). edge_at q.union.edges k ≡ Some y) e is) (subst (λ (q : Kept). must_retire q.union k ≡ true) e must))

pub kept_short : {n : ℕ} {edges : List (Option ℕ)} {ins : List ℕ} {os : List RetiredEdge} {newest : List ℕ} {ps : List Progress} {left : List ℕ} {room : ℕ} → IsKept n edges ins os newest ps left room → length (union_of edges (map plain os) ps).retired < 4294967296
kept_short {n} {edges} {ins} {os} {newest} {ps} {left} {room} h = (let a = length-of edges (map plain os) ps in let b = length-map os plain in let c = h.short in omega (arith, a, b, c))

module _ {n : ℕ} {edges : List (Option ℕ)} {ins : List ℕ} {os : List RetiredEdge} {newest : List ℕ} {ps : List Progress} {left : List ℕ} {room : ℕ} (h : IsKept n edges ins os newest ps left room) (k : ℕ) (e : Option ℕ) where
  pub stored_retired : (edges' : List (Option ℕ)) (os' : List RetiredEdge) (y : ℕ) → must_retire (union_of edges (map plain os) ps) k ≡ true → edge_at edges k ≡ Some y → edges' ≡ set edges k e → map plain os' ≡ map plain os ++ (k, y) ∷ [] → union_of edges' (map plain os') ps ≡ stored (length ps) (union_of edges (map plain os) ps) k e
  stored_retired edges' os' y must is edges_is pushed =
      let l : length (map plain os) ≡ length os = length-map os plain in
      let progress : AreProgress (length (map plain os)) ps = subst (λ (m : ℕ). AreProgress m ps) (sym l) h.progress in
      ap (λ (es : List (Option ℕ)). union_of es (map plain os') ps) edges_is ∙ (ap (λ (cs : List (ℕ × ℕ)). union_of (set edges k e) cs ps) pushed ∙ sym (retired-stored edges (map plain os) ps k e y progress must is))

  pub stored_plain : (edges' : List (Option ℕ)) → (must_retire (union_of edges (map plain os) ps) k ≡ false) ⊎ (edge_at edges k ≡ None) → edges' ≡ set edges k e → union_of edges' (map plain os) ps ≡ stored (length ps) (union_of edges (map plain os) ps) k e
  stored_plain edges' why edges_is = ap (λ (es : List (Option ℕ)). union_of es (map plain os) ps) edges_is ∙ sym (plain-stored edges (map plain os) ps k e why)

  pub left_none : must_retire (union_of edges (map plain os) ps) k ≡ true → None ≡ left_at_once (union_of edges (map plain os) ps) k
  left_none must = sym (ap (λ (b : Bool). left_if b (edge_at edges k)) must)

  pub left_some : (y : ℕ) → must_retire (union_of edges (map plain os) ps) k ≡ false → edge_at edges k ≡ Some y → Some y ≡ left_at_once (union_of edges (map plain os) ps) k
  left_some y must is = sym (ap (λ (b : Bool). left_if b (edge_at edges k)) must ∙ is)

  pub left_no_edge : edge_at edges k ≡ None → None ≡ left_at_once (union_of edges (map plain os) ps) k
  left_no_edge none = by_case (must_retire (union_of edges (map plain os) ps) k)
    where
      by_case : (b : Bool) → None ≡ left_if b (edge_at edges k)
      by_case true = refl
      by_case false = sym none
