-- What the moves of a union keep.
use Rattle.std.proofs.Common.{arith, ◌≡◌, ℕ, ◌+◌, ◌^◌, ◌<◌, ◌≤◌, inl, inr, Bool, cond, eqb, eq-eqb, List, [], ◌∷◌, ◌++◌, length, set, take, drop, map, Option, Some, None, refl, sym, ◌∙◌, ap, subst, length-set}
use Rattle.std.specs.Prelude.{count_by, slice_index}
use Rattle.std.specs.List.{All}
use Rattle.std.proofs.lemmas.Bool.{cases_lt}
use Rattle.std.proofs.lemmas.List.{length-map, length_push, get_or_past}
use Rattle.std.proofs.lemmas.List.Elements.{All-push}
use Rattle.std.proofs.lemmas.List.Sums.{sum_by-set, sum_by_push, count_by-le-length, sum_by-take-drop, get_or-le-sum_by}
use Rattle.fib_union.specs.Unions.{edge_at, leads_to, one}
use Rattle.fib_union.specs.inner.Fields.{plain, union_of, ins_of, IsWithin, IsLinked, IsKept, StartsBelow}
use Rattle.fib_union.specs.declared.retired.RetiredEdge.{RetiredEdge}
use Rattle.fib_union.specs.declared.retired.Progress.{Progress}
use Rattle.fib_union.proofs.Stores.{edge_stored_at}

module _ (edges : List (Option ℕ)) (cs : List (ℕ × ℕ)) (o : ℕ) where
  pub ins-set : (k : ℕ) (e : Option ℕ) → k < length edges → ins_of (set edges k e) cs o + one o (edge_at edges k) ≡ ins_of edges cs o + one o e
  unfolding ins_of
  ins-set k e lt =
      let a : count_by (leads_to o) (set edges k e) + one o (edge_at edges k) ≡ count_by (leads_to o) edges + one o e = sum_by-set (λ (f : Option ℕ). cond (leads_to o f) 1 0) edges k e None lt in
      omega (arith, a)

  pub ins-push : (k y : ℕ) → ins_of edges (cs ++ (k, y) ∷ []) o ≡ ins_of edges cs o + one o (Some y)
  unfolding ins_of
  ins-push k y = let a = sum_by_push (λ (c : ℕ × ℕ). cond (eqb c.1 o) 1 0) cs (k, y) in omega (arith, a)

  pub ins-few : ins_of edges cs o ≤ length edges + length cs
  unfolding ins_of
  ins-few = let a = count_by-le-length (leads_to o) edges in let b = count_by-le-length (λ (c : ℕ × ℕ). eqb c.1 o) cs in omega (arith, a, b)

  pub ins-drop : (gone : ℕ) → ins_of edges (drop gone cs) o + count_by (λ (c : ℕ × ℕ). eqb c.1 o) (take gone cs) ≡ ins_of edges cs o
  unfolding ins_of
  ins-drop gone = let a = sum_by-take-drop (λ (c : ℕ × ℕ). cond (eqb c.1 o) 1 0) cs gone in omega (arith, a)

  pub copies_counted : count_by (λ (c : ℕ × ℕ). eqb c.1 o) cs ≤ ins_of edges cs o
  unfolding ins_of
  copies_counted = omega arith

module _ {n : ℕ} {edges : List (Option ℕ)} {ins : List ℕ} {os : List RetiredEdge} {newest : List ℕ} {ps : List Progress} {left : List ℕ} {room : ℕ} (h : IsKept n edges ins os newest ps left room) where
  -- counts are small
  pub ins_small : (o : ℕ) → slice_index ins o < 2 ^ 63
  ins_small o = elim (cases_lt o n) [
    | inl lt ↦ (let e = h.counted.here o lt in let f = ins-few edges (map plain os) o in let l : length (map plain os) ≡ length os = length-map os plain in let s = h.within.size in let a = h.few in let b = h.short in omega (arith, e, f, l, s, a, b))
    | inr ge ↦ (let e : slice_index ins o ≡ 0 = get_or_past ins o 0 (let s = h.counted.size in omega (arith, s)) in omega (arith, e))
  ]

  module _ (k : ℕ) (e : Option ℕ) (here : k < length edges) (to_in : (y : ℕ) → e ≡ Some y → y < n) where
    within_set : (cs : List (ℕ × ℕ)) → All (StartsBelow n) cs → All (λ (c : ℕ × ℕ). c.1 < n) cs → IsWithin n (set edges k e) cs
    within_set cs starts targets = record {
      size = length-set edges k e ∙ h.within.size;
      ends = λ j y is. elim (edge_stored_at (union_of edges [] []) k e j y is) [ inl old ↦ h.within.ends j y old | inr new ↦ to_in y new.1 ];
      starts = starts;
      targets = targets;
    }

    -- no edge was there
    pub kept_none : (ins' : List ℕ) → length ins' ≡ length ins → ((o : ℕ) → o < length ins → slice_index ins' o ≡ slice_index ins o + one o e) → edge_at edges k ≡ None → IsKept n (set edges k e) ins' os newest ps left room
    kept_none ins' size more none = record {
      some = h.some;
      few = h.few;
      within = within_set (map plain os) h.within.starts h.within.targets;
      counted = record {
        size = size ∙ h.counted.size;
        here = λ o lt. (let s = h.counted.size in let a = more o (omega (arith, s)) in let b = ins-set edges (map plain os) o k e here in let z : ◌≡◌ {A = ℕ} (one o (edge_at edges k)) 0 = ap (λ (f : Option ℕ). one o f) none in let c = h.counted.here o lt in omega (arith, a, b, z, c));
      };
      linked = h.linked;
      progress = h.progress;
      short = h.short;
      room = h.room;
    }

    -- the edge that was there left at once
    pub kept_left : (ins' ins'' : List ℕ) (y : ℕ) → length ins'' ≡ length ins → ((o : ℕ) → o < length ins → slice_index ins' o ≡ slice_index ins o + one o e) → ((o : ℕ) → slice_index ins'' o + one o (Some y) ≡ slice_index ins' o) → edge_at edges k ≡ Some y → IsKept n (set edges k e) ins'' os newest ps left room
    kept_left ins' ins'' y size more less is = record {
      some = h.some;
      few = h.few;
      within = within_set (map plain os) h.within.starts h.within.targets;
      counted = record {
        size = size ∙ h.counted.size;
        here = λ o lt. (let s = h.counted.size in let a = more o (omega (arith, s)) in let l = less o in let b = ins-set edges (map plain os) o k e here in let z : ◌≡◌ {A = ℕ} (one o (edge_at edges k)) (one o (Some y)) = ap (λ (f : Option ℕ). one o f) is in let c = h.counted.here o lt in omega (arith, a, b, l, z, c));
      };
      linked = h.linked;
      progress = h.progress;
      short = h.short;
      room = h.room;
    }

    -- it is retired
    pub kept_retired : (ins' : List ℕ) (os' : List RetiredEdge) (newest' : List ℕ) (y : ℕ) → length ins' ≡ length ins → ((o : ℕ) → o < length ins → slice_index ins' o ≡ slice_index ins o + one o e) → edge_at edges k ≡ Some y → map plain os' ≡ map plain os ++ (k, y) ∷ [] → IsLinked n newest' os' → length left + (length os + 1) ≤ room → length os + 1 < 2 ^ 32 → IsKept n (set edges k e) ins' os' newest' ps left room
    kept_retired ins' os' newest' y size more is pushed linked roomy short =
        let long : length os' ≡ length os + 1 = (let a = length-map os' plain in let b = length-map os plain in let c = ap (λ (l : List (ℕ × ℕ)). length l) pushed in let d = length_push (map plain os) (k, y) in omega (arith, a, b, c, d)) in
        let starts : All (StartsBelow n) (map plain os') = subst (λ (cs : List (ℕ × ℕ)). All (StartsBelow n) cs) (sym pushed) (All-push (StartsBelow n) (map plain os) (k, y) h.within.starts (let s = h.within.size in omega (arith, s))) in
        let targets : All (λ (c : ℕ × ℕ). c.1 < n) (map plain os') = subst (λ (cs : List (ℕ × ℕ)). All (λ (c : ℕ × ℕ). c.1 < n) cs) (sym pushed) (All-push (λ (c : ℕ × ℕ). c.1 < n) (map plain os) (k, y) h.within.targets (h.within.ends k y is)) in
        record {
          some = h.some;
          few = h.few;
          within = within_set (map plain os') starts targets;
          counted = record {
            size = size ∙ h.counted.size;
            here = λ o lt. (let s = h.counted.size in let a = more o (omega (arith, s)) in let b = ins-set edges (map plain os') o k e here in let p : ins_of edges (map plain os') o ≡ ins_of edges (map plain os) o + one o (Some y) = ap (λ (cs : List (ℕ × ℕ)). ins_of edges cs o) pushed ∙ ins-push edges (map plain os) o k y in let z : ◌≡◌ {A = ℕ} (one o (edge_at edges k)) (one o (Some y)) = ap (λ (f : Option ℕ). one o f) is in let c = h.counted.here o lt in omega (arith, a, b, p, z, c));
          };
          linked = linked;
          progress = λ w d lt. (let p = h.progress w d lt in record { order = p.order; within = (let q = p.within in omega (arith, q, long)); odd = p.odd });
          short = omega (arith, long, short);
          room = omega (arith, long, roomy);
        }

-- an edge that is there is counted
pub ins_there : (edges : List (Option ℕ)) (cs : List (ℕ × ℕ)) (k y : ℕ) → k < length edges → edge_at edges k ≡ Some y → 0 < ins_of edges cs y
unfolding ins_of
ins_there edges cs k y lt is =
    let one_here : ◌≡◌ {A = ℕ} (cond (leads_to y (edge_at edges k)) 1 0) 1 = ap (λ (e : Option ℕ). one y e) is ∙ ap (λ (b : Bool). cond b 1 0) (eq-eqb y y refl) in
    let a = get_or-le-sum_by (λ (f : Option ℕ). cond (leads_to y f) 1 0) edges k None lt in
    omega (arith, a, one_here)
