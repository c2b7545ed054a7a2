-- Whether an edge closes a cycle, and the fresh union.
use Rattle.std.proofs.Common.{arith, ◌≡◌, ◌≢◌, ℕ, zero, suc, ◌*◌, ◌<◌, ◌↔◌, inl, inr, Bool, false, cond, List, [], length, get_or, map, Option, None, refl, sym, ◌∙◌, ap, subst}
use Rattle.std.specs.Prelude.{IsTrue, replicate, count_by, slice_index}
use Rattle.std.proofs.lemmas.Bool.{cases_lt, false≢true}
use Rattle.std.proofs.lemmas.List.{get_or-replicate, get_or_past, length-replicate, get_or_default}
use Rattle.std.proofs.lemmas.List.Elements.{All-nil}
use Rattle.std.proofs.lemmas.List.Sums.{sum_by-cons}
use Rattle.fib_reach.specs.Walks.{Walk, Reaches, Leads}
use Rattle.fib_reach.proofs.Walking.{reaches-map, leads_iff}
use Rattle.fib_union.specs.Unions.{edge_at, leads_to, Edge, HasIn}
use Rattle.fib_union.proofs.Counts.{has_in_counted}
use Rattle.fib_union.proofs.Stores.{some_none}
use Rattle.fib_union.specs.inner.Fields.{plain, union_of, Runs, ins_of, IsNewest, IsProgress, AreProgress, IsKept, StartsBelow}
use Rattle.fib_union.specs.declared.retired.RetiredEdge.{RetiredEdge}
use Rattle.fib_union.specs.declared.retired.Progress.{Progress}
use Rattle.fib_union.proofs.Views.{runs_edge, edge_runs, into-of}

module _ (edges : List (Option ℕ)) (cs : List (ℕ × ℕ)) (ps : List Progress) (from to : ℕ) (apart : from ≢ to) where
  pub cycle_by : (r : Bool) → IsTrue r ↔ Reaches (Runs edges cs) to from → IsTrue r ↔ Leads (Edge (union_of edges cs ps)) to from
  cycle_by r w = (
    λ t. (leads_iff (Edge (union_of edges cs ps)) to from).1 (inr (reaches-map (Runs edges cs) (Edge (union_of edges cs ps)) (runs_edge edges cs ps) to from (w.0 t))),
    λ l. elim ((leads_iff (Edge (union_of edges cs ps)) to from).0 l) [ inl e ↦ absurd (apart (sym e)) | inr q ↦ w.1 (reaches-map (Edge (union_of edges cs ps)) (Runs edges cs) (edge_runs edges cs ps) to from q) ],
  )

  last_edge : (n x : ℕ) → Walk (Edge (union_of edges cs ps)) (suc n) x from → HasIn (union_of edges cs ps) from
  last_edge zero x w = subst (λ (y : ℕ). HasIn (union_of edges cs ps) y) w.2 (w.1.0, w.1.2)
  last_edge (suc n) x w = last_edge n w.0 w.2

  pub no_cycle : ins_of edges cs from ≡ 0 → (IsTrue false → Leads (Edge (union_of edges cs ps)) to from) × (Leads (Edge (union_of edges cs ps)) to from → IsTrue false)
  no_cycle none = (
    λ t. absurd (false≢true t),
    λ l. elim ((leads_iff (Edge (union_of edges cs ps)) to from).0 l) [ inl e ↦ absurd (apart (sym e)) | inr q ↦ (let c = has_in_counted (union_of edges cs ps) from (last_edge q.0 to q.1) in let i = into-of edges cs ps from in absurd (let bad : ⊥ = omega arith in bad)) ],
  )

none_at : (n k : ℕ) → edge_at (replicate n None) k ≡ None
none_at n k = elim (cases_lt k n) [
  | inl lt ↦ get_or-replicate n k None None lt
  | inr ge ↦ get_or_past (replicate n None) k None (let l : length (replicate {A = Option ℕ} n None) ≡ n = length-replicate n None in omega arith)
]

zero_at : (n k : ℕ) → slice_index (replicate n 0) k ≡ 0
zero_at n k = elim (cases_lt k n) [
  | inl lt ↦ get_or-replicate n k 0 0 lt
  | inr ge ↦ get_or_past (replicate n 0) k 0 (let l : length (replicate {A = ℕ} n 0) ≡ n = length-replicate n 0 in omega arith)
]

none_counted : (n o : ℕ) → count_by (leads_to o) (replicate n None) ≡ 0
none_counted zero o = refl
none_counted (suc n) o = (let a = sum_by-cons (λ (e : Option ℕ). cond (leads_to o e) 1 0) None (replicate n None) in let b = none_counted n o in omega arith)

no_ins : (n o : ℕ) → ins_of (replicate n None) [] o ≡ 0
unfolding ins_of
no_ins n o = (let a = none_counted n o in omega arith)

pub fresh_kept : (n w : ℕ) (edges : List (Option ℕ)) (ins newest : List ℕ) (ps : List Progress) (room : ℕ) → 0 < n → n < 4294967296 → edges ≡ replicate (16 * n) None → ins ≡ replicate n 0 → newest ≡ replicate n 0 → ps ≡ replicate w (record { passed = 0; met = 0; word = 0 }) → IsKept n edges ins [] newest ps [] room
fresh_kept n w edges ins newest ps room some few es is ns pr = record {
  some = some;
  few = few;
  within = record {
    size = ap (λ (l : List (Option ℕ)). length l) es ∙ length-replicate (16 * n) None;
    ends = λ k y e. absurd (some_none y (sym (none_at (16 * n) k) ∙ (ap (λ (l : List (Option ℕ)). edge_at l k) (sym es) ∙ e)));
    starts = All-nil (StartsBelow n);
    targets = All-nil (λ (c : ℕ × ℕ). c.1 < n);
  };
  counted = record {
    size = ap (λ (l : List ℕ). length l) is ∙ length-replicate n 0;
    here = λ o lt. ap (λ (l : List ℕ). slice_index l o) is ∙ (zero_at n o ∙ (sym (no_ins (16 * n) o) ∙ ap (λ (l : List (Option ℕ)). ins_of l [] o) (sym es)));
  };
  linked = record {
    size = ap (λ (l : List ℕ). length l) ns ∙ length-replicate n 0;
    begins = λ x lt. subst (λ (m : ℕ). IsNewest x [] m) (sym (ap (λ (l : List ℕ). slice_index l x) ns ∙ zero_at n x)) (record {
      within = omega arith;
      after = λ i d ge l. absurd (let bad : ⊥ = omega arith in bad);
      here = λ i d e. absurd (let bad : ⊥ = omega arith in bad);
    });
    older = λ i d lt. absurd (let bad : ⊥ = omega arith in bad);
  };
  progress = subst (λ (l : List Progress). AreProgress 0 l) (sym pr) (λ k d lt. (let p : Progress = record { passed = 0; met = 0; word = 0 } in let l : length (replicate w p) ≡ w = length-replicate w p in subst (IsProgress 0) (sym (get_or-replicate w k p d (omega arith))) (record { order = omega arith; within = omega arith; odd = λ q. absurd (let bad : ⊥ = omega arith in bad) })));
  short = omega arith;
  room = omega arith;
}

pub as_slices : (r : Bool) (es fs : List (Option ℕ)) (os ps : List RetiredEdge) (from to : ℕ) → es ≡ fs → os ≡ ps → IsTrue r ↔ Reaches (Runs es (map plain os)) to from → IsTrue r ↔ Reaches (Runs fs (map plain ps)) to from
as_slices r es fs os ps from to e f w = subst (λ (l : List (Option ℕ)). IsTrue r ↔ Reaches (Runs l (map plain ps)) to from) e (subst (λ (l : List RetiredEdge). IsTrue r ↔ Reaches (Runs es (map plain l)) to from) f w)

pub none_in : {n : ℕ} {edges : List (Option ℕ)} {ins : List ℕ} {os : List RetiredEdge} {newest : List ℕ} {ps : List Progress} {left : List ℕ} {room : ℕ} → IsKept n edges ins os newest ps left room → (o x : ℕ) → o < n → x ≡ get_or ins o x → x ≡ 0 → ins_of edges (map plain os) o ≡ 0
none_in {n} {edges} {ins} h o x lt is zero_there = sym (h.counted.here o lt) ∙ (sym (is ∙ get_or_default ins o x 0 (let s = h.counted.size in omega arith)) ∙ zero_there)
