-- The plane over a fresh board.
use Rattle.std.proofs.Common.{arith, ◌≡◌, ◌≢◌, ℕ, zero, suc, ◌*◌, ◌<◌, ◌≤◌, inl, inr, List, [], ◌∷◌, length, map, Option, Some, None, refl, sym, ◌∙◌, ap, subst, get_or-set_same, get_or-set_other, length-set}
use Rattle.std.specs.Prelude.{replicate}
use Rattle.std.proofs.lemmas.Bool.{cases_lt, cases_eq}
use Rattle.std.proofs.lemmas.List.{get_or-replicate, get_or_past, length-replicate}
use Rattle.fib_reach.specs.Walks.{IsAcyclic}
use Rattle.fib_union.specs.Unions.{Union, edge_at, Goes, Edge, into, no_edges, Kept}
use Rattle.fib_union.proofs.Stores.{some_none}
use Rattle.fib_union.proofs.Counts.{counted_has_in}
use Rattle.fib_pool.specs.declared.object.Kind.TheVariants as kinds
use Rattle.fib_pool.specs.declared.object.Object.{Object}
use Rattle.fib_pool.specs.Objects.{at, count_in, count_of, as_new, fresh_objects}
use Rattle.fib_base_interned.specs.Interned as interned
use Rattle.fib_pool.specs.declared.object.AdjacencyRecord.{AdjacencyRecord}
use Rattle.fib_core.specs.Words.{decoded}
use Rattle.fib_core.specs.Union.{edge_in}
use Rattle.fib_core.proofs.Numbers.{decoded-zero, zeros}
use Rattle.fib_core_board.proofs.Serving.{edge_at_drop}
use Rattle.fib_core_board.specs.Boards.{Board, word_in, union_of, IsFresh}
use Rattle.fib_plane.specs.inner.Joined.{IsAtRest}

none_at : (n k : ℕ) → edge_at (replicate n None) k ≡ None
none_at n k = elim (cases_lt k n) [
  | inl lt ↦ get_or-replicate n k None None lt
  | inr ge ↦ get_or_past (replicate n None) k None (let l : length (replicate {A = Option ℕ} n None) ≡ n = length-replicate n None in omega arith)
]

free_at : (n k : ℕ) → at (replicate n None) k ≡ None
free_at n k = elim (cases_lt k n) [
  | inl lt ↦ get_or-replicate n k None None lt
  | inr ge ↦ get_or_past (replicate n None) k None (let l : length (replicate {A = Option Object} n None) ≡ n = length-replicate n None in omega arith)
]

pub map_zero : (n : ℕ) → map edge_in (replicate n 0) ≡ replicate n None
map_zero zero = refl
map_zero (suc n) = ap (λ (e : Option ℕ). e ∷ map edge_in (replicate n 0)) (edge_at_drop 0 decoded-zero) ∙ ap (λ (l : List (Option ℕ)). None ∷ l) (map_zero n)

pub fresh_edges : (b : Board) → IsFresh b → union_of b ≡ no_edges b.objects
fresh_edges b f = ap union_of f.fresh ∙ ap (λ (es : List (Option ℕ)). record { edges = es; retired = [] }) (map_zero (16 * b.objects))

pub no_goes : (n k y : ℕ) → Goes (no_edges n) k y → ⊥
no_goes n k y (inl e) = some_none y (sym (none_at (16 * n) k) ∙ e)
no_goes n k y (inr q) = absurd (let lt = q.1.1 in let bad : ⊥ = omega arith in bad)

no_into : (n o : ℕ) → into (no_edges n) o ≡ 0
no_into n o = elim (cases_lt 0 (into (no_edges n) o)) [
  | inl some ↦ absurd (let h = counted_has_in (no_edges n) o some in no_goes n h.0 o h.1)
  | inr le ↦ omega arith
]

module _ (b : Board) (f : IsFresh b) (few : b.objects < 4294967296) where
  root_at : at (fresh_objects b.objects) 0 ≡ as_new kinds.Ply
  root_at = get_or-set_same (replicate b.objects None) 0 (as_new kinds.Ply) None (let l : length (replicate {A = Option Object} b.objects None) ≡ b.objects = length-replicate b.objects None in let s = f.some in omega arith)

  else_at : (z : ℕ) → z ≢ 0 → at (fresh_objects b.objects) z ≡ None
  else_at z ne = get_or-set_other (replicate b.objects None) 0 z (as_new kinds.Ply) None ne ∙ free_at b.objects z

  pub no_edge : (o : ℕ) → into (union_of b) o ≡ 0
  no_edge o = ap (λ (u : Union). into u o) (fresh_edges b f) ∙ no_into b.objects o

  pub fresh_plane : (u : Kept) (room : ℕ) → u.union ≡ no_edges b.objects → u.workers ≡ b.workers → u.left ≡ [] → b.objects ≤ room → IsAtRest b u (fresh_objects b.objects) [] [] room
  fresh_plane u room union workers left roomy = record {
    joined = record {
      size = length-set (replicate b.objects None) 0 (as_new kinds.Ply) ∙ length-replicate b.objects None;
      long = ap (λ (q : Board). length q.union.cells) f.fresh ∙ length-replicate (16 * b.objects) 0;
      few = few;
      workers = workers;
      same = union ∙ sym (fresh_edges b f);
      left = left;
      short = (let e : length u.union.retired ≡ 0 = ap (λ (v : Union). length v.retired) union in omega arith);
      counted = λ o. elim (cases_eq o 0) [
        | inl same ↦ (let c : count_of (fresh_objects b.objects) o ≡ 1 = ap (λ (q : ℕ). count_of (fresh_objects b.objects) q) same ∙ ap count_in root_at in let i = no_edge o in record { least = omega arith; most = omega arith })
        | inr ne ↦ (let c : count_of (fresh_objects b.objects) o ≡ 0 = ap count_in (else_at o ne) in let i = no_edge o in record { least = omega arith; most = omega arith })
      ];
      root = (let c : count_of (fresh_objects b.objects) 0 ≡ 1 = ap count_in root_at in let i = no_edge 0 in omega arith);
      free = λ k e. ap (λ (q : Board). word_in q k) f.fresh ∙ (ap decoded (zeros (16 * b.objects) k) ∙ decoded-zero);
    };
    acyclic = subst (λ (v : Union). IsAcyclic (Edge v)) (sym (fresh_edges b f)) (λ x r. no_goes b.objects r.1.1.0 r.1.0 r.1.1.2);
    none = record {
      there = λ i lt. absurd (let bad : ⊥ = omega arith in bad);
      apart = λ i j lt l. absurd (let bad : ⊥ = omega arith in bad);
      listed = λ z d. elim (cases_eq z 0) [
        | inl same ↦ (let e : as_new kinds.Ply ≡ Some (record { kind = d.0; count = 0 }) = sym root_at ∙ (ap (λ (q : ℕ). at (fresh_objects b.objects) q) (sym same) ∙ d.1) in let c : ◌≡◌ {A = ℕ} 1 0 = ap count_in e in absurd (let bad : ⊥ = omega arith in bad))
        | inr ne ↦ absurd (let e : None ≡ Some (record { kind = d.0; count = 0 }) = sym (else_at z ne) ∙ d.1 in let bad : ⊥ = cc in bad)
      ];
    };
    calm = refl;
    roomy = roomy;
    records = record {
      adjacencies = λ o k e. absurd (none_kept o k e);
      other = λ o k e. absurd (none_kept o k e);
      held = λ o k e. absurd (none_kept o k e);
      words = λ o s k e lt. absurd (none_kept o k e);
      ranges = λ o k e. absurd (none_kept o k e);
    };
  }
    where
      none_kept : (o : ℕ) (k : interned.Kept AdjacencyRecord) → interned.kept_of [] o ≡ Some k → ⊥
      none_kept o k e = cc
