-- Which edges come and go.
use Rattle.std.proofs.Common.{arith, ◌≡◌, ◌≢◌, ℕ, ◌+◌, ◌<◌, ◌≤◌, Bool, true, false, not, List, [], ◌∷◌, ◌++◌, map, filter, flat_map, length, Option}
use Rattle.std.proofs.Common.{Some, None, inl, inr, refl, sym, ◌∙◌, ap, subst, slice_get}
use Rattle.std.specs.Prelude.{Contains}
use Rattle.std.specs.Set.{is_member}
use Rattle.std.proofs.lemmas.Bool.{false≢true, cases_lt}
use Rattle.std.proofs.lemmas.List.Elements.{Contains-append_left, Contains-append_right, Contains-append_cases}
use Rattle.std.proofs.lemmas.Option.{slice_get_within}
use Rattle.fib_base_list.proofs.Lists.{either, Contains-nil}
use Rattle.fib_base_interned.proofs.Finding.{some_is}
use Rattle.fib_addr.specs.Prefixes.{Prefix, same_prefix}
use Rattle.fib_reach.specs.Walks.{AllDiffer}
use Rattle.fib_resolve.specs.Loops.{targets}
use Rattle.fib_resolve.specs.declared.types.Tables.{Tables}
use Rattle.fib_resolve.proofs.Covering.{filter_in, filter_from}
use Rattle.fib_resolve_changes.proofs.SamePairs.{map_in, map_from, same_targets}
use Rattle.fib_entries_rows.proofs.Anew.{filter_differ}
use Rattle.fib_entries_rows.proofs.Loopings.{once_in}
use Rattle.fib_entries_rows.proofs.PlyOrder.{index_of}
use Rattle.fib_follow_view.specs.Views.{IsAfter, Seen, anew_prefix, made_of}
use Rattle.fib_follow_view.specs.declared.view.Anew.{Anew}
use Rattle.fib_follow_view.specs.inner.Told.{next_before, next_in}
use Rattle.fib_follow_view.proofs.After.{made_there, next_after, next_was, same_beside}
use Rattle.fib_follow_part.proofs.Parting.{among, member_of}
use Rattle.fib_follow_told.specs.Told.{AreEdges}
use Rattle.fib_follow_told.specs.declared.edges.Edges.{Edges}
use Rattle.fib_follow_told.specs.inner.Gathered.{AddsEdges, AreEdgesFrom, Gathers, edge_beside}
use Rattle.fib_follow_told.specs.inner.Lacking.{Comes, Goes}
use Rattle.fib_follow_told.proofs.Gathering.{append_differ, gather, gathered, map_differ}

-- the edges to those that aren't among the others
flat_is : (e : Prefix) (others there : List Prefix) → flat_map (edge_beside e others) there
    ≡ map (λ t. (e, t)) (filter (λ t. not (is_member same_prefix others t)) there)
flat_is e others [] = refl
flat_is e others (t ∷ ts) = elim (either (is_member same_prefix others t)) [
  | inl is ↦ rw is (flat_is e others ts)
  | inr off ↦ rw off (ap (λ l. (e, t) ∷ l) (flat_is e others ts))
]

not_true : (b : Bool) → not b ≡ true → b ≡ false
not_true true h = absurd (false≢true h)
not_true false h = refl

lacks : (list seen : List Prefix) → Gathers list [] seen → (t : Prefix) → (Contains list t → ⊥) → is_member same_prefix seen t ≡ false
lacks list seen h t off = elim (either (is_member same_prefix seen t)) [
  | inl is ↦ absurd (off (gathered list seen h t (among seen t is)))
  | inr isnt ↦ isnt
]

pub adds_beside : (mine theirs : List Prefix) (e : Prefix) (there others : List Prefix) (old new : List (Prefix × Prefix))
    → Gathers mine [] there → Gathers theirs [] others → new ≡ old ++ flat_map (edge_beside e others) there
    → AddsEdges (λ t. Contains mine t × (Contains theirs t → ⊥)) e old new
adds_beside mine theirs e there others old new a b made = record {
  ends = filter test there;
  once = filter_differ test there a.once;
  each = λ t. (
    λ c. (let f = filter_from test there t c in (
      gathered mine there a t f.0,
      λ d. false≢true (sym (not_true (is_member same_prefix others t) f.1) ∙ member_of others t (gather theirs others b t d)),
    )),
    λ k. filter_in test there t (gather mine there a t k.0) (ap not (lacks theirs others b t k.1)),
  );
  made = made ∙ ap (λ l. old ++ l) (flat_is e others there);
}
  where
    test : Prefix → Bool
    test t = not (is_member same_prefix others t)

-- those of one prefix more
module _ (IsSo : Prefix → Prefix → Type 0) (from : List Prefix) where
  pub edges_none : AreEdgesFrom IsSo from 0 []
  edges_none = record {
    once = tt;
    each = λ e t. (λ c. absurd (Contains-nil (e, t) c), λ k. absurd (let lt = k.1 in omega (arith, lt)));
  }

  module _ (place : ℕ) (e : Prefix) (old new : List (Prefix × Prefix)) (here : slice_get from place ≡ Some e)
      (before : AreEdgesFrom IsSo from place old) (adds : AddsEdges (IsSo e) e old new) where
    abbrev own_edges : List (Prefix × Prefix)
    own_edges = map (λ t. (e, t)) adds.ends

    step_from : (d t : Prefix) → Contains new (d, t) → (k : ℕ) × (k < place + 1) × (slice_get from k ≡ Some d) × IsSo d t
    step_from d t c = elim (Contains-append_cases old own_edges (d, t) (subst (λ l. Contains l (d, t)) adds.made c)) [
      | inl early ↦ (let k = (before.each d t).0 early in (k.0, (let lt = k.1 in omega (arith, lt)), k.2, k.3))
      | inr late ↦ (let m = map_from (λ (u : Prefix). (e, u)) adds.ends (d, t) late in
          let own : e ≡ d = ap (λ (z : Prefix × Prefix). z.0) m.2 in
          let end : m.0 ≡ t = ap (λ (z : Prefix × Prefix). z.1) m.2 in
          (place, omega arith, here ∙ ap Some own, subst (λ z. IsSo z t) own (subst (IsSo e) end ((adds.each m.0).0 m.1))))
    ]

    step_to : (d t : Prefix) → (k : ℕ) × (k < place + 1) × (slice_get from k ≡ Some d) × IsSo d t → Contains new (d, t)
    step_to d t k = subst (λ l. Contains l (d, t)) (sym adds.made) (elim (cases_lt k.0 place) [
      | inl early ↦ Contains-append_left old own_edges (d, t) ((before.each d t).1 (k.0, early, k.2, k.3))
      | inr late ↦ (let is : place ≡ k.0 = (let lt = k.1 in omega (arith, lt, late)) in
          let own : e ≡ d = some_is e d (sym here ∙ (ap (slice_get from) is ∙ k.2)) in
          Contains-append_right old own_edges (d, t) (subst (λ z. Contains own_edges (z, t)) own
          (map_in (λ (u : Prefix). (e, u)) adds.ends t ((adds.each t).1 (subst (λ z. IsSo z t) (sym own) k.3)))))
    ])

    step_apart : AllDiffer from → (x : Prefix × Prefix) → Contains old x → Contains own_edges x → ⊥
    step_apart differ x c d =
        let m = map_from (λ (u : Prefix). (e, u)) adds.ends x d in
        let k = (before.each x.0 x.1).0 c in
        let same = once_in from differ k.0 place e (k.2 ∙ ap Some (sym (ap (λ (z : Prefix × Prefix). z.0) m.2))) here in
        let lt = k.1 in
        absurd (omega (arith, lt, same))

    pub edges_step : AllDiffer from → AreEdgesFrom IsSo from (place + 1) new
    edges_step differ = record {
      once = subst AllDiffer (sym adds.made) (append_differ old own_edges before.once
          (map_differ (λ (u : Prefix). (e, u)) adds.ends (λ x y is. ap (λ (z : Prefix × Prefix). z.1) is) adds.once) (step_apart differ));
      each = λ d t. (step_from d t, step_to d t);
    }

-- beside what was made anew each edge stays
module _ (v : Seen) (S T : Tables) (h : IsAfter v S T) where
  anew_where : (e : Prefix) → (targets S e ≡ targets T e → ⊥) → Contains (map anew_prefix v.changed) e
  anew_where e other = by (made_of v.changed e) refl
    where
      by : (o : Option Anew) → made_of v.changed e ≡ o → Contains (map anew_prefix v.changed) e
      by None at = absurd (other (same_targets S T e h.sound (same_beside v S T h e at)))
      by (Some x) at = (let t = made_there v.changed e x at
          in subst (Contains (map anew_prefix v.changed)) t.1 (map_in anew_prefix v.changed x t.0))

  module _ (IsSo : Prefix → Prefix → Type 0) (place : ℕ) (full : length (map anew_prefix v.changed) ≤ place) (out : List (Prefix × Prefix))
      (are : AreEdgesFrom IsSo (map anew_prefix v.changed) place out) where
    listed : (e t : Prefix) → IsSo e t → (targets S e ≡ targets T e → ⊥) → Contains out (e, t)
    listed e t is other =
        let k = index_of (map anew_prefix v.changed) e (anew_where e other) in
        let inside = slice_get_within (map anew_prefix v.changed) k.0 e k.1 in
        (are.each e t).1 (k.0, omega (arith, inside, full), k.1, is)

  module _ (place : ℕ) (full : length (map anew_prefix v.changed) ≤ place) (x : Edges)
      (come : AreEdgesFrom (Comes v) (map anew_prefix v.changed) place x.come)
      (go : AreEdgesFrom (Goes v) (map anew_prefix v.changed) place x.go) where
    after_in : (e t : Prefix) → Contains (next_in v e) t → Contains (targets T e) t
    after_in e t c = subst (λ l. Contains l t) (next_after v S T h e) c

    in_after : (e t : Prefix) → Contains (targets T e) t → Contains (next_in v e) t
    in_after e t c = subst (λ l. Contains l t) (sym (next_after v S T h e)) c

    was_in : (e t : Prefix) → Contains (next_before v e) t → Contains (targets S e) t
    was_in e t c = subst (λ l. Contains l t) (next_was v S T h e) c

    in_was : (e t : Prefix) → Contains (targets S e) t → Contains (next_before v e) t
    in_was e t c = subst (λ l. Contains l t) (sym (next_was v S T h e)) c

    pub edges_are : AreEdges S T x
    edges_are = record {
      come_once = come.once;
      come = λ e t. (
        λ c. (let k = (come.each e t).0 c in (after_in e t k.3.0, λ d. k.3.1 (in_was e t d))),
        λ k. listed (Comes v) place full x.come come e t (in_after e t k.0, λ d. k.1 (was_in e t d))
            (λ same. k.1 (subst (λ l. Contains l t) (sym same) k.0)),
      );
      go_once = go.once;
      go = λ e t. (
        λ c. (let k = (go.each e t).0 c in (was_in e t k.3.0, λ d. k.3.1 (in_after e t d))),
        λ k. listed (Goes v) place full x.go go e t (in_was e t k.0, λ d. k.1 (after_in e t d))
            (λ same. k.1 (subst (λ l. Contains l t) same k.0)),
      );
    }
