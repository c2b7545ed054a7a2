-- Rows, prefixes and edges that go, one after the other.
use Rattle.std.proofs.Common.{◌≡◌, ◌≢◌, ℕ, ◌<◌, List, [], ◌∷◌, ◌++◌, map, length, Some, None, inl, inr, refl, sym, ◌∙◌, ap, ap₂, subst, slice_get, ◌↔◌}
use Rattle.std.specs.Prelude.{Contains}
use Rattle.std.specs.List.{remove}
use Rattle.std.proofs.lemmas.Bool.{false≢true}
use Rattle.std.proofs.lemmas.List.Elements.{Contains-append_left, Contains-append_right, Contains-append_cases}
use Rattle.fib_base_list.proofs.Lists.{either, Contains-nil}
use Rattle.fib_addr.specs.Prefixes.{Prefix, same_prefix}
use Rattle.fib_addr.proofs.PrefixLaws.{same_prefix-Decides}
use Rattle.fib_cover.specs.Covers.{IsAscending}
use Rattle.fib_base_interned.proofs.Finding.{some_is, contains_at}
use Rattle.fib_resolve_changes.proofs.Edits.{in_cases, in_front, in_rest}
use Rattle.fib_entries_rows.specs.Known.{prefix_of, row_of}
use Rattle.fib_entries_rows.specs.Rows.{Row}
use Rattle.fib_entries_rows.specs.inner.Leaf.{AreDetached, IsButFor, IsUnlinked}
use Rattle.fib_entries_rows.proofs.Linking.{detached_absent, detached_one, no_row_at, zip_then}
use Rattle.fib_entries_rows.proofs.Looking.{one_place}
use Rattle.fib_entries_rows.proofs.Placing.{get_map, removed_ascending, removed_from, removed_in, removed_map}
use Rattle.fib_entries_rows.proofs.PlyOrder.{index_of}
use Rattle.fib_follow_write.specs.Steps.{AreTaken}
use Rattle.fib_follow_write.specs.Written.{AreUnled, HaveGone, HaveLeft, IsUnled, leads}
use Rattle.fib_follow_write.specs.inner.Stepped.{HasGone}
use Rattle.fib_follow_write.specs.declared.plan.Edge.{Edge}
use Rattle.fib_follow_write.proofs.Halves.{joined}
use Rattle.fib_follow_write.proofs.Upon.{one_is, row_at}

-- rows

pub gone_at : (p : Prefix) (old new : List Row) (k : ℕ) → IsAscending (map prefix_of old) → slice_get old k ≡ row_of old p → k < length old
    → new ≡ remove old k → HasGone p old new
gone_at p old new k asc is lt gone = (let g = row_at old p k is lt in record { ordered = asc; went = inr (k, g.0, g.1, g.2, gone) })

pub gone_none : (p : Prefix) (old : List Row) → IsAscending (map prefix_of old) → None ≡ row_of old p → HasGone p old old
gone_none p old asc none = record { ordered = asc; went = inl (none, refl) }

module _ (p : Prefix) (old new : List Row) (h : HasGone p old new) where
  pub gone_ordered : IsAscending (map prefix_of new)
  gone_ordered = elim h.went [
    | inl same ↦ subst (λ z. IsAscending (map prefix_of z)) (sym same.1) h.ordered
    | inr (k, r, at, own, is) ↦ subst (λ z. IsAscending (map prefix_of z)) (sym is)
        (subst IsAscending (sym (removed_map prefix_of old k r at)) (removed_ascending (map prefix_of old) k r.prefix
        (get_map prefix_of old k r at) h.ordered))
  ]

  gone_rows : (r : Row) → Contains new r ↔ Contains old r × (r.prefix ≢ p)
  gone_rows r = elim h.went [
    | inl same ↦ subst (λ z. Contains z r ↔ Contains old r × (r.prefix ≢ p)) (sym same.1) (λ c. (c, λ is. no_row_at old p same.0 r c (sym is)), λ d. d.0)
    | inr (k, q, at, own, is) ↦ subst (λ z. Contains z r ↔ Contains old r × (r.prefix ≢ p)) (sym is) (
      λ c. (let f = removed_from old k q r at c in
          (contains_at old f.0 r f.2, λ same. f.1 (one_place prefix_of old h.ordered f.0 k r q f.2 at (same ∙ own)))),
      λ d. (let f = index_of old r d.0 in
          removed_in old k f.0 r f.1 (λ e. d.1 (ap prefix_of (some_is r q (sym f.1 ∙ (ap (slice_get old) e ∙ at))) ∙ sym own))),
    )
  ]

pub rows_gone : (ps : List Prefix) (old new : List Row) → IsAscending (map prefix_of old) → AreTaken HasGone ps old new → HaveGone ps old new
rows_gone [] old new asc t = record {
  ordered = subst (λ z. IsAscending (map prefix_of z)) (sym t) asc;
  rows = λ r. (λ c. (subst (λ z. Contains z r) t c, λ none. Contains-nil r.prefix none), λ d. subst (λ z. Contains z r) (sym t) d.0);
}
rows_gone (p ∷ ps) old new asc (mid, h, t) =
    let later = rows_gone ps mid new (gone_ordered p old mid h) t in
    record {
      ordered = later.ordered;
      rows = λ r. (
        λ c. (let m = (later.rows r).0 c in let o = (gone_rows p old mid h r).0 m.0 in
            (o.0, λ d. elim (in_cases p r.prefix ps d) [ inl is ↦ o.1 (sym is) | inr after ↦ m.1 after ])),
        λ d. (later.rows r).1 ((gone_rows p old mid h r).1 (d.0, λ is. d.1 (in_front p r.prefix ps (sym is))), λ after. d.1 (in_rest p r.prefix ps after)),
      );
    }

-- a step more
pub chain_more : (ps qs : List Prefix) (p : Prefix) (old mid new : List Row) → qs ≡ ps ++ p ∷ [] → AreTaken HasGone ps old mid
    → HasGone p mid new → AreTaken HasGone qs old new
chain_more ps qs p old mid new is t h = subst (λ l. AreTaken HasGone l old new) (sym is) (joined HasGone ps (p ∷ []) old mid new t (new, h, refl))

-- a set's members

pub members_stay : (old : List Prefix) → IsAscending old → HaveLeft [] old old
members_stay old asc = record { ordered = asc; members = λ q. (λ c. (c, λ none. Contains-nil q none), λ d. d.0) }

pub members_more : (ps qs : List Prefix) (p : Prefix) (old mid new : List Prefix) → qs ≡ ps ++ p ∷ [] → HaveLeft ps old mid → IsAscending new
    → ((q : Prefix) → Contains new q ↔ Contains mid q × (q ≢ p)) → HaveLeft qs old new
members_more ps qs p old mid new is h asc g = subst (λ l. HaveLeft l old new) (sym is) (record {
  ordered = asc;
  members = λ q. (
    λ c. (let m = (g q).0 c in let o = (h.members q).0 m.0 in
        (o.0, λ d. elim (Contains-append_cases ps (p ∷ []) q d) [ inl early ↦ o.1 early | inr it ↦ m.1 (sym (one_is p q it)) ])),
    λ d. (g q).1 (
      (h.members q).1 (d.0, λ early. d.1 (Contains-append_left ps (p ∷ []) q early)),
      λ same. d.1 (Contains-append_right ps (p ∷ []) q (in_front p q [] (sym same))),
    ),
  );
})

-- edges

pub unled_at : (e : Edge) (old new : List Row) (k : ℕ) → IsAscending (map prefix_of old) → slice_get old k ≡ row_of old e.to → k < length old
    → ((r : Row) → slice_get old k ≡ Some r → IsUnlinked k e.from r old new)
    → AreDetached e.from (e.to ∷ []) [] old new
unled_at e old new k asc is lt made =
    let g = row_at old e.to k is lt in
    let u = made g.0 g.1 in
    subst (λ t. AreDetached e.from (t ∷ []) [] old new) (sym g.2)
    (subst (AreDetached e.from (g.0.prefix ∷ []) [] old) (sym u.2) (detached_one e.from [] old asc k g.0 u.0 g.1 u.1 (λ none. Contains-nil g.0.prefix none)))

pub unled_none : (e : Edge) (old : List Row) → None ≡ row_of old e.to → AreDetached e.from (e.to ∷ []) [] old old
unled_none e old none = detached_absent e.from [] old e.to (no_row_at old e.to none)

pub edges_stay : (old : List Row) → AreUnled [] old old
edges_stay [] = tt
edges_stay (r ∷ old) = (own r, edges_stay old)
  where
    own : (r : Row) → IsUnled [] r r
    own r = record {
      prefix = refl;
      pairs = refl;
      looped = refl;
      met = refl;
      marked = refl;
      rank = refl;
      dependants = λ d. (λ c. (c, λ none. Contains-nil (record { from = d; to = r.prefix }) none), λ c. c.0);
      once = λ o. o;
    }

edge_from : (e : Edge) (d t : Prefix) → Contains (e ∷ []) (record { from = d; to = t }) → (e.from ≡ d) × (e.to ≡ t)
edge_from e d t c = elim (in_cases e (record { from = d; to = t }) [] c) [
  | inl is ↦ (ap (λ z. z.from) is, ap (λ z. z.to) is)
  | inr none ↦ absurd (Contains-nil (record { from = d; to = t }) none)
]

edge_in : (e : Edge) (d t : Prefix) → e.from ≡ d → e.to ≡ t → Contains (e ∷ []) (record { from = d; to = t })
edge_in e d t a b = in_front e (record { from = d; to = t }) [] (ap₂ (λ (p q : Prefix). record { from = p; to = q }) a b)

abbrev IsDetached : Edge → Row → Row → Type 0
IsDetached e r s = IsButFor e.from r s × (Contains s.dependants e.from ↔ Contains r.dependants e.from × (Contains
    (e.to ∷ []) r.prefix → Contains [] r.prefix))

one_more : (es : List Edge) (e : Edge) (r s t : Row) → IsUnled es r s → IsDetached e s t → IsUnled (es ++ e ∷ []) r t
one_more es e r s t x y = record {
  prefix = y.0.prefix ∙ x.prefix;
  pairs = y.0.pairs ∙ x.pairs;
  looped = y.0.looped ∙ x.looped;
  met = y.0.met ∙ x.met;
  marked = y.0.marked ∙ x.marked;
  rank = y.0.rank ∙ x.rank;
  dependants = λ d. elim (either (same_prefix e.from d)) [
    | inl is ↦ (let own = (same_prefix-Decides e.from d).0 is
        in subst (λ z. Contains t.dependants z ↔ Contains r.dependants z × (leads (es ++ e ∷ []) z r.prefix → ⊥)) own here)
    | inr isnt ↦ there d (λ own. false≢true (sym isnt ∙ (same_prefix-Decides e.from d).1 own))
  ];
  once = λ o. y.0.once (x.once o);
}
  where
    here : Contains t.dependants e.from ↔ Contains r.dependants e.from × (leads (es ++ e ∷ []) e.from r.prefix → ⊥)
    here = (
      λ c. (let m = y.1.0 c in let o = (x.dependants e.from).0 m.0 in (
        o.0,
        λ l. elim (Contains-append_cases es (e ∷ []) (record { from = e.from; to = r.prefix }) l) [
          | inl early ↦ o.1 early
          | inr it ↦ Contains-nil s.prefix (m.1 (in_front e.to s.prefix [] ((edge_from e e.from r.prefix it).1 ∙ sym x.prefix)))
        ],
      )),
      λ d. y.1.1 (
        (x.dependants e.from).1 (d.0, λ early. d.1 (Contains-append_left es (e ∷ []) (record { from = e.from; to = r.prefix }) early)),
        λ it. absurd (d.1 (Contains-append_right es (e ∷ []) (record { from = e.from; to = r.prefix })
            (edge_in e e.from r.prefix refl (one_is e.to s.prefix it ∙ x.prefix)))),
      ),
    )

    there : (d : Prefix) → e.from ≢ d → Contains t.dependants d ↔ Contains r.dependants d × (leads (es ++ e ∷ []) d r.prefix → ⊥)
    there d off = (
      λ c. (let o = (x.dependants d).0 ((y.0.others d off).0 c) in (
        o.0,
        λ l. elim (Contains-append_cases es (e ∷ []) (record { from = d; to = r.prefix }) l) [
          | inl early ↦ o.1 early
          | inr it ↦ off
              (edge_from e d r.prefix it).0
        ],
      )),
      λ c. (y.0.others d off).1 ((x.dependants d).1 (c.0, λ early. c.1 (Contains-append_left es (e ∷ []) (record { from = d; to = r.prefix }) early))),
    )

pub edges_more : (es fs : List Edge) (e : Edge) (old mid new : List Row) → fs ≡ es ++ e ∷ [] → AreUnled es old mid
    → AreDetached e.from (e.to ∷ []) [] mid new → AreUnled fs old new
edges_more es fs e old mid new is a b = subst (λ l. AreUnled l old new) (sym is)
    (zip_then (IsUnled es) (IsDetached e) (IsUnled (es ++ e ∷ [])) (one_more es e) old mid new a b)

pub unled_names : (es : List Edge) (old new : List Row) → AreUnled es old new → map prefix_of new ≡ map prefix_of old
unled_names es [] [] a = refl
unled_names es [] (s ∷ new) a = absurd a
unled_names es (r ∷ old) [] a = absurd a
unled_names es (r ∷ old) (s ∷ new) a = ap₂ (λ z l. z ∷ l) a.0.prefix (unled_names es old new a.1)
