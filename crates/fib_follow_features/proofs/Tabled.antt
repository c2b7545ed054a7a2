-- What is noted of rows that stand for tables is found by what the tables mean.
use Rattle.std.proofs.Common.{arith, ◌≡◌, ◌≢◌, ◌⊎◌, ◌<◌, ◌≤◌, ◌^◌, ◌==◌, ◌++◌, ℕ, Bool, true, false, cond, length, List, [], ◌∷◌, map}
use Rattle.std.proofs.Common.{Option, Some, None, inl, inr, refl, sym, ◌∙◌, ap, subst}
use Rattle.std.specs.Prelude.{Contains, filter, flat_map, option_to_list, unwrap_or}
use Rattle.std.specs.List.{list_any}
use Rattle.std.proofs.lemmas.Bool.Decides.{nat_tests}
use Rattle.std.proofs.lemmas.List.Elements.{All-contains, All-from_recursion, Contains-append_left, Contains-append_right}
use Rattle.std.proofs.lemmas.Map.Views.{Contains-from_any}
use Rattle.fib_base_list.proofs.Lists.{Contains-flat_map, Contains-nil, either, list_any-map}
use Rattle.fib_addr.specs.Prefixes.{IsPrefix, Prefix, contains, host, same_prefix}
use Rattle.fib_addr.proofs.PrefixLaws.{same_prefix-Decides}
use Rattle.fib_cover.specs.Covers.{ArePrefixes, is_inside}
use Rattle.fib_resolve.specs.Pairs.{attached_by, base_pairs, chosen, cover, derived_pair, entries, is_interface, neighbor_pairs}
use Rattle.fib_resolve.specs.Pairs.{connected_pairs, edge_pairs, fixed_pairs, one, pairs, recursive_hops, recursive_kind, recursive_of, route_pair}
use Rattle.fib_resolve.specs.Sizes.{adjacencies_of, kind_adjacency}
use Rattle.fib_resolve.specs.Tables.{IsSoundRoute}
use Rattle.fib_resolve.specs.declared.pairs.Adjacency.{Adjacency}
use Rattle.fib_resolve.specs.declared.pairs.Pair.{Pair}
use Rattle.fib_resolve.specs.declared.types.FibSource.{FibSource}
use Rattle.fib_resolve.specs.declared.types.FibSource.TheVariants as sources
use Rattle.fib_resolve.specs.declared.types.Need.{Need}
use Rattle.fib_resolve.specs.declared.types.Need.TheVariants as needs
use Rattle.fib_resolve.specs.declared.types.Neighbor.{Neighbor}
use Rattle.fib_resolve.specs.declared.types.Path.{Path}
use Rattle.fib_resolve.specs.declared.types.PathKind.{PathKind}
use Rattle.fib_resolve.specs.declared.types.PathKind.TheVariants as kinds
use Rattle.fib_resolve.specs.declared.types.Route.{Route}
use Rattle.fib_resolve.specs.declared.types.Tables.{Tables}
use Rattle.fib_resolve.proofs.Covering.{filter_in}
use Rattle.fib_resolve.proofs.Entries.{chosen-no_entry, is_entry}
use Rattle.fib_resolve_changes.specs.Looked.{IsHosted}
use Rattle.fib_resolve_changes.specs.Ranks.{has_entry}
use Rattle.fib_resolve_changes.proofs.CauseLaws.{any_from}
use Rattle.fib_resolve_changes.proofs.Edits.{any_in, in_cases, in_front}
use Rattle.fib_resolve_changes.proofs.SamePairs.{base, derived, derived_host, flat_map_from, from_origin, map_from, map_in, neighbor}
use Rattle.fib_resolve_changes.proofs.Targets.{near_there, pair_entry}
use Rattle.fib_resolve_pairs.proofs.Members.{filter_map_from}
use Rattle.fib_base_interned.proofs.Finding.{none_some, some_is}
use Rattle.fib_entries_rows.specs.Known.{ArePairs, IsHeld, Known, StandsFor, content_of, prefix_of}
use Rattle.fib_entries_rows.specs.Rows.{Row}
use Rattle.fib_entries_rows.proofs.Standing.{first_chosen}
use Rattle.fib_follow_features.specs.FoundBy.{AreNoted, chosen_list, cover_among, end_of, held_list, host_under, is_by_cover, is_written}
use Rattle.fib_follow_features.specs.FoundBy.{need_of, needed, over_of, path_features, under_of, via_features, via_of, written_features}
use Rattle.fib_follow_features.specs.Holders.{Holders, IsFound, holders}
use Rattle.fib_follow_features.specs.declared.feature.Feature.{Feature}
use Rattle.fib_follow_features.specs.declared.feature.Feature.TheVariants as features
use Rattle.fib_follow_features.proofs.Covered.{cover_told}

some_in : {X : Type 0} (o : Option X) (x : X) → o ≡ Some x → Contains (option_to_list o) x
some_in o x is = subst (λ z. Contains (option_to_list z) x) (sym is) (0, omega arith, refl)

-- a path of the chosen list
module _ (e : Prefix) (p : Path) (f : Feature) where
  by_over : over_of p.kind ≡ Some f → Contains (path_features e p) f
  by_over is = Contains-append_left _ (option_to_list (need_of p.need p.kind)) f
      (Contains-append_left (option_to_list (over_of p.kind)) (option_to_list (end_of e p.kind)) f (some_in (over_of p.kind) f is))

  by_end : end_of e p.kind ≡ Some f → Contains (path_features e p) f
  by_end is = Contains-append_left _ (option_to_list (need_of p.need p.kind)) f
      (Contains-append_right (option_to_list (over_of p.kind)) (option_to_list (end_of e p.kind)) f (some_in (end_of e p.kind) f is))

  by_need : need_of p.need p.kind ≡ Some f → Contains (path_features e p) f
  by_need is = Contains-append_right (option_to_list (over_of p.kind) ++ option_to_list (end_of e p.kind)) (option_to_list (need_of p.need p.kind)) f
      (some_in (need_of p.need p.kind) f is)

one_in : {X : Type 0} (b : Bool) (x y : X) → Contains (cond b (x ∷ []) []) y → (b ≡ true) × (x ≡ y)
one_in true x y c = elim (in_cases x y [] c) [ inl is ↦ (refl, is) | inr none ↦ absurd (Contains-nil y none) ]
one_in false x y c = absurd (Contains-nil y c)

-- a Hop end of a path is one by which the entry is found
end_by : (e : Prefix) (kind : PathKind) (x : Adjacency) → Contains (kind_adjacency e kind) x → end_of e kind ≡ Some (features.End x)
end_by e kinds.Drop x c = absurd (Contains-nil x c)
end_by e kinds.Local x c = absurd (Contains-nil x c)
end_by e (kinds.Attached i) x c =
    let h = one_in (e.len == 32) (record { interface = i; next_hop = e.bits }) x c in
    ap (λ b. cond b (Some (features.End (record { interface = i; next_hop = e.bits }))) None) h.0 ∙ ap (λ z. Some (features.End z)) h.1
end_by e (kinds.Hop a i) x c = elim (in_cases (record { interface = i; next_hop = a }) x [] c) [
  | inl is ↦ ap (λ z. Some (features.End z)) is
  | inr none ↦ absurd (Contains-nil x none)
]
end_by e (kinds.Recursive a) x c = absurd (Contains-nil x c)
end_by e kinds.Cover x c = absurd (Contains-nil x c)

needs_some : (need : Need) (a : ℕ) → need ≢ needs.Any → needed need a ≡ Some (features.Needs a)
needs_some needs.Any a off = absurd (off refl)
needs_some needs.Host a off = refl
needs_some needs.Attached a off = refl

written_is : (source : FibSource) → (source ≡ sources.Api) ⊎ (source ≡ sources.Cli) → is_written source ≡ true
written_is source (inl is) = ap is_written is
written_is source (inr is) = ap is_written is

hop_is : (kind : PathKind) (a : ℕ) → recursive_kind kind ≡ Some a → via_of kind ≡ Some (features.Via a)
hop_is kinds.Drop a is = absurd (none_some a is)
hop_is kinds.Local a is = absurd (none_some a is)
hop_is (kinds.Attached i) a is = absurd (none_some a is)
hop_is (kinds.Hop b i) a is = absurd (none_some a is)
hop_is (kinds.Recursive b) a is = ap (λ z. Some (features.Via z)) (some_is b a is)
hop_is kinds.Cover a is = absurd (none_some a is)

derived_by_cover : (S : Tables) (a : ℕ) → is_by_cover (derived_pair S a).source ≡ true
unfolding derived_pair
derived_by_cover S a = refl

base_route : (S : Tables) (r : Route) → Contains S.routes r → Contains (base_pairs S) (route_pair r)
unfolding base_pairs
base_route S r c =
    Contains-append_right (fixed_pairs ++ flat_map connected_pairs S.addresses ++ flat_map (edge_pairs S.addresses) S.addresses)
    (map route_pair S.routes) (route_pair r) (map_in route_pair S.routes r c)

inside_host : (q : Prefix) (a : ℕ) → q.len ≤ 32 → contains q a ≡ true → is_inside q (host a) ≡ true
inside_host q a short holds = rw holds (grind (arith, nat_tests))

rows_good : (v : Known) (S : Tables) → StandsFor v S → ArePrefixes (map prefix_of v.rows)
rows_good v S h q c = (let m = map_from prefix_of v.rows q c in subst IsPrefix m.2 (h.rows m.0 m.1).prefix)

-- the cover that the rows tell
pub cover_is : (v : Known) (S : Tables) (a : ℕ) → StandsFor v S → a < 2 ^ 32 → cover_among (map prefix_of v.rows) (host a) ≡ cover S a
cover_is v S a h small = cover_told S (map prefix_of v.rows) a small (rows_good v S h) h.entries

module _ (v : Known) (S : Tables) (sets : List Holders) (h : StandsFor v S) (noted : AreNoted v.lists (map prefix_of v.rows) v.rows sets) where
  abbrev order : List Prefix
  order = map prefix_of v.rows

  -- an entry has a row
  row_at : (e : Prefix) → has_entry S e ≡ true → (r : Row) × Contains v.rows r × (r.prefix ≡ e)
  row_at e is = map_from prefix_of v.rows e ((h.entries e).1 (Contains-from_any (λ x y. (same_prefix-Decides x y).0) e (entries S) is))

  some_pair : (e : Prefix) → has_entry S e ≡ true → (x : Pair) × Contains (pairs S) x × (e ≡ x.prefix)
  some_pair e is = (let r = any_from (λ x. same_prefix e x.prefix) (pairs S) (sym (is_entry S e) ∙ is) in
      (r.0, r.1, (same_prefix-Decides e r.0.prefix).0 r.2))

  -- the first of a row's lists is the chosen one
  first_is : (r : Row) → Contains v.rows r → has_entry S r.prefix ≡ true → chosen_list (map (held_list v.lists) r.pairs) ≡ chosen S r.prefix
  first_is r there entry = by r.pairs refl
    where
      by : (held : List (FibSource × ℕ)) → r.pairs ≡ held → chosen_list (map (held_list v.lists) held) ≡ chosen S r.prefix
      by [] is = (let x = some_pair r.prefix entry in let f = (h.rows r there).pairs.found x.0 x.1 x.2 in
          absurd (Contains-nil f.0 (subst (λ l. Contains l f.0) is f.1)))
      by (q ∷ qs) is = (
          let are : ArePairs v.lists S r.prefix (q ∷ qs) = subst (ArePairs v.lists S r.prefix) is (h.rows r there).pairs in
          let x = are.real q (in_front q q qs refl) in
          ap (λ o. unwrap_or o []) x.3.1 ∙ first_chosen v S h r.prefix q qs x.0.paths h.sound are x.3.1
          )

  -- each feature of a path of the chosen list is noted
  pub path_found : (e : Prefix) (p : Path) (f : Feature) → Contains (chosen S e) p → Contains (path_features e p) f → IsFound sets f e
  path_found e p f c has = elim (either (has_entry S e)) [
    | inr none ↦ absurd (Contains-nil p (subst (λ l. Contains l p) (chosen-no_entry S e none) c))
    | inl entry ↦ (
        let r = row_at e entry in
        let ls = map (held_list v.lists) r.0.pairs in
        let own = subst (λ z. has_entry S z ≡ true) (sym r.2) entry in
        let first = subst (λ l. Contains l p) (sym (first_is r.0 r.1 own ∙ ap (chosen S) r.2)) c in
        let there = Contains-flat_map (path_features e) (chosen_list ls) p f first has in
        let all = subst (λ z. Contains (flat_map (path_features z) (chosen_list ls)) f) (sym r.2) there in
        subst (IsFound sets f) r.2 (noted r.0 f r.1 (Contains-append_left _ (option_to_list (under_of r.0.prefix (cover_among order r.0.prefix) ls)) f
        (Contains-append_left (flat_map (path_features r.0.prefix) (chosen_list ls)) (flat_map written_features ls) f all)))
        )
  ]

  pub attached_found : (e : Prefix) (p : Path) (i : ℕ) → Contains (chosen S e) p → p.kind ≡ kinds.Attached i → IsFound sets (features.Over i) e
  attached_found e p i c is = path_found e p (features.Over i) c (by_over e p (features.Over i) (ap over_of is))

  pub hop_found : (e : Prefix) (p : Path) (a i : ℕ) → Contains (chosen S e) p → p.kind ≡ kinds.Hop a i → IsFound sets (features.Over i) e
  hop_found e p a i c is = path_found e p (features.Over i) c (by_over e p (features.Over i) (ap over_of is))

  pub end_found : (e : Prefix) (x : Adjacency) → Contains (adjacencies_of S e) x → IsFound sets (features.End x) e
  end_found e x c = (let r = flat_map_from (λ p. kind_adjacency e p.kind) (chosen S e) x c in
      path_found e r.0 (features.End x) r.1 (by_end e r.0 (features.End x) (end_by e r.0.kind x r.2)))

  pub need_found : (e : Prefix) (p : Path) (a : ℕ) → Contains (chosen S e) p → p.kind ≡ kinds.Recursive a → p.need ≢ needs.Any
      → IsFound sets (features.Needs a) e
  need_found e p a c is off =
      path_found e p (features.Needs a) c (by_need e p (features.Needs a) (ap (need_of p.need) is ∙ needs_some p.need a off))

  -- a pair has a list that its row names
  pair_at : (x : Pair) → Contains (pairs S) x → (r : Row) × Contains v.rows r × (r.prefix ≡ x.prefix)
      × (q : FibSource × ℕ) × Contains r.pairs q × IsHeld v.lists q x
  pair_at x c = (
      let r = row_at x.prefix (pair_entry S x x.prefix c refl) in
      let f = (h.rows r.0 r.1).pairs.found x c r.2 in
      (r.0, r.1, r.2, f.0, f.1, f.2)
      )

  by_cover_found : (a : ℕ) (x : Pair) → Contains (pairs S) x → x.prefix ≡ host a → is_by_cover x.source ≡ true
      → IsFound sets (features.Under (cover S a)) (host a)
  by_cover_found a x c own made = (
      let p = pair_at x c in
      let r = p.0 in
      let at : r.prefix ≡ host a = p.2 ∙ own in
      let ls = map (held_list v.lists) r.pairs in
      let small : a < 2 ^ 32 = subst (λ (z : Prefix). z.bits < 2 ^ 32) at (h.rows r p.1).prefix.fits in
      let any : list_any (λ l. is_by_cover l.0) ls ≡ true =
      list_any-map (held_list v.lists) (λ l. is_by_cover l.0) r.pairs
      ∙ any_in (λ q. is_by_cover q.0) r.pairs p.3 p.4 (ap is_by_cover p.5.0 ∙ made) in
      let under : under_of r.prefix (cover_among order r.prefix) ls ≡ Some (features.Under (cover S a)) =
      ap (λ b. cond b (host_under r.prefix (cover_among order r.prefix)) None) any
      ∙ (ap (λ z. host_under z (cover_among order z)) at ∙ ap (λ z. Some (features.Under z)) (cover_is v S a h small)) in
      subst (IsFound sets (features.Under (cover S a))) at (noted r (features.Under (cover S a)) p.1
      (Contains-append_right (flat_map (path_features r.prefix) (chosen_list ls) ++ flat_map written_features ls) _ (features.Under (cover S a))
      (some_in (under_of r.prefix (cover_among order r.prefix) ls) (features.Under (cover S a)) under)))
      )

  pub host_found : (a : ℕ) → IsHosted S a → IsFound sets (features.Under (cover S a)) (host a)
  host_found a (inl hop) =
      by_cover_found a (derived_pair S a) (from_origin S (derived_pair S a) (derived a hop refl)) (derived_host S a) (derived_by_cover S a)
  host_found a (inr (i, near, at)) =
      let n = near.0 in
      let x = one (host n.addr) sources.Adjacency (kinds.Hop n.addr n.interface) in
      let there = near_there S n i near.2 (ap (attached_by S) near.3 ∙ at) in
      by_cover_found a x (from_origin S x (neighbor n near.1 there)) (ap host near.3) refl

  pub host_inside : (a : ℕ) (q : Prefix) → IsHosted S a → q.len ≤ 32 → contains q a ≡ true
      → Contains (filter (is_inside q) (holders sets (features.Under (cover S a)))) (host a)
  host_inside a q hosted short holds =
      filter_in (is_inside q) (holders sets (features.Under (cover S a))) (host a) (host_found a hosted) (inside_host q a short holds)

  pub via_found : (r : Route) (a : ℕ) → Contains S.routes r → Contains (recursive_hops r) a → IsFound sets (features.Via a) r.prefix
  via_found r a c hop = (
      let x = route_pair r in
      let p = pair_at x (from_origin S x (base (base_route S r c))) in
      let row = p.0 in
      let ls = map (held_list v.lists) row.pairs in
      let sound = All-contains (IsSoundRoute (length S.interfaces)) S.routes r
      (All-from_recursion (IsSoundRoute (length S.interfaces)) S.routes h.sound.routes) c in
      let path = filter_map_from recursive_of r.paths a hop in
      let via = some_in (via_of path.0.kind) (features.Via a) (hop_is path.0.kind a path.2) in
      let listed = Contains-flat_map via_features r.paths path.0 (features.Via a) path.1 via in
      let written : written_features (held_list v.lists p.3) ≡ flat_map via_features r.paths =
      ap (λ b. cond b (flat_map via_features (unwrap_or (content_of v.lists p.3.1) [])) []) (ap is_written p.5.0 ∙ written_is r.source sound.written)
      ∙ ap (λ o. flat_map via_features (unwrap_or o [])) p.5.1 in
      let there = Contains-flat_map written_features ls (held_list v.lists p.3) (features.Via a) (map_in (held_list v.lists) row.pairs p.3 p.4)
      (subst (λ l. Contains l (features.Via a)) (sym written) listed) in
      subst (IsFound sets (features.Via a)) p.2 (noted row (features.Via a) p.1
      (Contains-append_left _ (option_to_list (under_of row.prefix (cover_among order row.prefix) ls)) (features.Via a)
      (Contains-append_right (flat_map (path_features row.prefix) (chosen_list ls)) (flat_map written_features ls) (features.Via a) there)))
      )
