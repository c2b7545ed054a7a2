-- What rows tell of the listing of entries.
use Rattle.std.proofs.Common.{arith, rules, ◌≡◌, ℕ, ◌<◌, ◌&&◌, ◌==◌, cond, Bool, true, false, List, [], ◌∷◌, map, None, inl, inr, refl, sym, ◌∙◌, ap, subst, nat_lt}
use Rattle.std.specs.Prelude.{Contains, filter}
use Rattle.std.specs.List.Sorted.{IsStrictlySortedBy}
use Rattle.std.specs.declared.cmp.Ordering.TheVariants.{Less}
use Rattle.std.proofs.lemmas.Bool.Decides.{nat_tests}
use Rattle.std.proofs.lemmas.Map.Views.{Contains-from_any}
use Rattle.fib_base_list.proofs.Lists.{either, each-filter, each-map, each-weaker}
use Rattle.fib_base_list.proofs.Booleans.{and_both}
use Rattle.fib_addr.specs.Prefixes.{Prefix, same_prefix}
use Rattle.fib_addr.proofs.PrefixLaws.{same_prefix-Decides}
use Rattle.fib_cover.specs.Covers.{prefix_cmp, IsAscending}
use Rattle.fib_resolve.specs.Keys.{source_rank, same_source}
use Rattle.fib_resolve.specs.Pairs.{pairs, entries, chosen}
use Rattle.fib_resolve.specs.declared.types.FibSource.{FibSource}
use Rattle.fib_resolve.specs.declared.types.FibSource.TheVariants as sources
use Rattle.fib_resolve.specs.declared.types.Tables.{Tables}
use Rattle.fib_resolve.proofs.Covering.{entries_apart, filter_in, filter_from}
use Rattle.fib_resolve.proofs.Entries.{chosen-no_entry}
use Rattle.fib_base_interned.proofs.Finding.{none_some}
use Rattle.fib_resolve.proofs.OneList.{source_by_rank}
use Rattle.fib_resolve_changes.specs.Ranks.{has_entry}
use Rattle.fib_resolve_changes.proofs.CauseLaws.{any_from}
use Rattle.fib_resolve_changes.proofs.Edits.{any_in}
use Rattle.fib_resolve_changes.proofs.SamePairs.{map_in, map_from}
use Rattle.fib_entries_rows.specs.Known.{Known, PathKept, StandsFor, ArePairs, AreBestFirst, prefix_of, rank_of, chosen_of}
use Rattle.fib_print_listing.specs.Entries.{all_sources, has_source, sources_at}
use Rattle.fib_print_listing.specs.Order.{IsOrderedBy, in_order, prefix_before}
use Rattle.fib_print_listing.specs.inner.Forwards.{ranked_in, AreRanked, IsByRank}
use Rattle.fib_print_listing.specs.inner.Views.{source_in}
use Rattle.fib_print_listing.proofs.Orders.{prefix_lower, prefix_off, prefix_trans, prefix_apart}
use Rattle.fib_print_listing.proofs.Sorting.{listed, only}

ascending : (ps : List Prefix) → IsAscending ps → IsOrderedBy prefix_before ps
unfolding IsStrictlySortedBy
ascending [] h = tt
ascending (p ∷ ps) h = (each-weaker (λ q. prefix_cmp p q ≡ Less) (λ q. prefix_before p q ≡ true) (λ q. prefix_lower p q) ps h.0, ascending ps h.1)

-- by source, the best first
source_before : FibSource → FibSource → Bool
source_before s t = nat_lt (source_rank s) (source_rank t)

known : (s : FibSource) → Contains all_sources s
known sources.Special = (0, omega arith, refl)
known sources.Interface = (1, omega arith, refl)
known sources.Api = (2, omega arith, refl)
known sources.Cli = (3, omega arith, refl)
known sources.Adjacency = (4, omega arith, refl)
known sources.RecursiveResolution = (5, omega arith, refl)
known sources.DefaultRoute = (6, omega arith, refl)

off : (s : FibSource) → source_before s s ≡ false
unfolding source_before
off s = grind (arith, nat_tests)

trans : (s t u : FibSource) → source_before s t ≡ true → source_before t u ≡ true → source_before s u ≡ true
unfolding source_before
trans s t u h k = grind (arith, nat_tests)

lower : (s t : FibSource) → source_rank s < source_rank t → source_before s t ≡ true
unfolding source_before
lower s t h = grind (arith, nat_tests)

best_first : (ps : List (FibSource × ℕ)) → AreBestFirst ps → IsOrderedBy source_before (map source_in ps)
best_first [] h = tt
best_first (p ∷ ps) h = (
  each-map (λ s. source_before p.0 s ≡ true) source_in ps (each-weaker (λ q. source_rank p.0 < source_rank q.0) (λ q. source_before p.0 q.0 ≡ true) (λ q. lower p.0 q.0) ps h.0),
  best_first ps h.1,
)

filtered : (test : FibSource → Bool) (ss : List FibSource) → IsOrderedBy source_before ss → IsOrderedBy source_before (filter test ss)
filtered test [] h = tt
filtered test (s ∷ ss) h = by (test s) (filtered test ss h.1)
  where
    by : (b : Bool) → IsOrderedBy source_before (filter test ss) → IsOrderedBy source_before (cond b (s ∷ filter test ss) (filter test ss))
    by true rest = (each-weaker (λ t. (source_before s t ≡ true) × (test t ≡ true)) (λ t. source_before s t ≡ true) (λ t c. c.0) (filter test ss) (each-filter (λ t. source_before s t ≡ true) test ss h.0), rest)
    by false rest = rest

all_ordered : IsOrderedBy source_before all_sources
unfolding source_before
all_ordered = search rules

-- the sources of a row are those of the entry
pub sources_are : (lists : List PathKept) (S : Tables) (e : Prefix) (held : List (FibSource × ℕ)) → ArePairs lists S e held → map source_in held ≡ sources_at S e
sources_are lists S e held are =
    only source_before off trans (map source_in held) (sources_at S e) (best_first held are.best_first) (filtered (has_source (pairs S) e) all_sources all_ordered) (λ s. (there s, back s))
  where
    there : (s : FibSource) → Contains (map source_in held) s → Contains (sources_at S e) s
    there s c =
        let p = map_from source_in held s c in
        let x = are.real p.0 p.1 in
        let own : same_prefix x.0.prefix e ≡ true = (same_prefix-Decides x.0.prefix e).1 (sym x.2) in
        let from : x.0.source ≡ s = sym x.3.0 ∙ p.2 in
        let here : same_source x.0.source s ≡ true = ap (λ t. same_source t s) from ∙ itself s in
        filter_in (has_source (pairs S) e) all_sources s (known s) (any_in (λ y. same_prefix y.prefix e && same_source y.source s) (pairs S) x.0 x.1 (rw (own, here) refl))
      where
        itself : (s : FibSource) → same_source s s ≡ true
        itself s = grind (arith, nat_tests)

    back : (s : FibSource) → Contains (sources_at S e) s → Contains (map source_in held) s
    back s c =
        let f = filter_from (has_source (pairs S) e) all_sources s c in
        let x = any_from (λ y. same_prefix y.prefix e && same_source y.source s) (pairs S) f.1 in
        let both = and_both (same_prefix x.0.prefix e) (same_source x.0.source s) x.2 in
        let p = are.found x.0 x.1 (sym ((same_prefix-Decides x.0.prefix e).0 both.0)) in
        subst (Contains (map source_in held)) (p.2.0 ∙ source_by_rank x.0.source s (alike (source_rank x.0.source) (source_rank s) both.1)) (map_in source_in held p.0 p.1)
      where
        alike : (m n : ℕ) → (m == n) ≡ true → m ≡ n
        alike m n h = grind (arith, nat_tests)

-- nothing is chosen where the prefix is no entry
pub nothing_chosen : (S : Tables) (e : Prefix) → None ≡ chosen_of S e → [] ≡ chosen S e
nothing_chosen S e h = elim (either (has_entry S e)) [
  | inl is ↦ absurd (none_some (chosen S e) (rw is at h))
  | inr isnt ↦ sym (chosen-no_entry S e isnt)
]

module _ (v : Known) (S : Tables) (h : StandsFor v S) where
  pub listed_are : map prefix_of v.rows ≡ in_order prefix_before (entries S)
  listed_are =
      let l = listed prefix_before same_prefix prefix_trans prefix_apart (entries S) (entries_apart S) in
      only prefix_before prefix_off prefix_trans (map prefix_of v.rows) (in_order prefix_before (entries S)) (ascending (map prefix_of v.rows) h.ordered) l.ordered
      (λ e. (λ c. (l.members e).1 ((h.entries e).0 c), λ c. (h.entries e).1 ((l.members e).0 c)))

  pub by_rank : (xs : List (ℕ × Prefix)) → AreRanked v.rows xs → IsByRank S (rank_of v.rows) xs
  by_rank xs are = record {
    found = λ p is. (are.members (rank_of v.rows p, p)).1 (map_in (ranked_in v.rows) (map prefix_of v.rows) p ((h.entries p).1 (Contains-from_any (λ x y. (same_prefix-Decides x y).0) p (entries S) is)));
    own = λ x c. (let p = map_from (ranked_in v.rows) (map prefix_of v.rows) x ((are.members x).0 c) in subst (λ (y : ℕ × Prefix). y.0 ≡ rank_of v.rows y.1) p.2 refl);
    rising = are.rising;
  }
