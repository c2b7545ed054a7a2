-- Rows made anew stand for the tables.
use Rattle.std.proofs.Common.{arith, ◌≡◌, ◌≢◌, ℕ, zero, suc, ◌+◌, ◌<◌, ◌≤◌, Bool, true, false, List, [], ◌∷◌, ◌++◌, length, map, filter, take, Option, Some, None, inl, inr, refl, sym, ◌∙◌, ap, subst, slice_get, get_or, ◌↔◌, ◌&&◌}
use Rattle.std.specs.Prelude.{min, ◌^◌, ◌-◌, Contains, slice_index, option_map, IsSome}
use Rattle.std.specs.List.{AllByRecursion, IsDistinct}
use Rattle.std.specs.Set.{is_member}
use Rattle.std.proofs.lemmas.Bool.{false≢true}
use Rattle.std.proofs.lemmas.List.Elements.{Contains-append_cases}
use Rattle.std.proofs.lemmas.Option.{slice_get_within}
use Rattle.std.proofs.lemmas.Map.Views.{Contains-from_any}
use Rattle.fib_base_list.proofs.Lists.{either, Contains-nil, Contains-flat_map}
use Rattle.fib_reach.specs.Walks.{AllDiffer}
use Rattle.fib_cover.specs.Covers.{IsAscending}
use Rattle.fib_addr.specs.Prefixes.{Prefix, same_prefix}
use Rattle.fib_addr.proofs.PrefixLaws.{same_prefix-Decides}
use Rattle.fib_resolve.specs.Pairs.{pairs, entries, chosen}
use Rattle.fib_resolve.specs.Loops.{targets, kind_targets, Kept, is_kept}
use Rattle.fib_resolve.specs.Sizes.{size}
use Rattle.fib_resolve.specs.Tables.{IsSound}
use Rattle.fib_resolve.specs.declared.types.Path.{Path}
use Rattle.fib_resolve.specs.declared.types.Tables.{Tables}
use Rattle.fib_resolve.proofs.Covering.{filter_in, filter_from, entries_apart}
use Rattle.fib_resolve.proofs.Entries.{targets_from_entries}
use Rattle.fib_resolve.proofs.KeptEdges.{kept_target}
use Rattle.fib_resolve_changes.specs.Ranks.{Falls, wakes}
use Rattle.fib_resolve_changes.proofs.CauseLaws.{any_from}
use Rattle.fib_resolve_changes.proofs.Edits.{any_in, in_cases}
use Rattle.fib_resolve_changes.proofs.SamePairs.{flat_map_from}
use Rattle.fib_resolve_changes.proofs.Targets.{target_entry}
use Rattle.fib_base_interned.specs.Interned.{kept_of}
use Rattle.fib_base_interned.proofs.Finding.{find_place, none_some, get_push}
use Rattle.fib_entries_rows.specs.Rows.{Row}
use Rattle.fib_entries_rows.specs.Known.{PathKept, prefix_of, row_of, rank_of, rank_in, IsRow, StandsFor}
use Rattle.fib_entries_rows.specs.inner.Building.{has_edge, AreKeptEdges, AreRows, AreTaken, AreHeld, AreAnew}

some_is : {X : Type 0} (x y : X) → Some x ≡ Some y → x ≡ y
some_is x y e = (cc)

-- the test of edges
edge_from : (S : Tables) (d e : Prefix) → has_edge S d e ≡ true → Contains (targets S d) e
unfolding targets
edge_from S d e h =
    let r = any_from (λ p. is_member same_prefix (kind_targets S d p.kind) e) (chosen S d) h in
    Contains-flat_map (λ p. kind_targets S d p.kind) (chosen S d) r.0 e r.1 (Contains-from_any (λ x y. (same_prefix-Decides x y).0) e (kind_targets S d r.0.kind) r.2)

edge_in : (S : Tables) (d e : Prefix) → Contains (targets S d) e → has_edge S d e ≡ true
unfolding targets
edge_in S d e c =
    let r = flat_map_from (λ p. kind_targets S d p.kind) (chosen S d) e c in
    any_in (λ p. is_member same_prefix (kind_targets S d p.kind) e) (chosen S d) r.0 r.1 (any_in (same_prefix e) (kind_targets S d r.0.kind) e r.2 ((same_prefix-Decides e e).1 refl))

pub entry_of : (S : Tables) (d e : Prefix) → Contains (targets S d) e → Contains (entries S) d
entry_of S d e c = Contains-from_any (λ x y. (same_prefix-Decides x y).0) d (entries S) (targets_from_entries S d e c)

pub dependants_are : (S : Tables) (e d : Prefix) → Contains (filter (λ z. has_edge S z e) (entries S)) d ↔ Contains (targets S d) e
dependants_are S e d = (
  λ c. edge_from S d e (filter_from (λ z. has_edge S z e) (entries S) d c).1,
  λ c. filter_in (λ z. has_edge S z e) (entries S) d (entry_of S d e c) (edge_in S d e c),
)

differ_each : (e : Prefix) (qs : List Prefix) → AllByRecursion (λ q. same_prefix e q ≡ false) qs → AllByRecursion (λ q. e ≢ q) qs
differ_each e [] all = tt
differ_each e (q ∷ qs) all = (λ is. false≢true (sym all.0 ∙ (same_prefix-Decides e q).1 is), differ_each e qs all.1)

pub distinct_differ : (qs : List Prefix) → IsDistinct same_prefix qs → AllDiffer qs
unfolding IsDistinct
distinct_differ [] d = tt
distinct_differ (q ∷ qs) d = (differ_each q qs d.0, distinct_differ qs d.1)

filter_each : (P : Prefix → Type 0) (test : Prefix → Bool) (qs : List Prefix) → AllByRecursion P qs → AllByRecursion P (filter test qs)
filter_each P test [] all = tt
filter_each P test (q ∷ qs) all = elim (either (test q)) [ inl is ↦ rw is (all.0, filter_each P test qs all.1) | inr isnt ↦ rw isnt (filter_each P test qs all.1) ]

pub filter_differ : (test : Prefix → Bool) (qs : List Prefix) → AllDiffer qs → AllDiffer (filter test qs)
filter_differ test [] d = tt
filter_differ test (q ∷ qs) d = elim (either (test q)) [ inl is ↦ rw is (filter_each (λ z. q ≢ z) test qs d.0, filter_differ test qs d.1) | inr isnt ↦ rw isnt (filter_differ test qs d.1) ]

pub dependants_once : (S : Tables) (e : Prefix) → AllDiffer (filter (λ z. has_edge S z e) (entries S))
dependants_once S e = filter_differ (λ z. has_edge S z e) (entries S) (distinct_differ (entries S) (entries_apart S))

pub no_rows : (lists : List PathKept) (S : Tables) (order : List Prefix) (ranks : List ℕ) → AreRows lists S order ranks 0 []
no_rows lists S order ranks = record {
  len = refl;
  own = λ k r at. absurd (none_some r at);
  ranked = λ k r at. absurd (none_some r at);
  each = λ r c. absurd (Contains-nil r c);
}

pub one_row : (lists : List PathKept) (S : Tables) (order : List Prefix) (ranks : List ℕ) (done : ℕ) (rows : List Row) (r : Row) → AreRows lists S order ranks done rows → IsRow lists S r
    → slice_get order done ≡ Some r.prefix → r.rank ≡ slice_index ranks done → AreRows lists S order ranks (done + 1) (rows ++ r ∷ [])
one_row lists S order ranks done rows r h is own rank = record {
  len = length_push rows r ∙ ap (λ n. n + 1) h.len;
  own = λ k q at. elim (get_push rows r k q at) [
    | inl old ↦ h.own k q old
    | inr new ↦ ap (slice_get order) (new.0 ∙ h.len) ∙ own ∙ ap (λ z. Some z.prefix) new.1
  ];
  ranked = λ k q at. elim (get_push rows r k q at) [
    | inl old ↦ h.ranked k q old
    | inr new ↦ ap (λ z. z.rank) (sym new.1) ∙ rank ∙ ap (slice_index ranks) (sym (new.0 ∙ h.len))
  ];
  each = λ q c. elim (Contains-append_cases rows (r ∷ []) q c) [
    | inl old ↦ h.each q old
    | inr new ↦ elim (in_cases r q [] new) [ inl same ↦ subst (IsRow lists S) same is | inr nothing ↦ absurd (Contains-nil q nothing) ]
  ];
}
  where
    length_push : (xs : List Row) (x : Row) → length (xs ++ x ∷ []) ≡ length xs + 1
    length_push [] x = refl
    length_push (y ∷ ys) x = let e = length_push ys x in omega (arith, e)

module _ (lists : List PathKept) (S : Tables) (order : List Prefix) (ranks : List ℕ) (edges : List (ℕ × ℕ)) (rows : List Row) (h : AreRows lists S order ranks (length order) rows) where
  prefixes_are : (rs : List Row) (qs : List Prefix) → length rs ≡ length qs → ((k : ℕ) (r : Row) → slice_get rs k ≡ Some r → slice_get qs k ≡ Some r.prefix) → map prefix_of rs ≡ qs
  prefixes_are [] [] n same = refl
  prefixes_are [] (q ∷ qs) n same = absurd (omega (arith, n))
  prefixes_are (r ∷ rs) [] n same = absurd (omega (arith, n))
  prefixes_are (r ∷ rs) (q ∷ qs) n same =
      ap (λ z. z ∷ map prefix_of rs) (sym (some_is q r.prefix (same 0 r refl))) ∙ ap (λ l. q ∷ l) (prefixes_are rs qs (omega (arith, n)) (λ k z at. same (suc k) z at))

  pub in_place : map prefix_of rows ≡ order
  in_place = prefixes_are rows order h.len h.own

  found_row : (e : Prefix) → Contains order e → (k : ℕ) × (r : Row) × (row_of rows e ≡ Some r) × (slice_get rows k ≡ Some r) × (slice_get order k ≡ Some e)
  found_row e c = by (row_of rows e) refl
    where
      there : Contains (map prefix_of rows) e
      there = subst (λ l. Contains l e) (sym in_place) c

      missed : (rs : List Row) → Contains (map prefix_of rs) e → row_of rs e ≡ None → ⊥
      missed [] c n = Contains-nil e c
      missed (r ∷ rs) c n = elim (either (same_prefix e r.prefix)) [
        | inl is ↦ none_some r (sym (rw is at n))
        | inr isnt ↦ elim (in_cases r.prefix e (map prefix_of rs) c) [
          | inl same ↦ false≢true (sym isnt ∙ (same_prefix-Decides e r.prefix).1 (sym same))
          | inr later ↦ missed rs later (rw isnt at n)
        ]
      ]

      by : (o : Option Row) → row_of rows e ≡ o → (k : ℕ) × (r : Row) × (row_of rows e ≡ Some r) × (slice_get rows k ≡ Some r) × (slice_get order k ≡ Some e)
      by None n = absurd (missed rows there n)
      by (Some r) at = (let f = find_place (λ z. same_prefix e z.prefix) rows r at in (f.0, r, at, f.1, h.own f.0 r f.1 ∙ ap Some (sym ((same_prefix-Decides e r.prefix).0 f.2))))

  kept_wakes : (e t : Prefix) → Kept S e t → wakes S e t ≡ true
  kept_wakes e t k = any_in (λ p. is_kept S e p.kind && is_member same_prefix (kind_targets S e p.kind) t) (chosen S e) k.0 k.1 (rw (k.2) (any_in (same_prefix t) (kind_targets S e k.0.kind) t k.3 ((same_prefix-Decides t t).1 refl)))

  -- ranks that fall along the edges by places fall along those of entries
  pub falls_by : ((e : Prefix) → Contains order e ↔ Contains (entries S) e) → AreKeptEdges S order (length order) edges → ((d : ℕ × ℕ) → Contains edges d → slice_index ranks d.1 < slice_index ranks d.0) → Falls S (rank_of rows)
  falls_by same kept fall e t k =
      let te = Contains-from_any (λ x y. (same_prefix-Decides x y).0) t (entries S) (target_entry S e t k.0 k.1 k.3) in
      let a = found_row e ((same e).1 (entry_of S e t (kept_target S e t k))) in
      let b = found_row t ((same t).1 te) in
      let d = (kept (a.0, b.0)).1 (slice_get_within order a.0 e a.4, (e, t, a.4, b.4, kept_wakes e t k)) in
      let lt = fall (a.0, b.0) d in
      let x = ap rank_in a.2 ∙ h.ranked a.0 a.1 a.3 in
      let y = ap rank_in b.2 ∙ h.ranked b.0 b.1 b.3 in
      omega (arith, lt, x, y)

-- what is made anew stands for the tables
pub stands_anew : (lists : List PathKept) (S : Tables) (order : List Prefix) (rows : List Row) (ids : List ℕ) (objects : ℕ) → AreAnew lists S order rows → IsAscending order → ((e : Prefix) → Contains order e ↔ Contains (entries S) e)
    → AreTaken lists (pairs S) ids → objects ≡ min (size S) (2 ^ 32 - 1) → IsSound S → StandsFor (record { rows = rows; lists = lists; objects = objects }) S
stands_anew lists S order rows ids objects h ordered same taken counted sound =
    let in_order = in_place lists S order h.ranks [] rows h.made in
    record {
      sound = sound;
      ordered = subst IsAscending (sym in_order) ordered;
      entries = λ e. subst (λ l. Contains l e ↔ Contains (entries S) e) (sym in_order) (same e);
      rows = h.made.each;
      falls = h.falls;
      users = taken.users;
      objects = counted;
    }

take_next : {X : Type 0} (xs : List X) (i : ℕ) (x : X) → i < length xs → x ≡ get_or xs i x → take (suc i) xs ≡ take i xs ++ x ∷ []
take_next [] i x lt is = absurd (omega (arith, lt))
take_next (y ∷ ys) zero x lt is = ap (λ z. z ∷ []) (sym is)
take_next (y ∷ ys) (suc i) x lt is = ap (λ l. y ∷ l) (take_next ys i x (omega (arith, lt)) is)

pub take_more : {X : Type 0} (xs : List X) (i : ℕ) (x : X) → i < length xs → x ≡ get_or xs i x → take (i + 1) xs ≡ take i xs ++ x ∷ []
take_more xs i x lt is = let e : i + 1 ≡ suc i = omega arith in ap (λ n. take n xs) e ∙ take_next xs i x lt is

pub take_all : {X : Type 0} (xs : List X) (i : ℕ) → length xs ≤ i → take i xs ≡ xs
take_all [] zero le = refl
take_all [] (suc i) le = refl
take_all (x ∷ xs) zero le = absurd (omega (arith, le))
take_all (x ∷ xs) (suc i) le = ap (λ l. x ∷ l) (take_all xs i (omega (arith, le)))

some_content : (o : Option PathKept) (paths : List Path) → option_map (λ k. k.content) o ≡ Some paths → IsSome o
some_content None paths h = absurd (none_some paths h)
some_content (Some k) paths h = refl

-- and each list that they name is kept
pub all_held : (lists : List PathKept) (S : Tables) (order : List Prefix) (ranks : List ℕ) (done : ℕ) (rows : List Row) → AreRows lists S order ranks done rows → AreHeld rows lists
all_held lists S order ranks done rows h r p c d = let x = (h.each r c).pairs.real p d in some_content (kept_of lists p.1) x.0.paths x.3.1
