-- Rows that stand for tables name each list as often as the tables' pairs have it.
use Rattle.std.proofs.Common.{arith, ◌≡◌, ◌≢◌, ℕ, ◌+◌, ◌<◌, Bool, true, false, List, [], ◌∷◌, ◌++◌, map, Option, Some, None, inl, inr, refl, sym, ◌∙◌, ap, subst, ◌↔◌, count_by}
use Rattle.std.specs.Prelude.{Contains, flat_map, IsSome}
use Rattle.std.specs.List.{AllByRecursion, IsDistinct}
use Rattle.std.specs.Cmp.Lexicographic.{pointwise}
use Rattle.std.proofs.lemmas.Bool.{false≢true}
use Rattle.std.proofs.lemmas.List.Sums.{sum_by-append}
use Rattle.std.proofs.lemmas.Map.Views.{Contains-from_any}
use Rattle.fib_base_list.proofs.Lists.{either, Contains-nil, Contains-flat_map}
use Rattle.fib_base_list.proofs.Booleans.{unit_of, count_by-cons}
use Rattle.fib_reach.specs.Walks.{AllDiffer}
use Rattle.fib_addr.specs.Prefixes.{Prefix}
use Rattle.fib_addr.proofs.PrefixLaws.{same_prefix-Decides}
use Rattle.fib_cover.specs.Covers.{IsAscending}
use Rattle.fib_base_interned.specs.Interned.{kept_of, AreInterned}
use Rattle.fib_resolve.specs.Keys.{same_path, source_rank}
use Rattle.fib_resolve.specs.Pairs.{pairs, entries, same_pair}
use Rattle.fib_resolve.specs.declared.pairs.Pair.{Pair}
use Rattle.fib_resolve.specs.declared.types.FibSource.{FibSource}
use Rattle.fib_resolve.specs.declared.types.Path.{Path}
use Rattle.fib_resolve.specs.declared.types.Tables.{Tables}
use Rattle.fib_resolve.proofs.Covering.{pairs_apart}
use Rattle.fib_resolve.proofs.Touching.{same_pair-Decides}
use Rattle.fib_resolve_changes.proofs.Edits.{in_cases, in_front, in_rest}
use Rattle.fib_resolve_changes.proofs.SamePairs.{map_in, map_from, flat_map_from}
use Rattle.fib_resolve_changes.proofs.Targets.{pair_entry}
use Rattle.fib_entries_rows.specs.Known.{Known, PathKept, StandsFor, ArePairs, AreBestFirst, content_of, prefix_of, holders}
use Rattle.fib_entries_rows.specs.Rows.{Row}
use Rattle.fib_entries_rows.specs.inner.Building.{AreHeld}
use Rattle.fib_entries_rows.specs.inner.Fields.{AreCounted}
use Rattle.fib_entries_rows.specs.inner.Used.{has_content, named_count, pairs_of}
use Rattle.fib_entries_rows.proofs.Counting.{counts_same, counts_have}
use Rattle.fib_entries_rows.proofs.Taking.{list_is}
use Rattle.fib_entries_rows.proofs.Telling.{from_pair}
use Rattle.fib_entries_rows.proofs.Touches.{ascending_differ}

listed : Option (List Path) → List Path
listed None = []
listed (Some paths) = paths

pair_at : List PathKept → Prefix → FibSource × ℕ → Pair
pair_at lists e q = record { prefix = e; source = q.0; paths = listed (content_of lists q.1) }

row_pairs : List PathKept → Row → List Pair
row_pairs lists r = map (pair_at lists r.prefix) r.pairs

abbrev has_list : List Path → Pair → Bool
has_list paths x = pointwise same_path x.paths paths

-- a number that is kept has the content that its pair has
content_same : (lists : List PathKept) (paths : List Path) (e : Prefix) (q : FibSource × ℕ) → IsSome (kept_of lists q.1) → has_content lists paths q ≡ has_list paths (pair_at lists e q)
unfolding pair_at listed
content_same lists paths e q kept = by (kept_of lists q.1) refl kept
  where
    by : (o : Option PathKept) → kept_of lists q.1 ≡ o → IsSome o → has_content lists paths q ≡ has_list paths (pair_at lists e q)
    by None is some = absurd (false≢true some)
    by (Some k) is some = rw is refl

count_pairs : (lists : List PathKept) (paths : List Path) (e : Prefix) (held : List (FibSource × ℕ)) → ((q : FibSource × ℕ) → Contains held q → IsSome (kept_of lists q.1))
    → count_by (has_content lists paths) held ≡ count_by (has_list paths) (map (pair_at lists e) held)
count_pairs lists paths e [] kept = refl
count_pairs lists paths e (q ∷ qs) kept =
    count_by-cons (has_content lists paths) q qs
    ∙ (ap (λ b. unit_of b + count_by (has_content lists paths) qs) (content_same lists paths e q (kept q (in_front q q qs refl)))
    ∙ (ap (λ n. unit_of (has_list paths (pair_at lists e q)) + n) (count_pairs lists paths e qs (λ z c. kept z (in_rest q z qs c)))
    ∙ sym (count_by-cons (has_list paths) (pair_at lists e q) (map (pair_at lists e) qs))))

pub count_append : {X : Type 0} (f : X → Bool) (xs ys : List X) → count_by f (xs ++ ys) ≡ count_by f xs + count_by f ys
count_append f xs ys = sum_by-append (λ y. unit_of (f y)) xs ys

count_rows : (lists : List PathKept) (paths : List Path) (rows : List Row) → AreHeld rows lists → named_count lists rows paths ≡ count_by (has_list paths) (flat_map (row_pairs lists) rows)
unfolding row_pairs
count_rows lists paths [] held = refl
count_rows lists paths (r ∷ rs) held =
    count_append (has_content lists paths) r.pairs (flat_map pairs_of rs)
    ∙ (ap (λ n. n + count_by (has_content lists paths) (flat_map pairs_of rs)) (count_pairs lists paths r.prefix r.pairs (λ q c. held r q (in_front r r rs refl) c))
    ∙ (ap (λ n. count_by (has_list paths) (row_pairs lists r) + n) (count_rows lists paths rs (λ z q c. held z q (in_rest r z rs c)))
    ∙ sym (count_append (has_list paths) (row_pairs lists r) (flat_map (row_pairs lists) rs))))

-- lists without repeats that share nothing have none together
joined_apart : (xs ys : List Pair) → IsDistinct same_pair xs → IsDistinct same_pair ys → ((x y : Pair) → Contains xs x → Contains ys y → same_pair x y ≡ false) → IsDistinct same_pair (xs ++ ys)
unfolding IsDistinct
joined_apart [] ys d e off = e
joined_apart (x ∷ xs) ys d e off = (both xs d.0, joined_apart xs ys d.1 e (λ z y c w. off z y (in_rest x z xs c) w))
  where
    rest : (ys : List Pair) → ((y : Pair) → Contains ys y → same_pair x y ≡ false) → AllByRecursion (λ y. same_pair x y ≡ false) ys
    rest [] f = tt
    rest (y ∷ ys) f = (f y (in_front y y ys refl), rest ys (λ z c. f z (in_rest y z ys c)))

    both : (zs : List Pair) → AllByRecursion (λ y. same_pair x y ≡ false) zs → AllByRecursion (λ y. same_pair x y ≡ false) (zs ++ ys)
    both [] a = rest ys (λ y c. off x y (in_front x x xs refl) c)
    both (z ∷ zs) a = (a.0, both zs a.1)

other_pair : (x y : Pair) → (x ≡ y → ⊥) → same_pair x y ≡ false
other_pair x y off = elim (either (same_pair x y)) [ inl is ↦ absurd (off ((same_pair-Decides x y).0 is)) | inr isnt ↦ isnt ]

row_apart : (lists : List PathKept) (e : Prefix) (held : List (FibSource × ℕ)) → AreBestFirst held → IsDistinct same_pair (map (pair_at lists e) held)
unfolding IsDistinct pair_at
row_apart lists e [] best = tt
row_apart lists e (q ∷ qs) best = (later qs best.0, row_apart lists e qs best.1)
  where
    later : (zs : List (FibSource × ℕ)) → AllByRecursion (λ z. source_rank q.0 < source_rank z.0) zs → AllByRecursion (λ y. same_pair (pair_at lists e q) y ≡ false) (map (pair_at lists e) zs)
    later [] a = tt
    later (z ∷ zs) a = (other_pair (pair_at lists e q) (pair_at lists e z) (λ is. less (source_rank q.0) (source_rank z.0) a.0 (ap (λ x. source_rank x.source) is)), later zs a.1)
      where
        less : (m n : ℕ) → m < n → m ≡ n → ⊥
        less m n lt is = omega (arith, lt, is)

rows_apart : (lists : List PathKept) (rows : List Row) → AllDiffer (map prefix_of rows) → ((r : Row) → Contains rows r → AreBestFirst r.pairs) → IsDistinct same_pair (flat_map (row_pairs lists) rows)
unfolding IsDistinct row_pairs pair_at
rows_apart lists [] differ best = tt
rows_apart lists (r ∷ rs) differ best =
    joined_apart (row_pairs lists r) (flat_map (row_pairs lists) rs) (row_apart lists r.prefix r.pairs (best r (in_front r r rs refl)))
    (rows_apart lists rs differ.1 (λ z c. best z (in_rest r z rs c)))
    (λ x y c d. other_pair x y (λ is.
    let q = map_from (pair_at lists r.prefix) r.pairs x c in
    let z = flat_map_from (row_pairs lists) rs y d in
    let w = map_from (pair_at lists z.0.prefix) z.0.pairs y z.2 in
    apart_from (map prefix_of rs) differ.0 z.0.prefix (map_in prefix_of rs z.0 z.1)
    (ap (λ p. p.prefix) q.2 ∙ (ap (λ p. p.prefix) is ∙ sym (ap (λ p. p.prefix) w.2)))))
  where
    apart_from : (ps : List Prefix) → AllByRecursion (λ p. r.prefix ≢ p) ps → (p : Prefix) → Contains ps p → r.prefix ≡ p → ⊥
    apart_from [] a p c is = absurd (Contains-nil p c)
    apart_from (u ∷ us) a p c is = elim (in_cases u p us c) [ inl same ↦ a.0 (is ∙ sym same) | inr later ↦ apart_from us a.1 p later is ]

module _ (v : Known) (S : Tables) (ordered : IsAscending (map prefix_of v.rows)) (all : (e : Prefix) → Contains (map prefix_of v.rows) e ↔ Contains (entries S) e)
    (rows : (r : Row) → Contains v.rows r → ArePairs v.lists S r.prefix r.pairs) where
  pairs_from : (z : Pair) → Contains (flat_map (row_pairs v.lists) v.rows) z → Contains (pairs S) z
  unfolding row_pairs pair_at listed
  pairs_from z c =
      let r = flat_map_from (row_pairs v.lists) v.rows z c in
      let q = map_from (pair_at v.lists r.0.prefix) r.0.pairs z r.2 in
      let x = (rows r.0 r.1).real q.0 q.1 in
      subst (Contains (pairs S)) (from_pair x.0 (pair_at v.lists r.0.prefix q.0) (sym x.2) (sym x.3.0) (sym (ap listed x.3.1)) ∙ q.2) x.1

  pairs_to : (z : Pair) → Contains (pairs S) z → Contains (flat_map (row_pairs v.lists) v.rows) z
  unfolding row_pairs pair_at listed
  pairs_to z c =
      let e = Contains-from_any (λ x y. (same_prefix-Decides x y).0) z.prefix (entries S) (pair_entry S z z.prefix c refl) in
      let r = map_from prefix_of v.rows z.prefix ((all z.prefix).1 e) in
      let q = (rows r.0 r.1).found z c r.2 in
      subst (Contains (flat_map (row_pairs v.lists) v.rows)) (from_pair (pair_at v.lists r.0.prefix q.0) z r.2 q.2.0 (ap listed q.2.1))
      (Contains-flat_map (row_pairs v.lists) v.rows r.0 (pair_at v.lists r.0.prefix q.0) r.1 (map_in (pair_at v.lists r.0.prefix) r.0.pairs q.0 q.1))

  pub named_holders : AreHeld v.rows v.lists → (paths : List Path) → named_count v.lists v.rows paths ≡ holders S paths
  named_holders held paths =
      count_rows v.lists paths v.rows held
      ∙ counts_same (has_list paths) (flat_map (row_pairs v.lists) v.rows) (pairs S) (rows_apart v.lists v.rows (ascending_differ (map prefix_of v.rows) ordered) (λ r c. (rows r c).best_first))
      (pairs_apart S) (λ z. (pairs_from z, pairs_to z))

pub counted_rows : (v : Known) (S : Tables) → StandsFor v S → AreHeld v.rows v.lists → AreInterned v.lists → AreCounted v.lists (named_count v.lists v.rows)
counted_rows v S k held apart =
    let same = named_holders v S k.ordered k.entries (λ r c. (k.rows r c).pairs) held in
    record {
      apart = apart;
      users = λ l c. k.users l c ∙ sym (same l.content);
      found = λ paths pos. (let x = counts_have (has_list paths) (pairs S) (subst (λ n. 0 < n) (same paths) pos) in
          let e = Contains-from_any (λ x y. (same_prefix-Decides x y).0) x.0.prefix (entries S) (pair_entry S x.0 x.0.prefix x.1 refl) in
          let r = map_from prefix_of v.rows x.0.prefix ((k.entries x.0.prefix).1 e) in
          let q = (k.rows r.0 r.1).pairs.found x.0 x.1 r.2 in
          (q.0.1, q.2.1 ∙ ap Some (list_is x.0.paths paths x.2)));
    }
