-- The pairs of a prefix, source by source.
use Rattle.std.proofs.Common.{arith, ◌≡◌, ℕ, zero, suc, ◌+◌, ◌<◌, ◌≤◌, Bool, true, false, cond, not, ◌&&◌, List, [], ◌∷◌, ◌++◌, length, Some, None, inl, inr, refl, sym, ◌∙◌, ap, slice_get, get_or}
use Rattle.std.specs.Prelude.{Contains, position}
use Rattle.std.specs.List.{AllByRecursion, list_any, AllZip, prefix_len, position_or_len}
use Rattle.std.proofs.lemmas.Bool.{false≢true, cases_lt, lt-ltb}
use Rattle.std.proofs.lemmas.Bool.Decides.{Decides-eqb}
use Rattle.std.proofs.lemmas.List.Quantifiers.{position-Some}
use Rattle.std.proofs.lemmas.List.Elements.{Contains-append_left, Contains-append_right, Contains-append_cases}
use Rattle.std.proofs.lemmas.Option.{slice_get-get_or}
use Rattle.fib_base_list.proofs.Lists.{either, Contains-nil}
use Rattle.fib_base_list.proofs.Booleans.{and_both}
use Rattle.fib_addr.specs.Prefixes.{Prefix, same_prefix}
use Rattle.fib_addr.proofs.PrefixLaws.{same_prefix-Decides}
use Rattle.fib_resolve.specs.Keys.{source_rank, same_source}
use Rattle.fib_resolve.specs.Pairs.{pairs}
use Rattle.fib_resolve.specs.Tables.{IsSound}
use Rattle.fib_resolve.specs.declared.pairs.Pair.{Pair}
use Rattle.fib_resolve.specs.declared.types.FibSource.{FibSource}
use Rattle.fib_resolve.specs.declared.types.FibSource.TheVariants as sources
use Rattle.fib_resolve.specs.declared.types.Tables.{Tables}
use Rattle.fib_resolve.proofs.OneList.{one_list, source_by_rank}
use Rattle.fib_resolve.proofs.Entries.{is_entry}
use Rattle.fib_resolve_pairs.specs.Numbers.{number_in}
use Rattle.fib_resolve_pairs.proofs.Numbers.{unnumbered}
use Rattle.fib_resolve_changes.proofs.Edits.{in_cases, any_in}
use Rattle.fib_base_interned.proofs.Finding.{contains_at, none_some}
use Rattle.fib_entries_rows.specs.Known.{PathKept, content_of, AreBestFirst, ArePairs}
use Rattle.fib_entries_rows.specs.inner.Building.{ArePicked, AreTaken}

some_is : {X : Type 0} (x y : X) → Some x ≡ Some y → x ≡ y
some_is x y e = (cc)

none_passes : (p : Pair → Bool) (xs : List Pair) → length xs ≤ prefix_len (λ x. not (p x)) xs → list_any p xs ≡ false
none_passes p [] h = refl
none_passes p (x ∷ xs) h =
    elim (either (p x)) [
      | inl is ↦ absurd (short (rw is at h))
      | inr isnt ↦ rw isnt (none_passes p xs (less (rw isnt at h)))
    ]
  where
    short : suc (length xs) ≤ 0 → ⊥
    short l = omega (arith, l)

    less : suc (length xs) ≤ 1 + prefix_len (λ x. not (p x)) xs → length xs ≤ prefix_len (λ x. not (p x)) xs
    less l = omega (arith, l)

position_none : (p : Pair → Bool) (xs : List Pair) → position p xs ≡ None → list_any p xs ≡ false
position_none p xs h =
    elim (cases_lt (position_or_len p xs) (length xs)) [
      | inl lt ↦ absurd (none_some (position_or_len p xs) (sym h ∙ ap (λ b. cond b (Some (position_or_len p xs)) None) (lt-ltb (position_or_len p xs) (length xs) lt)))
      | inr ge ↦ none_passes p xs ge
    ]

pair_passes : (e : Prefix) (s : FibSource) (x : Pair) → e ≡ x.prefix → s ≡ x.source → (same_prefix e x.prefix && same_source s x.source) ≡ true
pair_passes e s x p q = rw ((same_prefix-Decides e x.prefix).1 p) ((Decides-eqb (source_rank s) (source_rank x.source)).1 (ap source_rank q))

-- what is no entry has no pair
pub none_at_all : (S : Tables) (e : Prefix) (ids : List ℕ) → number_in S e ≡ None → ArePicked e (pairs S) ids 7 []
none_at_all S e ids none = record {
  best_first = tt;
  below = λ p c. absurd (Contains-nil p c);
  found = λ x c own low. absurd (false≢true (sym (sym (is_entry S e) ∙ unnumbered S e none) ∙ any_in (λ y. same_prefix e y.prefix) (pairs S) x c ((same_prefix-Decides e x.prefix).1 own)));
  real = λ p c. absurd (Contains-nil p c);
}

-- no pair of that source
pub none_more : (e : Prefix) (xs : List Pair) (ids : List ℕ) (done : ℕ) (held : List (FibSource × ℕ)) (s : FibSource) → ArePicked e xs ids done held → source_rank s ≡ done
    → position (λ x. same_prefix e x.prefix && same_source s x.source) xs ≡ None → ArePicked e xs ids (done + 1) held
none_more e xs ids done held s h rank none = record {
  best_first = h.best_first;
  below = λ p c. (let low = h.below p c in omega (arith, low));
  found = λ x c own low. elim (cases_lt (source_rank x.source) done) [
    | inl before ↦ h.found x c own before
    | inr ge ↦ (let r : source_rank s ≡ source_rank x.source = omega (arith, rank, low, ge) in
        absurd (false≢true (sym (position_none (λ y. same_prefix e y.prefix && same_source s y.source) xs none)
        ∙ any_in (λ y. same_prefix e y.prefix && same_source s y.source) xs x c (pair_passes e s x own (source_by_rank s x.source r)))))
  ];
  real = h.real;
}

push_best : (held : List (FibSource × ℕ)) (p : FibSource × ℕ) → AreBestFirst held → ((q : FibSource × ℕ) → Contains held q → source_rank q.0 < source_rank p.0) → AreBestFirst (held ++ p ∷ [])
push_best [] p h low = (tt, tt)
push_best (q ∷ qs) p h low = (push_each q qs h.0, push_best qs p h.1 (λ r c. low r (suc c.0, omega (arith, c.1), c.2)))
  where
    push_each : (r : FibSource × ℕ) (rs : List (FibSource × ℕ)) → AllByRecursion (λ z. source_rank q.0 < source_rank z.0) rs → AllByRecursion (λ z. source_rank q.0 < source_rank z.0) (rs ++ p ∷ [])
    push_each r [] all = (low q (0, omega arith, refl), tt)
    push_each r (z ∷ zs) all = (all.0, push_each r zs all.1)

-- the pair of that source
pub one_more : (e : Prefix) (xs : List Pair) (ids : List ℕ) (done : ℕ) (held : List (FibSource × ℕ)) (s : FibSource) (k id : ℕ) → ArePicked e xs ids done held → source_rank s ≡ done
    → position (λ x. same_prefix e x.prefix && same_source s x.source) xs ≡ Some k → slice_get ids k ≡ Some id → ArePicked e xs ids (done + 1) (held ++ (s, id) ∷ [])
one_more e xs ids done held s k id h rank at number = record {
  best_first = push_best held (s, id) h.best_first (λ q c. let low = h.below q c in omega (arith, low, rank));
  below = λ p c. elim (Contains-append_cases held ((s, id) ∷ []) p c) [
    | inl old ↦ (let low = h.below p old in omega (arith, low))
    | inr new ↦ elim (in_cases (s, id) p [] new) [ inl is ↦ (let r = ap (λ (z : FibSource × ℕ). source_rank z.0) is in omega (arith, r, rank)) | inr nothing ↦ absurd (Contains-nil p nothing) ]
  ];
  found = λ x c own low. elim (cases_lt (source_rank x.source) done) [
    | inl before ↦ (let f = h.found x c own before in (f.0, Contains-append_left held ((s, id) ∷ []) f.0 f.1, f.2))
    | inr ge ↦ (let r : source_rank s ≡ source_rank x.source = omega (arith, rank, low, ge) in
        ((s, id), Contains-append_right held ((s, id) ∷ []) (s, id) (0, omega arith, refl), source_by_rank s x.source r))
  ];
  real = λ p c. elim (Contains-append_cases held ((s, id) ∷ []) p c) [
    | inl old ↦ h.real p old
    | inr new ↦ elim (in_cases (s, id) p [] new) [
      | inl is ↦ here p is
      | inr nothing ↦ absurd (Contains-nil p nothing)
    ]
  ];
}
  where
    here : (p : FibSource × ℕ) → (s, id) ≡ p → (k : ℕ) × (x : Pair) × (slice_get xs k ≡ Some x) × (slice_get ids k ≡ Some p.1) × (e ≡ x.prefix) × (p.0 ≡ x.source)
    here p is =
        let f = position-Some (λ x. same_prefix e x.prefix && same_source s x.source) xs k (record { prefix = e; source = s; paths = [] }) at in
        let both = and_both (same_prefix e (get_or xs k (record { prefix = e; source = s; paths = [] })).prefix) (same_source s (get_or xs k (record { prefix = e; source = s; paths = [] })).source) f.1 in (
          k,
          get_or xs k (record { prefix = e; source = s; paths = [] }),
          slice_get-get_or xs k (record { prefix = e; source = s; paths = [] }) f.0,
          number ∙ ap (λ (z : FibSource × ℕ). Some z.1) is,
          (same_prefix-Decides e (get_or xs k (record { prefix = e; source = s; paths = [] })).prefix).0 both.0,
          ap (λ (z : FibSource × ℕ). z.0) (sym is) ∙ source_by_rank s (get_or xs k (record { prefix = e; source = s; paths = [] })).source ((Decides-eqb (source_rank s) (source_rank (get_or xs k (record { prefix = e; source = s; paths = [] })).source)).0 both.1),
        )

zip_at : (lists : List PathKept) (xs : List Pair) (ids : List ℕ) → AllZip (λ x id. content_of lists id ≡ Some x.paths) xs ids → (k : ℕ) (x : Pair) (id : ℕ) → slice_get xs k ≡ Some x → slice_get ids k ≡ Some id → content_of lists id ≡ Some x.paths
zip_at lists [] ids h k x id a b = absurd (none_some x a)
zip_at lists (y ∷ ys) [] h k x id a b = absurd (none_some id b)
zip_at lists (y ∷ ys) (i ∷ is) h zero x id a b = ap (content_of lists) (sym (some_is i id b)) ∙ h.0 ∙ ap (λ z. Some z.paths) (some_is y x a)
zip_at lists (y ∷ ys) (i ∷ is) h (suc k) x id a b = zip_at lists ys is h.1 k x id a b

pub zip_length : (lists : List PathKept) (xs : List Pair) (ids : List ℕ) → AllZip (λ x id. content_of lists id ≡ Some x.paths) xs ids → length ids ≡ length xs
zip_length lists [] [] h = refl
zip_length lists [] (i ∷ is) h = absurd h
zip_length lists (y ∷ ys) [] h = absurd h
zip_length lists (y ∷ ys) (i ∷ is) h = ap suc (zip_length lists ys is h.1)

pub rank_low : (s : FibSource) → source_rank s < 7
rank_low s = by s
  where
    by : (s : FibSource) → source_rank s < 7
    by sources.Special = omega arith
    by sources.Interface = omega arith
    by sources.Api = omega arith
    by sources.Cli = omega arith
    by sources.Adjacency = omega arith
    by sources.RecursiveResolution = omega arith
    by sources.DefaultRoute = omega arith

-- picked from all sources they are the prefix's pairs
pub picked_all : (S : Tables) (lists : List PathKept) (e : Prefix) (ids : List ℕ) (held : List (FibSource × ℕ)) → IsSound S → AreTaken lists (pairs S) ids → ArePicked e (pairs S) ids 7 held → ArePairs lists S e held
picked_all S lists e ids held sound taken h = record {
  best_first = h.best_first;
  found = λ x c own. (let f = h.found x c own (rank_low x.source) in
      let r = h.real f.0 f.1 in
      let same = one_list S sound r.1 x (contains_at (pairs S) r.0 r.1 r.2) c (sym r.4 ∙ own) (sym r.5 ∙ f.2) in
      (f.0, f.1, (f.2, zip_at lists (pairs S) ids taken.each r.0 r.1 f.0.1 r.2 r.3 ∙ ap Some same)));
  real = λ p c. (let r = h.real p c in (r.1, contains_at (pairs S) r.0 r.1 r.2, r.4, (r.5, zip_at lists (pairs S) ids taken.each r.0 r.1 p.1 r.2 r.3)));
}
