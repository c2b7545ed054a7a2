-- The pairs of a row after: those of what was made anew, or those that it had.
use Rattle.std.proofs.Common.{arith, ◌≡◌, ℕ, ◌<◌, List, [], ◌∷◌, map, refl, sym, ◌∙◌, ap, ap₂, subst}
use Rattle.std.specs.Prelude.{Contains}
use Rattle.std.specs.List.{AllByRecursion, AllZip}
use Rattle.fib_addr.specs.Prefixes.{Prefix}
use Rattle.fib_reach.specs.Walks.{AllDiffer}
use Rattle.fib_resolve.specs.Keys.{source_rank}
use Rattle.fib_resolve.specs.declared.pairs.Pair.{Pair}
use Rattle.fib_resolve.specs.declared.types.FibSource.{FibSource}
use Rattle.fib_resolve.specs.declared.types.Tables.{Tables}
use Rattle.fib_resolve_changes.specs.Sources.{SamePairs}
use Rattle.fib_resolve_changes.proofs.SamePairs.{map_from, map_in}
use Rattle.fib_entries_rows.specs.Known.{AreBestFirst, ArePairs, PathKept, content_of, prefix_of}
use Rattle.fib_entries_rows.specs.Rows.{Row}
use Rattle.fib_entries_rows.specs.inner.Coming.{with_pairs}
use Rattle.fib_entries_rows.specs.inner.Used.{pairs_of}
use Rattle.fib_follow_view.specs.Views.{AreBetterFirst, IsMade}
use Rattle.fib_follow_view.specs.declared.view.Anew.{Anew}
use Rattle.fib_follow_write.specs.Plans.{renewed}
use Rattle.fib_follow_write.specs.Written.{IsNumbered, IsSourced, changed, led, paired_prefix, sourced}
use Rattle.fib_follow_write.specs.declared.plan.Listed.{Listed}
use Rattle.fib_follow_write.specs.declared.plan.Paired.{Paired}
use Rattle.fib_follow_write.specs.declared.plan.Sourced.{Sourced}
use Rattle.fib_follow_write.specs.declared.writing.Plan.{Plan}
use Rattle.fib_follow_plan.specs.Made.{listed_of}
use Rattle.fib_follow_write.proofs.Joining.{led_field}
use Rattle.fib_follow_plan.proofs.Stepped.{changed_off, changed_own, marked_keep, zip_back, zip_to}

less : (i j m n : ℕ) → i < j → m ≡ i → n ≡ j → m < n
less i j m n lt e f = omega (arith, lt, e, f)

module _ (T : Tables) (later : List PathKept) where
  best_numbered : (xs : List Pair) (qs : List (FibSource × ℕ)) → AllZip (IsNumbered later) (map listed_of xs) qs → AreBetterFirst xs → AreBestFirst qs
  best_numbered [] [] a b = tt
  best_numbered [] (q ∷ qs) a b = absurd a
  best_numbered (x ∷ xs) [] a b = absurd a
  best_numbered (x ∷ xs) (q ∷ qs) a b = (each xs qs a.1 b.0, best_numbered xs qs a.1 b.1)
    where
      each : (ys : List Pair) (ps : List (FibSource × ℕ)) → AllZip (IsNumbered later) (map listed_of ys) ps
          → AllByRecursion (λ y. source_rank x.source < source_rank y.source) ys → AllByRecursion (λ p. source_rank q.0 < source_rank p.0) ps
      each [] [] z l = tt
      each [] (p ∷ ps) z l = absurd z
      each (y ∷ ys) [] z l = absurd z
      each (y ∷ ys) (p ∷ ps) z l = (
        less (source_rank x.source) (source_rank y.source) (source_rank q.0) (source_rank p.0) l.0 (ap source_rank a.0.0) (ap source_rank z.0.0),
        each ys ps z.1 l.1,
      )

  -- the numbers of the pairs of what was made anew
  pub made_pairs : (y : Anew) (qs : List (FibSource × ℕ)) → IsMade T y → AllZip (IsNumbered later) (map listed_of y.pairs) qs
      → ArePairs later T y.prefix qs
  made_pairs y qs is a = record {
    best_first = best_numbered y.pairs qs a is.better_first;
    found = λ z c own. zip_to (IsNumbered later) (map listed_of y.pairs) qs a (listed_of z) (map_in listed_of y.pairs z ((is.pairs z).1 (c, own)));
    real = λ q c. (let l = zip_back (IsNumbered later) (map listed_of y.pairs) qs a q c in
        let z = map_from listed_of y.pairs l.0 l.1 in
        let own = (is.pairs z.0).0 z.1 in
        (z.0, own.0, own.1, subst (λ (b : Listed). IsNumbered later b q) (sym z.2) l.2));
  }

  -- pairs that stay, of lists that stay
  pub kept_pairs : (lists : List PathKept) (S : Tables) (e : Prefix) (qs : List (FibSource × ℕ)) → ArePairs lists S e qs → SamePairs S T e
      → ((q : FibSource × ℕ) → Contains qs q → content_of later q.1 ≡ content_of lists q.1) → ArePairs later T e qs
  kept_pairs lists S e qs a same on = record {
    best_first = a.best_first;
    found = λ z c own. (let f = a.found z ((same z own).1 c) own in (f.0, f.1, (f.2.0, on f.0 f.1 ∙ f.2.1)));
    real = λ q c. (let z = a.real q c in (z.0, (same z.0 z.2).0 z.1, z.2, (z.3.0, on q c ∙ z.3.1)));
  }

sourced_names : (later : List PathKept) (bs : List Paired) (ss : List Sourced) → AllZip (IsSourced later) bs ss
    → map (λ (s : Sourced). s.prefix) ss ≡ map paired_prefix bs
sourced_names later [] [] a = refl
sourced_names later [] (s ∷ ss) a = absurd a
sourced_names later (b ∷ bs) [] a = absurd a
sourced_names later (b ∷ bs) (s ∷ ss) a = ap₂ (λ p q. p ∷ q) a.0.0 (sourced_names later bs ss a.1)

module _ (plan : Plan) (entries : List Sourced) (later : List PathKept) (numbered : AllZip (IsSourced later) plan.paired entries) where
  pub led_name : (r : Row) → (changed led plan.edges_in r).prefix ≡ r.prefix
  led_name r = led_field prefix_of (λ e q. refl) plan.edges_in r

  renewed_pairs : (r : Row) → (renewed plan entries r).pairs ≡ (changed sourced entries (changed led plan.edges_in r)).pairs
  renewed_pairs r = marked_keep pairs_of (λ m q. refl) plan.marks (changed sourced entries (changed led plan.edges_in r))

  -- a row gets the numbers of its pairs
  pub row_paired : AllDiffer (map paired_prefix plan.paired) → (b : Paired) (r : Row) → Contains plan.paired b → b.prefix ≡ r.prefix
      → AllZip (IsNumbered later) b.pairs (renewed plan entries r).pairs
  row_paired once b r c own =
      let z = zip_to (IsSourced later) plan.paired entries numbered b c in
      let got : (changed sourced entries (changed led plan.edges_in r)).pairs ≡ z.0.pairs = changed_own (λ (s : Sourced). s.prefix)
      (λ (s : Sourced). with_pairs s.pairs) (λ s q. refl) pairs_of (λ (s : Sourced). s.pairs) (λ s q. refl) entries (changed led plan.edges_in r) z.0
      (subst AllDiffer (sym (sourced_names later plan.paired entries numbered)) once) z.1 (z.2.0 ∙ (own ∙ sym (led_name r))) in
      subst (AllZip (IsNumbered later) b.pairs) (sym (renewed_pairs r ∙ got)) z.2.1

  -- or keeps its own
  pub row_unpaired : (r : Row) → (Contains (map paired_prefix plan.paired) r.prefix → ⊥) → (renewed plan entries r).pairs ≡ r.pairs
  row_unpaired r off =
      renewed_pairs r
      ∙ (ap pairs_of (changed_off (λ (s : Sourced). s.prefix) (λ (s : Sourced). with_pairs s.pairs) (λ s q. refl) entries (changed led plan.edges_in r)
      (λ c. off (subst (λ l. Contains l r.prefix) (sourced_names later plan.paired entries numbered)
      (subst (Contains (map (λ (s : Sourced). s.prefix) entries)) (led_name r) c))))
      ∙ led_field pairs_of (λ e q. refl) plan.edges_in r)
