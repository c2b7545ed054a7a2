-- What the row of a prefix says of it.
use Rattle.std.proofs.Common.{arith, ◌≡◌, ℕ, zero, suc, ◌<◌, Bool, true, false, List, [], ◌∷◌, map, Option, Some, None, inl, inr, refl, sym, ◌∙◌, ap, subst, ◌↔◌, slice_get}
use Rattle.std.specs.Prelude.{Contains, find}
use Rattle.std.specs.List.{AllByRecursion}
use Rattle.std.proofs.lemmas.Bool.{false≢true}
use Rattle.std.proofs.lemmas.Map.Views.{Contains-from_any}
use Rattle.fib_base_list.proofs.Lists.{either, Contains-nil}
use Rattle.fib_addr.specs.Prefixes.{Prefix, same_prefix}
use Rattle.fib_addr.proofs.PrefixLaws.{same_prefix-Decides}
use Rattle.fib_resolve.specs.Keys.{source_rank}
use Rattle.fib_resolve.specs.Pairs.{pairs, entries, chosen, best_pair, paths_of}
use Rattle.fib_resolve.specs.Loops.{targets, looped_kind, looped_one, looped_at}
use Rattle.fib_resolve.specs.Aims.{marked, marked_list}
use Rattle.fib_resolve.specs.Tables.{IsSound}
use Rattle.fib_resolve.specs.declared.pairs.Pair.{Pair}
use Rattle.fib_resolve.specs.declared.types.Path.{Path}
use Rattle.fib_resolve.specs.declared.types.FibSource.{FibSource}
use Rattle.fib_resolve.specs.declared.types.Tables.{Tables}
use Rattle.fib_resolve.proofs.Entries.{is_entry, chosen-no_entry}
use Rattle.fib_resolve.proofs.OneList.{one_list, source_by_rank}
use Rattle.fib_resolve.proofs.Touching.{best_of, BestOf, IsBest}
use Rattle.fib_resolve_changes.specs.Ranks.{has_entry}
use Rattle.fib_resolve_changes.proofs.CauseLaws.{any_from}
use Rattle.fib_resolve_changes.proofs.Edits.{any_in, in_cases}
use Rattle.fib_resolve_changes.proofs.Targets.{pair_entry, target_entry}
use Rattle.fib_resolve_changes.proofs.SamePairs.{map_in, map_from, flat_map_from}
use Rattle.fib_base_interned.proofs.Finding.{find_place, contains_at, none_some}
use Rattle.fib_entries_rows.specs.Rows.{Row}
use Rattle.fib_entries_rows.specs.Known.{Known, content_of, prefix_of, row_of, AreBestFirst, ArePairs, StandsFor, chosen_of}

some_is : {X : Type 0} (x y : X) → Some x ≡ Some y → x ≡ y
some_is x y e = (cc)

pub row_there : (rows : List Row) (e : Prefix) (r : Row) → row_of rows e ≡ Some r → Contains rows r × (e ≡ r.prefix)
row_there rows e r h = let f = find_place (λ z. same_prefix e z.prefix) rows r h in (contains_at rows f.0 r f.1, (same_prefix-Decides e r.prefix).0 f.2)

pub find_missed : (test : Row → Bool) (rows : List Row) (r : Row) → Contains rows r → test r ≡ true → find test rows ≡ None → ⊥
find_missed test [] r c t h = Contains-nil r c
find_missed test (q ∷ qs) r c t h =
    elim (either (test q)) [
      | inl is ↦ none_some q (sym (rw is at h))
      | inr isnt ↦ elim (in_cases q r qs c) [
        | inl same ↦ false≢true (sym isnt ∙ ap test same ∙ t)
        | inr later ↦ find_missed test qs r later t (rw isnt at h)
      ]
    ]

abbrev pub mark_or : Option Bool → Bool
mark_or None = false
mark_or (Some b) = b

module _ (v : Known) (S : Tables) (h : StandsFor v S) where
  entry_in : (e : Prefix) → has_entry S e ≡ true → Contains (entries S) e
  entry_in e is = Contains-from_any (λ x y. (same_prefix-Decides x y).0) e (entries S) is

  in_entry : (e : Prefix) → Contains (entries S) e → has_entry S e ≡ true
  in_entry e c = any_in (same_prefix e) (entries S) e c ((same_prefix-Decides e e).1 refl)

  pub row_entry : (e : Prefix) (r : Row) → row_of v.rows e ≡ Some r → has_entry S e ≡ true
  row_entry e r at =
      let t = row_there v.rows e r at in
      in_entry e ((h.entries e).0 (subst (Contains (map prefix_of v.rows)) (sym t.1) (map_in prefix_of v.rows r t.0)))

  pub no_entry : (e : Prefix) → row_of v.rows e ≡ None → has_entry S e ≡ false
  no_entry e none =
      elim (either (has_entry S e)) [
        | inr isnt ↦ isnt
        | inl is ↦ (let m = map_from prefix_of v.rows e ((h.entries e).1 (entry_in e is)) in
            absurd (find_missed (λ z. same_prefix e z.prefix) v.rows m.0 m.1 ((same_prefix-Decides e m.0.prefix).1 (sym m.2)) none))
      ]

  pub pairs_at : (e : Prefix) (r : Row) → row_of v.rows e ≡ Some r → ArePairs v.lists S e r.pairs
  pairs_at e r at = let t = row_there v.rows e r at in subst (λ z. ArePairs v.lists S z r.pairs) (sym t.1) (h.rows r t.0).pairs

  pub no_pairs : (e : Prefix) → row_of v.rows e ≡ None → ArePairs v.lists S e []
  no_pairs e none = record {
    best_first = tt;
    found = λ x c own. absurd (false≢true (sym (no_entry e none) ∙ pair_entry S x e c (sym own)));
    real = λ p c. absurd (Contains-nil p c);
  }

  -- an entry has a pair
  some_pair : (e : Prefix) → has_entry S e ≡ true → (x : Pair) × Contains (pairs S) x × (e ≡ x.prefix)
  some_pair e is = let r = any_from (λ x. same_prefix e x.prefix) (pairs S) (sym (is_entry S e) ∙ is) in (r.0, r.1, (same_prefix-Decides e r.0.prefix).0 r.2)

  pub never_none : (e : Prefix) (r : Row) → row_of v.rows e ≡ Some r → r.pairs ≡ [] → ⊥
  never_none e r at none =
      let x = some_pair e (row_entry e r at) in
      let f = (pairs_at e r at).found x.0 x.1 x.2 in
      Contains-nil f.0 (subst (λ l. Contains l f.0) none f.1)

  later_than : (p q : FibSource × ℕ) (ps : List (FibSource × ℕ)) → AreBestFirst (p ∷ ps) → Contains ps q → source_rank p.0 < source_rank q.0
  later_than p q ps all c = each_at (λ b. source_rank p.0 < source_rank b.0) ps all.0 q c
    where
      each_at : (P : FibSource × ℕ → Type 0) (qs : List (FibSource × ℕ)) → AllByRecursion P qs → (q : FibSource × ℕ) → Contains qs q → P q
      each_at P [] all q c = absurd (Contains-nil q c)
      each_at P (y ∷ ys) all q c = elim (in_cases y q ys c) [ inl same ↦ subst P same all.0 | inr later ↦ each_at P ys all.1 q later ]

  best_paths : (e : Prefix) (x : Pair) → IsSound S → IsBest e (pairs S) x → (o : Option Pair) → BestOf e (pairs S) o → x.paths ≡ paths_of o
  best_paths e x sound best None k = absurd (k x best.member best.own)
  best_paths e x sound best (Some y) k =
      let up = best.least y k.member k.own in
      let down = k.least x best.member best.own in
      one_list S sound x y best.member k.member (sym best.own ∙ k.own) (source_by_rank x.source y.source (omega (arith, up, down)))

  -- the first pair's list is the chosen one
  pub first_chosen : (e : Prefix) (p : FibSource × ℕ) (ps : List (FibSource × ℕ)) (paths : List Path) → IsSound S → ArePairs v.lists S e (p ∷ ps) → content_of v.lists p.1 ≡ Some paths → paths ≡ chosen S e
  unfolding chosen
  first_chosen e p ps paths sound are is =
      let x = are.real p (0, omega arith, refl) in
      let best : IsBest e (pairs S) x.0 = record {
        member = x.1;
        own = x.2;
        least = λ y c own. (let f = are.found y c own in elim (in_cases p f.0 ps f.1) [
          | inl same ↦ (let a = ap source_rank (sym x.3.0 ∙ ap (λ z. z.0) same ∙ f.2.0) in omega (arith, a))
          | inr later ↦ (let lt = later_than p f.0 ps are.best_first later in let a = ap source_rank x.3.0 in let b = ap source_rank f.2.0 in omega (arith, lt, a, b))
        ]);
      } in
      some_is paths x.0.paths (sym is ∙ x.3.1) ∙ best_paths e x.0 sound best (best_pair e (pairs S)) (best_of e (pairs S))

  pub is_chosen : (e : Prefix) (paths : List Path) → has_entry S e ≡ true → paths ≡ chosen S e → Some paths ≡ chosen_of S e
  is_chosen e paths there is = rw there (ap Some is)

  pub none_chosen : (e : Prefix) → has_entry S e ≡ false → None ≡ chosen_of S e
  none_chosen e isnt = rw isnt refl

  mark_at : (ps : List Path) (e : Prefix) (k : ℕ) (o : Option Bool) → slice_get (map (λ p. looped_kind S e p.kind) ps) k ≡ o → mark_or o ≡ looped_one S e (slice_get ps k)
  mark_at [] e k o h = sym (ap mark_or h)
  mark_at (p ∷ ps) e zero o h = sym (ap mark_or h)
  mark_at (p ∷ ps) e (suc k) o h = mark_at ps e k o h

  pub marked_as : (e : Prefix) (r : Row) (k : ℕ) (o : Option Bool) → row_of v.rows e ≡ Some r → slice_get r.looped k ≡ o → mark_or o ≡ looped_at S e k
  marked_as e r k o at is =
      let t = row_there v.rows e r at in
      subst (λ z. mark_or o ≡ looped_at S z k) (sym t.1) (mark_at (chosen S r.prefix) r.prefix k o (sym (ap (λ l. slice_get l k) (h.rows r t.0).looped) ∙ is))

  pub none_marked : (e : Prefix) (k : ℕ) → row_of v.rows e ≡ None → false ≡ looped_at S e k
  none_marked e k none = sym (ap (λ ps. looped_one S e (slice_get ps k)) (chosen-no_entry S e (no_entry e none)))

  pub leads_there : (e : Prefix) (r : Row) (d : Prefix) → row_of v.rows e ≡ Some r → Contains r.dependants d ↔ Contains (targets S d) e
  leads_there e r d at = let t = row_there v.rows e r at in subst (λ z. Contains r.dependants d ↔ Contains (targets S d) z) (sym t.1) ((h.rows r t.0).dependants d)

  pub none_leads : (e : Prefix) (d : Prefix) → row_of v.rows e ≡ None → Contains (targets S d) e → ⊥
  unfolding targets
  none_leads e d none c =
      let r = flat_map_from _ (chosen S d) e c in
      false≢true (sym (no_entry e none) ∙ target_entry S d e r.0 r.1 r.2)

  pub marked_at : (e : Prefix) (r : Row) → row_of v.rows e ≡ Some r → r.marked ≡ marked_list S e
  marked_at e r at = let t = row_there v.rows e r at in (h.rows r t.0).marked ∙ ap (marked_list S) (sym t.1)

  pub none_marked_list : (e : Prefix) → row_of v.rows e ≡ None → [] ≡ marked_list S e
  unfolding marked_list
  none_marked_list e none = sym (ap (map (marked S e)) (chosen-no_entry S e (no_entry e none)))
