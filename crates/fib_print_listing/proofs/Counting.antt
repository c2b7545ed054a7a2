-- What a map of the kept lists tells of the listing.
use Rattle.std.proofs.Common.{arith, ◌≡◌, ℕ, ◌<◌, ◌==◌, cond, Bool, true, List, [], ◌∷◌, map, length, Option, Some, None, inl, inr, refl, sym, ◌∙◌, ap, subst, ◌↔◌, slice_get}
use Rattle.std.specs.Prelude.{Contains, count_by, filter, flat_map, option_map}
use Rattle.std.specs.Borrow.{Bor}
use Rattle.std.specs.Map.{lookup}
use Rattle.std.specs.Ordering.{is_eq}
use Rattle.std.specs.Cmp.Lexicographic.{slice_cmp}
use Rattle.std.specs.Set.{unique_keys}
use Rattle.std.proofs.lemmas.Bool.Decides.{nat_tests}
use Rattle.std.proofs.lemmas.List.Sums.{length-filter}
use Rattle.std.proofs.lemmas.Map.Views.{Contains-from_any}
use Rattle.fib_base_list.proofs.Lists.{either}
use Rattle.fib_addr.proofs.PrefixLaws.{same_prefix-Decides}
use Rattle.fib_base_interned.specs.Interned.{kept_of, AreInterned}
use Rattle.fib_base_interned.proofs.Finding.{contains_at, find_place, find_only, some_is}
use Rattle.fib_resolve.specs.Pairs.{pairs, entries}
use Rattle.fib_resolve.specs.declared.pairs.Pair.{Pair}
use Rattle.fib_resolve.specs.declared.types.Path.{Path}
use Rattle.fib_resolve.specs.declared.types.Tables.{Tables}
use Rattle.fib_resolve.specs.contracts.types.PathOrd.TheImpl as paths
use Rattle.fib_resolve.proofs.Covering.{unique_in, distinct_keys}
use Rattle.fib_resolve_changes.proofs.SamePairs.{map_in, map_from}
use Rattle.fib_resolve_changes.proofs.Targets.{pair_entry}
use Rattle.fib_entries_rows.specs.Known.{Known, PathKept, StandsFor, prefix_of, content_of}
use Rattle.fib_print_listing.specs.Order.{list_before}
use Rattle.fib_print_listing.specs.PathLists.{same_list, list_of, path_lists, users, list_text, lists_text}
use Rattle.fib_print_listing.specs.inner.Added.{under, Adds}
use Rattle.fib_print_listing.specs.inner.Lists.{Counted, AreCounts, AreListed, counted, entry_line, line_text, paths_in}
use Rattle.fib_print_listing.proofs.Adding.{adds_one, told}
use Rattle.fib_print_listing.proofs.Orders.{list_off, list_trans, list_apart, same_list_equiv}
use Rattle.fib_print_listing.proofs.Paths.{list_is, list_same}
use Rattle.fib_print_listing.proofs.Sorting.{behind, listed}

-- what stands at a place is kept under its number
pub kept_at : (lists : List PathKept) (place : ℕ) (k : PathKept) → AreInterned lists → slice_get lists place ≡ Some k → kept_of lists k.id ≡ Some k
kept_at lists place k interned at =
    find_only (λ j. j.id == k.id) lists place k at (same k.id) (λ i l is passes. interned.numbers_apart i place l k is at (alike l.id k.id passes))
  where
    same : (m : ℕ) → (m == m) ≡ true
    same m = grind (arith, nat_tests)

    alike : (m n : ℕ) → (m == n) ≡ true → m ≡ n
    alike m n h = grind (arith, nat_tests)

pub kept_with : (lists : List PathKept) (place id : ℕ) → AreInterned lists → Some id ≡ option_map (λ k. k.id) (slice_get lists place) → (k : PathKept) × (slice_get lists place ≡ Some k) × (kept_of lists id ≡ Some k)
kept_with lists place id interned h = by (slice_get lists place) refl h
  where
    by : (o : Option PathKept) → slice_get lists place ≡ o → Some id ≡ option_map (λ k. k.id) o → (k : PathKept) × (slice_get lists place ≡ Some k) × (kept_of lists id ≡ Some k)
    by None e h = absurd (cc)
    by (Some k) e h = (k, e, ap (kept_of lists) (some_is id k.id h) ∙ kept_at lists place k interned e)

-- a list that was put in a map
abbrev at_key : List Path → Bor (List Path) → Bool
at_key ps k = is_eq (slice_cmp paths.cmp-value.it ps k.now)

got : (ps : List Path) (es : List Counted) → lookup (at_key ps) es ≡ under same_list paths_in ps es
got ps [] = refl
got ps (e ∷ es) = ap (λ b. cond b (Some e.1) (lookup (at_key ps) es)) (list_same ps e.0.now) ∙ ap (λ o. cond (same_list ps e.0.now) (Some e.1) o) (got ps es)

pub count_one : (k : Bor (List Path)) (n : ℕ) (old new : List Counted) → ((q : Bor (List Path)) → lookup (at_key q.now) new ≡ cond (at_key k.now q) (Some n) (lookup (at_key q.now) old)) → Adds same_list paths_in ((k.now, n) ∷ []) old new
count_one k n old new sets = adds_one same_list paths_in same_list_equiv.refl list_is k n old new (λ ps.
    let q : Bor (List Path) = record { ref_ptr = k.ref_ptr; now = ps } in
    sym (got ps new) ∙ sets q ∙ ap (λ b. cond b (Some n) (lookup (at_key ps) old)) (list_same k.now ps) ∙ ap (λ o. cond (same_list k.now ps) (Some n) o) (got ps old))

-- the content that a number stands for is kept
content_kept : (lists : List PathKept) (id : ℕ) (paths : List Path) → content_of lists id ≡ Some paths → (k : PathKept) × Contains lists k × (k.content ≡ paths)
content_kept lists id paths h = by (kept_of lists id) refl h
  where
    by : (o : Option PathKept) → kept_of lists id ≡ o → option_map (λ k. k.content) o ≡ Some paths → (k : PathKept) × Contains lists k × (k.content ≡ paths)
    by None e h = absurd (cc)
    by (Some k) e h = (let p = find_place (λ j. j.id == id) lists k e in (k, contains_at lists p.0 k p.1, (cc)))

a_pair : (ps : List Path) (xs : List Pair) → 0 < length (filter (λ x. same_list x.paths ps) xs) → Contains (map list_of xs) ps
a_pair ps [] pos = absurd (omega (arith, pos))
a_pair ps (x ∷ xs) pos =
    elim (either (same_list x.paths ps)) [
      | inl is ↦ (0, omega arith, list_is x.paths ps is)
      | inr isnt ↦ behind (list_of x) ps (map list_of xs) (a_pair ps xs (rw isnt at pos))
    ]

module _ (v : Known) (S : Tables) (h : StandsFor v S) (interned : AreInterned v.lists) (es : List Counted) (are : AreCounts v.lists es) (o : AreListed es) where
  valued : (ps : List Path) (n : ℕ) → Contains (map counted v.lists) (ps, n) → n ≡ users S ps
  unfolding users
  valued ps n c = let k = map_from counted v.lists (ps, n) c in subst (λ (r : List Path × ℕ). r.1 ≡ count_by (λ x. same_list x.paths r.0) (pairs S)) k.2 (h.users k.0 k.1)

  -- each pair's list is kept
  kept : (x : Pair) → Contains (pairs S) x → (k : PathKept) × Contains v.lists k × (k.content ≡ x.paths)
  kept x c =
      let entry = Contains-from_any (λ p q. (same_prefix-Decides p q).0) x.prefix (entries S) (pair_entry S x x.prefix c refl) in
      let r = map_from prefix_of v.rows x.prefix ((h.entries x.prefix).1 entry) in
      let p = (h.rows r.0 r.1).pairs.found x c r.2 in
      content_kept v.lists p.0.1 x.paths p.2.1

  -- and each kept list is some pair's
  had : (k : PathKept) → Contains v.lists k → Contains (map list_of (pairs S)) k.content
  had k c =
      let pos = subst (λ n. 0 < n) (h.users k c) (interned.used k c) in
      a_pair k.content (pairs S) (subst (λ n. 0 < n) (sym (length-filter (λ x. same_list x.paths k.content) (pairs S))) pos)

  members : (ps : List Path) → Contains (path_lists S) ps ↔ Contains (map (λ n. n.0) (map counted v.lists)) ps
  unfolding path_lists
  members ps =
      let all = map list_of (pairs S) in
      let l = (listed list_before same_list list_trans list_apart (unique_keys same_list all) (distinct_keys same_list same_list_equiv all)).members ps in
      let u = unique_in same_list same_list_equiv list_is all ps in (
        λ c. (let x = map_from list_of (pairs S) ps (u.1 (l.0 c)) in
            let k = kept x.0 x.1 in
            subst (Contains (map (λ n. n.0) (map counted v.lists))) (k.2 ∙ x.2) (map_in (λ n. n.0) (map counted v.lists) (counted k.0) (map_in counted v.lists k.0 k.1))),
        λ c. (let n = map_from (λ n. n.0) (map counted v.lists) ps c in
            let k = map_from counted v.lists n.0 n.1 in
            l.1 (u.0 (subst (Contains all) (ap (λ m. m.0) k.2 ∙ n.2) (had k.0 k.1)))),
      )

  pub lists_told : flat_map (entry_line S) es ≡ lists_text S
  unfolding lists_text list_text path_lists
  lists_told =
      let all = map list_of (pairs S) in
      told same_list paths_in same_list_equiv.refl list_is list_before list_off list_trans (map counted v.lists) es are o (users S) valued (λ ps n. line_text S n ps) (path_lists S)
      (listed list_before same_list list_trans list_apart (unique_keys same_list all) (distinct_keys same_list same_list_equiv all)).ordered members
