-- Rows stand for the tables after a change that touches a part of the prefixes, to which nothing outside it leads.
use Rattle.std.proofs.Common.{arith, ◌≡◌, ◌≢◌, ℕ, Bool, ◌<◌, true, false, ◌&&◌, List, map, Option, Some, None, inl, inr, refl, sym, ◌∙◌, ap, subst, ◌↔◌}
use Rattle.std.specs.Prelude.{Contains}
use Rattle.std.specs.Set.{is_member}
use Rattle.std.proofs.lemmas.Bool.{false≢true}
use Rattle.std.proofs.lemmas.Map.Views.{Contains-from_any}
use Rattle.fib_base_list.proofs.Lists.{either}
use Rattle.fib_base_list.proofs.Booleans.{and_both}
use Rattle.fib_addr.specs.Prefixes.{Prefix, IsPrefix, same_prefix}
use Rattle.fib_addr.proofs.PrefixLaws.{same_prefix-Decides}
use Rattle.fib_cover.specs.Covers.{IsAscending}
use Rattle.fib_resolve.specs.Pairs.{pairs, entries, chosen}
use Rattle.fib_resolve.specs.Loops.{targets, kind_targets, looped_kind, is_kept, Kept}
use Rattle.fib_resolve.specs.Aims.{marked, marked_list}
use Rattle.fib_resolve.specs.Tables.{IsSound}
use Rattle.fib_resolve.specs.Touched.{is_touched}
use Rattle.fib_resolve.specs.declared.pairs.Pair.{Pair}
use Rattle.fib_resolve.specs.declared.types.FibSource.{FibSource}
use Rattle.fib_resolve.specs.declared.types.Path.{Path}
use Rattle.fib_resolve_changes.specs.Sources.{SamePairs}
use Rattle.fib_resolve.specs.declared.types.Tables.{Tables}
use Rattle.fib_resolve.proofs.KeptEdges.{kept_target}
use Rattle.fib_resolve_changes.specs.Ranks.{Falls, wakes}
use Rattle.fib_resolve_changes.proofs.CauseLaws.{any_from}
use Rattle.fib_resolve_changes.proofs.Edits.{any_in}
use Rattle.fib_resolve_changes.proofs.MarkLaws.{untouched_marked, untouched_stays, untouched_came}
use Rattle.fib_resolve_changes.proofs.SamePairs.{map_in, map_from}
use Rattle.fib_base_interned.proofs.Finding.{find_only, get_or_at}
use Rattle.fib_entries_rows.specs.Known.{Known, PathKept, content_of, prefix_of, row_of, rank_of, rank_in, ArePairs, IsRow, StandsFor, holders, kind_met}
use Rattle.fib_entries_rows.specs.inner.Waking.{aims_at}
use Rattle.std.specs.Cmp.Lexicographic.{pointwise}
use Rattle.fib_resolve.specs.Keys.{same_path}
use Rattle.fib_entries_rows.specs.inner.Part.{IsQuietEdit, IsPartEdit, IsButForPart, IsPartKept, IsPartMade}
use Rattle.fib_entries_rows.specs.Rows.{Row}
use Rattle.fib_entries_rows.proofs.Comparing.{looped_kept, met_kept}
use Rattle.fib_entries_rows.proofs.Counting.{counts_some}
use Rattle.fib_resolve_changes.proofs.SamePairs.{same_targets}
use Rattle.fib_entries_rows.proofs.Looking.{one_place}
use Rattle.fib_entries_rows.proofs.Standing.{row_there, find_missed}
use Rattle.fib_entries_rows.proofs.Taking.{list_self}
use Rattle.fib_entries_rows.proofs.Woken.{by_marks}

-- a row is found by its prefix
pub row_is : (rows : List Row) → IsAscending (map prefix_of rows) → (r : Row) → Contains rows r → row_of rows r.prefix ≡ Some r
row_is rows asc r c =
    let at = get_or_at rows c.0 r c.1 c.2 in
    find_only (λ z. same_prefix r.prefix z.prefix) rows c.0 r at ((same_prefix-Decides r.prefix r.prefix).1 refl)
    (λ j q there same. one_place prefix_of rows asc j c.0 q r there at (sym ((same_prefix-Decides r.prefix q.prefix).0 same)))

pub row_by : (rows : List Row) → IsAscending (map prefix_of rows) → (e : Prefix) (r : Row) → Contains rows r → e ≡ r.prefix → row_of rows e ≡ Some r
row_by rows asc e r c is = ap (row_of rows) is ∙ row_is rows asc r c

pub no_row : (rows : List Row) (e : Prefix) → (Contains (map prefix_of rows) e → ⊥) → row_of rows e ≡ None
no_row rows e off = by (row_of rows e) refl
  where
    by : (o : Option Row) → row_of rows e ≡ o → row_of rows e ≡ None
    by None is = is
    by (Some r) is = (let t = row_there rows e r is in absurd (off (subst (Contains (map prefix_of rows)) (sym t.1) (map_in prefix_of rows r t.0))))

pub listed_row : (rows : List Row) (e : Prefix) → row_of rows e ≡ None → Contains (map prefix_of rows) e → ⊥
listed_row rows e none c = (let m = map_from prefix_of rows e c in find_missed (λ z. same_prefix e z.prefix) rows m.0 m.1 ((same_prefix-Decides e m.0.prefix).1 (sym m.2)) none)

-- edges that are left, by their test
pub wakes_kept : (U : Tables) (e t : Prefix) → wakes U e t ≡ true → Kept U e t
wakes_kept U e t is =
    let r = any_from (λ q. is_kept U e q.kind && is_member same_prefix (kind_targets U e q.kind) t) (chosen U e) is in
    let both = and_both (is_kept U e r.0.kind) (is_member same_prefix (kind_targets U e r.0.kind) t) r.2 in
    (r.0, r.1, both.0, Contains-from_any (λ x y. (same_prefix-Decides x y).0) t (kind_targets U e r.0.kind) both.1)

pub kept_wakes : (U : Tables) (e t : Prefix) → Kept U e t → wakes U e t ≡ true
kept_wakes U e t k = any_in (λ q. is_kept U e q.kind && is_member same_prefix (kind_targets U e q.kind) t) (chosen U e) k.0 k.1
    (rw (k.2) (any_in (same_prefix t) (kind_targets U e k.0.kind) t k.3 ((same_prefix-Decides t t).1 refl)))

pub wakes_same : (S T : Tables) (e t : Prefix) → IsSound T → is_touched S T e ≡ false → wakes S e t ≡ wakes T e t
unfolding marked_list
wakes_same S T e t sound u =
    sym (by_marks S e t (chosen S e)) ∙ (ap (λ l. aims_at t l (map (λ q. looped_kind S e q.kind) (chosen S e))) (untouched_marked S T e sound u)
    ∙ (ap (aims_at t (map (marked T e) (chosen T e))) (looped_kept S T e sound u) ∙ by_marks T e t (chosen T e)))

-- pairs that are the same keep their numbers where their lists stay
pub pairs_kept : (lists later : List PathKept) (S T : Tables) (e : Prefix) (held : List (FibSource × ℕ)) → SamePairs S T e → ((id : ℕ) (paths : List Path) → 0 < holders T paths → content_of lists id ≡ Some paths → content_of later id ≡ Some paths) → ArePairs lists S e held → ArePairs later T e held
pairs_kept lists later S T e held same stays are = record {
  best_first = are.best_first;
  found = λ x c own. (let f = are.found x ((same x own).1 c) own in (f.0, f.1, (f.2.0, stays f.0.1 x.paths (used x c) f.2.1)));
  real = λ q c. (let r = are.real q c in let there = (same r.0 r.2).0 r.1 in (r.0, there, r.2, (r.3.0, stays q.1 r.0.paths (used r.0 there) r.3.1)));
}
  where
    used : (x : Pair) → Contains (pairs T) x → 0 < holders T x.paths
    used x c = counts_some (λ z. pointwise same_path z.paths x.paths) (pairs T) x c (list_self x.paths)

module _ (S T : Tables) (part : Prefix → Bool) (h : IsQuietEdit S T part) where
  pub entry_beside : (e : Prefix) → part e ≡ false → Contains (entries S) e ↔ Contains (entries T) e
  entry_beside e off =
      let u = h.quiet e off in (
        λ c. found T e (untouched_stays S T e u (any_in (same_prefix e) (entries S) e c ((same_prefix-Decides e e).1 refl))),
        λ c. found S e (untouched_came S T e u (any_in (same_prefix e) (entries T) e c ((same_prefix-Decides e e).1 refl))),
      )
    where
      found : (U : Tables) (e : Prefix) → is_member same_prefix (entries U) e ≡ true → Contains (entries U) e
      found U e is = Contains-from_any (λ x y. (same_prefix-Decides x y).0) e (entries U) is

module _ (v w : Known) (S T : Tables) (part : Prefix → Bool) (h : IsQuietEdit S T part) (k : StandsFor v S) (m : IsPartKept v w T part) where
  pub entries_are : (e : Prefix) → Contains (map prefix_of w.rows) e ↔ Contains (entries T) e
  entries_are e = elim (either (part e)) [
    | inl is ↦ m.there e is
    | inr off ↦ (
      λ c. (entry_beside S T part h e off).0 ((k.entries e).0 ((m.same e off).1 c)),
      λ c. (m.same e off).0 ((k.entries e).1 ((entry_beside S T part h e off).1 c)),
    )
  ]

  -- a pair of another prefix keeps its number
  pairs_stay : (e : Prefix) (held : List (FibSource × ℕ)) → part e ≡ false → ArePairs v.lists S e held → ArePairs w.lists T e held
  pairs_stay e held off are = pairs_kept v.lists w.lists S T e held (h.entry e off).pairs m.stays are

  row_stays : (r s : Row) → part s.prefix ≡ false → IsButForPart part r s → ((d : Prefix) → part d ≡ true → Contains s.dependants d ↔ Contains (targets T d) s.prefix) → IsRow v.lists S r → IsRow w.lists T s
  row_stays r s off but leads is =
      let old : part r.prefix ≡ false = ap part (sym but.prefix) ∙ off in
      let u = h.quiet r.prefix old in
      record {
        prefix = subst IsPrefix (sym but.prefix) is.prefix;
        pairs = subst (λ z. ArePairs w.lists T z s.pairs) (sym but.prefix) (subst (ArePairs w.lists T r.prefix) (sym but.pairs) (pairs_stay r.prefix r.pairs old is.pairs));
        looped = but.looped ∙ is.looped ∙ looped_kept S T r.prefix h.after u ∙ ap (λ z. map (λ q. looped_kind T z q.kind) (chosen T z)) (sym but.prefix);
        met = but.met ∙ is.met ∙ met_kept S T r.prefix h.after u ∙ ap (λ z. map (λ q. kind_met T q.need q.kind) (chosen T z)) (sym but.prefix);
        marked = but.marked ∙ is.marked ∙ untouched_marked S T r.prefix h.after u ∙ ap (marked_list T) (sym but.prefix);
        dependants = λ d. elim (either (part d)) [
          | inl inside ↦ leads d inside
          | inr away ↦ (let there = is.dependants d in
              let one = same_targets S T d h.after (h.entry d away) in (
                λ c. subst (Contains (targets T d)) (sym but.prefix) (subst (λ l. Contains l r.prefix) one (there.0 ((but.others d away).0 c))),
                λ c. (but.others d away).1 (there.1 (subst (λ l. Contains l r.prefix) (sym one) (subst (Contains (targets T d)) but.prefix c))),
              ))
        ];
        dependants_once = but.once is.dependants_once;
      }

  pub rows_are : (s : Row) → Contains w.rows s → IsRow w.lists T s
  rows_are s c = elim (either (part s.prefix)) [
    | inl is ↦ m.own s c is
    | inr off ↦ (let r = m.rows s c off in row_stays r.0 s off r.2 r.3 (k.rows r.0 r.1))
  ]

  pub rank_beside : (e : Prefix) → part e ≡ false → rank_of w.rows e ≡ rank_of v.rows e
  rank_beside e off = by (row_of w.rows e) refl
    where
      by : (o : Option Row) → row_of w.rows e ≡ o → rank_of w.rows e ≡ rank_of v.rows e
      by None is = ap rank_in is ∙ sym (ap rank_in (no_row v.rows e (λ c. listed_row w.rows e is ((m.same e off).0 c))))
      by (Some s) is = (let t = row_there w.rows e s is in
          let r = m.rows s t.0 (ap part (sym t.1) ∙ off) in
          ap rank_in is ∙ r.2.rank ∙ sym (ap rank_in (row_by v.rows k.ordered e r.0 r.1 (t.1 ∙ r.2.prefix))))

  -- what is touched is in the part, and so is what has another rank
  pub touched_inside : (e : Prefix) → is_touched S T e ≡ true → part e ≡ true
  touched_inside e is = elim (either (part e)) [ inl inside ↦ inside | inr off ↦ absurd (false≢true (sym (h.quiet e off) ∙ is)) ]

  pub moved_inside : (e : Prefix) → rank_of w.rows e ≢ rank_of v.rows e → part e ≡ true
  moved_inside e other = elim (either (part e)) [ inl inside ↦ inside | inr off ↦ absurd (other (rank_beside e off)) ]

module _ (v w : Known) (S T : Tables) (part : Prefix → Bool) (h : IsPartEdit S T part) (k : StandsFor v S) (m : IsPartMade v w T part) where
  falls_after : Falls T (rank_of w.rows)
  falls_after e t kept = elim (either (part e)) [
    | inl is ↦ m.rank e t is (kept_target T e t kept)
    | inr off ↦ (let low = rank_beside v w S T part h.beside k m.kept t (h.closed e t off (kept_target T e t kept)) in
        let lt = k.falls e t (wakes_kept S e t (wakes_same S T e t h.beside.after (h.beside.quiet e off) ∙ kept_wakes T e t kept)) in
        let high = rank_beside v w S T part h.beside k m.kept e off in
        omega (arith, lt, low, high))
  ]

  pub stands_part : StandsFor w T
  stands_part = record {
    sound = h.beside.after;
    ordered = m.kept.ordered;
    entries = entries_are v w S T part h.beside k m.kept;
    rows = rows_are v w S T part h.beside k m.kept;
    falls = falls_after;
    users = m.kept.counted.users;
    objects = m.kept.objects;
  }
