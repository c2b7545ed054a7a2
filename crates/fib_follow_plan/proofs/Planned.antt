-- The rows that a plan of entries made anew makes.
use Rattle.std.proofs.Common.{◌≡◌, ◌≢◌, true, false, not, ℕ, List, [], ◌∷◌, map, filter, Option, Some, None, inl, inr, refl, sym, ◌∙◌, ap, ap₂, subst}
use Rattle.std.specs.Prelude.{Contains, unwrap_or}
use Rattle.std.specs.List.{AllZip}
use Rattle.std.proofs.lemmas.Bool.{false≢true}
use Rattle.fib_base_list.proofs.Booleans.{and_both}
use Rattle.fib_base_list.proofs.Lists.{either}
use Rattle.fib_reach.specs.Walks.{AllDiffer}
use Rattle.fib_addr.specs.Prefixes.{Prefix}
use Rattle.fib_resolve.specs.declared.types.FibSource.{FibSource}
use Rattle.fib_resolve.proofs.Covering.{filter_in, filter_from}
use Rattle.fib_resolve_changes.proofs.Edits.{in_front, in_rest}
use Rattle.fib_resolve_changes.proofs.SamePairs.{map_in, map_from}
use Rattle.fib_entries_rows.specs.Known.{IsHeld, PathKept, content_of, prefix_of, row_of}
use Rattle.fib_entries_rows.specs.Rows.{Row}
use Rattle.fib_follow_features.specs.FoundBy.{cover_among, held_list, pair_features, row_features}
use Rattle.fib_follow_features.proofs.Gathered.{pairs_tell}
use Rattle.fib_follow_view.specs.Views.{Seen, anew_prefix, is_changed}
use Rattle.fib_follow_view.specs.declared.view.Anew.{Anew}
use Rattle.fib_follow_view.specs.inner.Told.{are_some, is_row}
use Rattle.fib_follow_looked.proofs.Growth.{is_member_in, member_is}
use Rattle.fib_follow_part.specs.Parts.{Part}
use Rattle.fib_follow_told.specs.declared.body.Body.{Body}
use Rattle.fib_follow_told.specs.declared.edges.Edges.{Edges}
use Rattle.fib_follow_write.specs.Plans.{IsBase, IsPlan, IsWritten}
use Rattle.fib_follow_write.specs.Written.{blank, paired_prefix}
use Rattle.fib_follow_write.specs.declared.plan.Sourced.{Sourced}
use Rattle.fib_follow_write.specs.declared.writing.Plan.{Plan}
use Rattle.fib_follow_plan.specs.Made.{comes, goes, has_pairs, paired_of, plan_of}
use Rattle.fib_follow_plan.specs.declared.covers.Covers.{Covers}
use Rattle.fib_follow_plan.specs.inner.Telling.{AreSo, IsOrder}
use Rattle.fib_follow_plan.proofs.Sourcing.{numbered_held, renewed_off, renewed_own, renewed_prefix, same_names, sourced_of}

-- the entries that were made anew, by their prefixes
pub anew_in : (changed : List Anew) (e : Prefix) → is_changed changed e ≡ true → (x : Anew) × Contains changed x × (x.prefix ≡ e)
anew_in changed e is = map_from anew_prefix changed e (is_member_in (map anew_prefix changed) e is)

pub changed_is : (changed : List Anew) (x : Anew) (e : Prefix) → Contains changed x → x.prefix ≡ e → is_changed changed e ≡ true
changed_is changed x e c is = member_is (map anew_prefix changed) e (subst (Contains (map anew_prefix changed)) is (map_in anew_prefix changed x c))

is_row_from : (o : Option Row) → is_row o ≡ true → (r : Row) × (o ≡ Some r)
is_row_from None h = absurd (false≢true h)
is_row_from (Some r) h = (r, refl)

-- the same lists under numbers that have the same contents
pub same_lists : (lists later : List PathKept) (qs : List (FibSource × ℕ))
    → ((q : FibSource × ℕ) → Contains qs q → content_of later q.1 ≡ content_of lists q.1) → map (held_list later) qs ≡ map (held_list lists) qs
same_lists lists later [] same = refl
same_lists lists later (q ∷ qs) same =
    ap₂ (λ l ls. l ∷ ls) (ap (λ o. (q.0, unwrap_or o [])) (same q (in_front q q qs refl)))
    (same_lists lists later qs (λ z c. same z (in_rest q z qs c)))

module _ (v : Seen) (p : Part) (ranks : List ℕ) (bodies : List Body) (x : Edges) (good : IsPlan v.before.rows (plan_of v p ranks bodies x)) where
  abbrev rows : List Row
  rows = v.before.rows

  abbrev plan : Plan
  plan = plan_of v p ranks bodies x

  came_made : (e : Prefix) → Contains plan.came e → (y : Anew) × Contains v.changed y × (y.prefix ≡ e) × (are_some y.pairs ≡ true)
  came_made e c =
      let m = map_from anew_prefix (filter (comes rows) v.changed) e c in
      let f = filter_from (comes rows) v.changed m.0 m.1 in
      (m.0, f.0, m.2, (and_both (are_some m.0.pairs) (not (is_row (row_of rows m.0.prefix))) f.1).0)

  paired_made : (e : Prefix) → Contains (map paired_prefix plan.paired) e
      → (y : Anew) × Contains v.changed y × (y.prefix ≡ e) × (are_some y.pairs ≡ true)
  paired_made e c =
      let m = map_from paired_prefix plan.paired e c in
      let n = map_from paired_of (filter has_pairs v.changed) m.0 m.1 in
      let f = filter_from has_pairs v.changed n.0 n.1 in
      (n.0, f.0, ap paired_prefix n.2 ∙ m.2, f.1)

  pub made_paired : (y : Anew) → Contains v.changed y → are_some y.pairs ≡ true → Contains plan.paired (paired_of y)
  made_paired y c has = map_in paired_of (filter has_pairs v.changed) y (filter_in has_pairs v.changed y c has)

  made_named : (y : Anew) → Contains v.changed y → are_some y.pairs ≡ true → Contains (map paired_prefix plan.paired) y.prefix
  made_named y c has = map_in paired_prefix plan.paired (paired_of y) (made_paired y c has)

  pub made_gone : (y : Anew) → Contains v.changed y → are_some y.pairs ≡ false → Contains plan.gone y.prefix
  made_gone y c none = map_in anew_prefix (filter goes v.changed) y (filter_in goes v.changed y c (ap not none))

  gone_made : (e : Prefix) → Contains plan.gone e → (y : Anew) × Contains v.changed y × (y.prefix ≡ e) × (are_some y.pairs ≡ false)
  gone_made e c =
      let m = map_from anew_prefix (filter goes v.changed) e c in
      let f = filter_from goes v.changed m.0 m.1 in
      (m.0, f.0, m.2, elim (either (are_some m.0.pairs)) [ inl is ↦ absurd (false≢true (sym (ap not is) ∙ f.1)) | inr off ↦ off ])

  module _ (new : List Row) (lists later : List PathKept) (after : List Prefix) (w : IsWritten plan rows new lists later after) where
    names : map (λ (t : Sourced). t.prefix) w.entries ≡ map paired_prefix plan.paired
    names = same_names later plan.paired w.entries w.numbered

    differ : AllDiffer (map (λ (t : Sourced). t.prefix) w.entries)
    differ = subst AllDiffer (sym names) good.paired_once

    off_entries : (r : Row) → (Contains (map paired_prefix plan.paired) r.prefix → ⊥) → (s : Sourced) → Contains w.entries s → s.prefix ≢ r.prefix
    off_entries r off s c is =
        off (subst (λ l. Contains l r.prefix) names (subst (Contains (map (λ (t : Sourced). t.prefix) w.entries)) is (map_in (λ t. t.prefix) w.entries s c)))

    -- a row that was made anew has the features of its pairs
    pub anew_row : (r : Row) → Contains new r → (y : Anew) → Contains v.changed y → y.prefix ≡ r.prefix
        → row_features later after r ≡ pair_features y.prefix (cover_among after y.prefix) y.pairs
    anew_row r c y d is =
        let from = w.rows r c in
        let has : are_some y.pairs ≡ true = elim (either (are_some y.pairs)) [
          | inl has ↦ has
          | inr none ↦ absurd (from.0 (subst (Contains plan.gone) is (made_gone y d none)))
        ] in
        let s = sourced_of later plan.paired w.entries w.numbered (paired_of y) (made_paired y d has) in
        let base = renewed_prefix plan w.entries from.1 in
        let own = s.2.0 ∙ (is ∙ (from.3.prefix ∙ base)) in
        let pairs = from.3.pairs ∙ renewed_own plan w.entries from.1 s.0 differ s.1 own in
        let held = subst (λ l. AllZip (IsHeld later) l y.pairs) (sym pairs) (numbered_held later y.pairs s.0.pairs s.2.1) in
        pairs_tell later after r (cover_among after y.prefix) y.pairs held (λ host. ap (cover_among after) is)
        ∙ ap (λ e. pair_features e (cover_among after y.prefix) y.pairs) (sym is)

    -- any other comes from a row of before, with the same pairs and lists
    pub other_row : (r : Row) → Contains new r → is_changed v.changed r.prefix ≡ false
        → (b : Row) × Contains rows b × (b.prefix ≡ r.prefix) × (map (held_list later) r.pairs ≡ map (held_list lists) b.pairs)
    other_row r c off =
        let from = w.rows r c in
        let at = from.3.prefix ∙ renewed_prefix plan w.entries from.1 in
        let unmade : (e : Prefix) (y : Anew) → Contains v.changed y → y.prefix ≡ e → e ≡ r.prefix → ⊥
        = λ e y k is own. false≢true (sym off ∙ changed_is v.changed y r.prefix k (is ∙ own)) in
        let unpaired : Contains (map paired_prefix plan.paired) from.1.prefix → ⊥
        = λ k. (let m = paired_made from.1.prefix k in unmade from.1.prefix m.0 m.1 m.2 (sym at)) in
        let there : Contains rows from.1 = elim from.2 [
          | inl there ↦ there
          | inr came ↦ (let m = came_made from.1.prefix came.0 in absurd (unmade from.1.prefix m.0 m.1 m.2 (sym at)))
        ] in
        let pairs = from.3.pairs ∙ renewed_off plan w.entries from.1 (off_entries from.1 unpaired) in (
          from.1,
          there,
          sym at,
          ap (map (held_list later)) pairs ∙ same_lists lists later from.1.pairs
              (λ q k. w.names from.1 q there k unpaired (λ g. from.0 (subst (Contains plan.gone) (sym at) g))),
        )

    -- the prefixes of the rows
    module _ (covers : Covers) (come : AreSo true v.changed covers.come) (gone : AreSo false v.changed covers.gone) where
      named : (e : Prefix) → Contains after e → (r : Row) × Contains new r × (r.prefix ≡ e)
      named e c = map_from prefix_of new e (subst (λ l. Contains l e) w.used.same c)

      found : (b : Row) → IsBase rows plan b → (Contains plan.gone b.prefix → ⊥) → Contains after b.prefix
      found b base stays =
          let s = w.found b base stays in
          subst (λ l. Contains l b.prefix) (sym w.used.same)
          (subst (Contains (map prefix_of new)) (s.2.prefix ∙ renewed_prefix plan w.entries b) (map_in prefix_of new s.0 s.1))

      found_old : (e : Prefix) → Contains (map prefix_of rows) e → (Contains plan.gone e → ⊥) → Contains after e
      found_old e c stays = (let m = map_from prefix_of rows e c in
          subst (Contains after) m.2 (found m.0 (inl m.1) (λ g. stays (subst (Contains plan.gone) m.2 g))))

      pub merged : IsOrder v covers after
      merged e = (
        λ c.
            let r = named e c in
            let from = w.rows r.0 r.1 in
            let at = sym (renewed_prefix plan w.entries from.1) ∙ (sym from.3.prefix ∙ r.2) in
            elim from.2 [
              | inl there ↦ inl (
                subst (Contains (map prefix_of rows)) at (map_in prefix_of rows from.1 there),
                λ g. (let m = (gone e).0 g in
                    from.0 (subst (Contains plan.gone) (m.2 ∙ sym r.2) (made_gone m.0 m.1 m.3))),
              )
              | inr came ↦ (let m = came_made from.1.prefix came.0 in inr ((come e).1 (m.0, m.1, m.2 ∙ at, m.3)))
            ],
        λ d. elim d [
          | inl old ↦ found_old e old.0 (λ g. old.1 ((gone e).1 (gone_made e g)))
          | inr k ↦ (let m = (come e).0 k in
              let at = subst (Contains (map paired_prefix plan.paired)) m.2 (made_named m.0 m.1 m.3) in
              elim (good.paired_there e at) [
                | inl there ↦ found_old e there (good.paired_stay e at)
                | inr came ↦ found (blank e) (inr (came, refl)) (good.paired_stay e at)
              ])
        ],
      )
