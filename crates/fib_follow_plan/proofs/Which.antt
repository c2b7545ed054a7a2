-- Which prefixes have rows: those that are entries of the tables after.
use Rattle.std.proofs.Common.{◌≡◌, ℕ, Bool, true, false, not, ◌&&◌, List, [], ◌∷◌, map, filter, Option, Some, None, inl, inr, refl, sym, ◌∙◌, ap, ap₂, subst}
use Rattle.std.specs.Prelude.{Contains}
use Rattle.std.proofs.lemmas.Bool.{false≢true}
use Rattle.fib_base_list.proofs.Booleans.{and_both}
use Rattle.fib_base_list.proofs.Lists.{either, Contains-nil}
use Rattle.fib_addr.specs.Prefixes.{Prefix, same_prefix}
use Rattle.fib_addr.proofs.PrefixLaws.{same_prefix-Decides}
use Rattle.fib_resolve.specs.Pairs.{entries, pairs}
use Rattle.fib_resolve.specs.declared.pairs.Pair.{Pair}
use Rattle.fib_resolve.specs.declared.types.Tables.{Tables}
use Rattle.fib_resolve.proofs.Covering.{filter_from, filter_in}
use Rattle.fib_resolve.proofs.Entries.{is_entry}
use Rattle.fib_resolve_changes.proofs.CauseLaws.{any_from}
use Rattle.fib_resolve_changes.proofs.Edits.{in_front}
use Rattle.fib_resolve_changes.proofs.SamePairs.{map_from, map_in}
use Rattle.fib_resolve_changes.proofs.Targets.{pair_entry}
use Rattle.fib_entries_rows.specs.Known.{prefix_of, row_of}
use Rattle.fib_entries_rows.specs.Rows.{Row}
use Rattle.fib_entries_rows.proofs.Standing.{no_entry, row_there}
use Rattle.fib_follow_view.specs.Views.{IsAfter, IsMade, Seen, anew_prefix, is_changed}
use Rattle.fib_follow_view.specs.declared.view.Anew.{Anew}
use Rattle.fib_follow_view.specs.inner.Told.{are_some, is_row}
use Rattle.fib_follow_view.proofs.After.{same_there}
use Rattle.fib_follow_part.specs.Parts.{Part}
use Rattle.fib_follow_part.proofs.Parting.{among, member_of}
use Rattle.fib_follow_told.specs.declared.body.Body.{Body}
use Rattle.fib_follow_told.specs.declared.edges.Edges.{Edges}
use Rattle.fib_follow_write.specs.Plans.{IsBase}
use Rattle.fib_follow_write.specs.Written.{blank, paired_prefix}
use Rattle.fib_follow_plan.specs.Made.{comes, goes, has_pairs, paired_of, plan_of}

unturned : (b : Bool) → not b ≡ true → b ≡ false
unturned true h = absurd (false≢true h)
unturned false h = refl

-- what was made anew has pairs exactly where it is an entry
pub with_entry : (T : Tables) (y : Anew) → IsMade T y → has_pairs y ≡ true → Contains (entries T) y.prefix
with_entry T y is some = by y.pairs refl
  where
    by : (zs : List Pair) → y.pairs ≡ zs → Contains (entries T) y.prefix
    by [] at = absurd (false≢true (sym (ap are_some at) ∙ some))
    by (z ∷ zs) at = (let own = (is.pairs z).0 (subst (λ l. Contains l z) (sym at) (in_front z z zs refl)) in
        among (entries T) y.prefix (pair_entry T z y.prefix own.0 (sym own.1)))

pub without_entry : (T : Tables) (y : Anew) → IsMade T y → has_pairs y ≡ false → Contains (entries T) y.prefix → ⊥
without_entry T y is none c = by y.pairs refl
  where
    by : (zs : List Pair) → y.pairs ≡ zs → ⊥
    by [] at = (let r = any_from (λ z. same_prefix y.prefix z.prefix) (pairs T) (sym (is_entry T y.prefix) ∙ member_of (entries T) y.prefix c) in
        Contains-nil r.0 (subst (λ l. Contains l r.0) at ((is.pairs r.0).1 (r.1, (same_prefix-Decides y.prefix r.0.prefix).0 r.2))))
    by (z ∷ zs) at = false≢true (sym none ∙ ap are_some at)

module _ (v : Seen) (S T : Tables) (h : IsAfter v S T) where
  pub made_at : (e : Prefix) → is_changed v.changed e ≡ true → (y : Anew) × Contains v.changed y × (y.prefix ≡ e)
  made_at e is = map_from anew_prefix v.changed e (among (map anew_prefix v.changed) e is)

  pub changed_in : (y : Anew) (e : Prefix) → Contains v.changed y → y.prefix ≡ e → is_changed v.changed e ≡ true
  changed_in y e c is = member_of (map anew_prefix v.changed) e (subst (Contains (map anew_prefix v.changed)) is (map_in anew_prefix v.changed y c))

  -- who goes, gets pairs, and comes
  gone_from : (e : Prefix) → Contains (map anew_prefix (filter goes v.changed)) e
      → (y : Anew) × Contains v.changed y × (y.prefix ≡ e) × (has_pairs y ≡ false)
  gone_from e c =
      let m = map_from anew_prefix (filter goes v.changed) e c in
      let f = filter_from goes v.changed m.0 m.1 in
      (m.0, f.0, m.2, unturned (has_pairs m.0) f.1)

  pub gone_in : (y : Anew) → Contains v.changed y → has_pairs y ≡ false → Contains (map anew_prefix (filter goes v.changed)) y.prefix
  gone_in y c none = map_in anew_prefix (filter goes v.changed) y (filter_in goes v.changed y c (ap not none))

  pub paired_from : (e : Prefix) → Contains (map paired_prefix (map paired_of (filter has_pairs v.changed))) e
      → (y : Anew) × Contains v.changed y × (y.prefix ≡ e) × (has_pairs y ≡ true)
  paired_from e c =
      let b = map_from paired_prefix (map paired_of (filter has_pairs v.changed)) e c in
      let y = map_from paired_of (filter has_pairs v.changed) b.0 b.1 in
      let f = filter_from has_pairs v.changed y.0 y.1 in
      (y.0, f.0, ap paired_prefix y.2 ∙ b.2, f.1)

  pub paired_in : (y : Anew) → Contains v.changed y → has_pairs y ≡ true
      → Contains (map paired_prefix (map paired_of (filter has_pairs v.changed))) y.prefix
  paired_in y c some = map_in paired_prefix (map paired_of (filter has_pairs v.changed)) (paired_of y)
      (map_in paired_of (filter has_pairs v.changed) y (filter_in has_pairs v.changed y c some))

  pub came_from : (e : Prefix) → Contains (map anew_prefix (filter (comes v.before.rows) v.changed)) e
      → (y : Anew) × Contains v.changed y × (y.prefix ≡ e) × (has_pairs y ≡ true)
  came_from e c =
      let m = map_from anew_prefix (filter (comes v.before.rows) v.changed) e c in
      let f = filter_from (comes v.before.rows) v.changed m.0 m.1 in
      (m.0, f.0, m.2, (and_both (has_pairs m.0) (not (is_row (row_of v.before.rows m.0.prefix))) f.1).0)

  came_in : (y : Anew) → Contains v.changed y → has_pairs y ≡ true → row_of v.before.rows y.prefix ≡ None
      → Contains (map anew_prefix (filter (comes v.before.rows) v.changed)) y.prefix
  came_in y c some none = map_in anew_prefix (filter (comes v.before.rows) v.changed) y
      (filter_in (comes v.before.rows) v.changed y c (ap₂ (λ a b. a && b) some (ap (λ o. not (is_row o)) none)))

  -- an entry of the tables after doesn't go
  pub entry_stays : (e : Prefix) → Contains (entries T) e → Contains (map anew_prefix (filter goes v.changed)) e → ⊥
  entry_stays e c g = (let y = gone_from e g in without_entry T y.0 (h.made y.0 y.1) y.3 (subst (Contains (entries T)) (sym y.2) c))

  -- beside what was made anew it was an entry exactly where it is one
  same_entries : (e : Prefix) → is_changed v.changed e ≡ false → Contains (entries S) e → Contains (entries T) e
  same_entries e off c = among (entries T) e (sym (same_there S T e (h.caught e off).pairs) ∙ member_of (entries S) e c)

  module _ (p : Part) (ranks : List ℕ) (bodies : List Body) (x : Edges) where
    -- who has a row and doesn't go is an entry
    pub base_entry : (r : Row) → IsBase v.before.rows (plan_of v p ranks bodies x) r
        → (Contains (map anew_prefix (filter goes v.changed)) r.prefix → ⊥) → Contains (entries T) r.prefix
    base_entry r base stays = elim base [
      | inl was ↦ elim (either (is_changed v.changed r.prefix)) [
        | inl is ↦ (let y = made_at r.prefix is in elim (either (has_pairs y.0)) [
          | inl some ↦ subst (Contains (entries T)) y.2 (with_entry T y.0 (h.made y.0 y.1) some)
          | inr none ↦ absurd (stays (subst (Contains (map anew_prefix (filter goes v.changed))) y.2 (gone_in y.0 y.1 none)))
        ])
        | inr off ↦ same_entries r.prefix off ((h.stands.entries r.prefix).0 (map_in prefix_of v.before.rows r was))
      ]
      | inr new ↦ (let y = came_from r.prefix new.0 in subst (Contains (entries T)) y.2 (with_entry T y.0 (h.made y.0 y.1) y.3))
    ]

    -- each entry has a row or comes
    pub entry_base : (e : Prefix) → Contains (entries T) e → (r : Row) × IsBase v.before.rows (plan_of v p ranks bodies x) r × (r.prefix ≡ e)
    entry_base e c = by (row_of v.before.rows e) refl
      where
        none_comes : row_of v.before.rows e ≡ None → Contains (map anew_prefix (filter (comes v.before.rows) v.changed)) e
        none_comes none = elim (either (is_changed v.changed e)) [
          | inl is ↦ (let y = made_at e is in elim (either (has_pairs y.0)) [
            | inl some ↦ subst (Contains (map anew_prefix (filter (comes v.before.rows) v.changed))) y.2
                (came_in y.0 y.1 some (ap (row_of v.before.rows) y.2 ∙ none))
            | inr gone ↦ absurd (without_entry T y.0 (h.made y.0 y.1) gone (subst (Contains (entries T)) (sym y.2) c))
          ])
          | inr off ↦ absurd (false≢true (sym (no_entry v.before S h.stands e none)
              ∙ (same_there S T e (h.caught e off).pairs ∙ member_of (entries T) e c)))
        ]

        by : (o : Option Row) → row_of v.before.rows e ≡ o → (r : Row) × IsBase v.before.rows (plan_of v p ranks bodies x) r × (r.prefix ≡ e)
        by None none = (blank e, inr (none_comes none, refl), refl)
        by (Some r) at = (let t = row_there v.before.rows e r at in (r, inl t.0, sym t.1))
