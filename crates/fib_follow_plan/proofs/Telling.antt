-- What is gathered tells all.
use Rattle.std.proofs.Common.{◌≡◌, ◌≢◌, ◌⊎◌, ◌<◌, ◌++◌, ◌==◌, ℕ, true, false, List, [], map, Some, None, inl, inr, refl, sym, ◌∙◌, ap, ap₂, subst}
use Rattle.std.specs.Prelude.{Contains, flat_map, option_to_list, if◌then◌else◌}
use Rattle.std.specs.List.{list_any}
use Rattle.std.specs.Set.{is_member}
use Rattle.std.proofs.lemmas.Bool.{false≢true}
use Rattle.std.proofs.lemmas.Bool.Decides.{Decides-eqb}
use Rattle.std.proofs.lemmas.List.Elements.{Contains-append_right}
use Rattle.fib_base_interned.proofs.Finding.{some_is}
use Rattle.fib_base_list.proofs.Lists.{either}
use Rattle.fib_addr.specs.Prefixes.{Prefix, IsPrefix, same_prefix}
use Rattle.fib_addr.proofs.PrefixLaws.{same_prefix-Decides}
use Rattle.fib_cover.specs.Covers.{ArePrefixes, IsAscending, is_inside}
use Rattle.fib_resolve_changes.proofs.Edits.{in_front}
use Rattle.fib_resolve_changes.proofs.SamePairs.{map_in}
use Rattle.fib_entries_rows.specs.Known.{PathKept, prefix_of, row_of}
use Rattle.fib_entries_rows.specs.Rows.{Row}
use Rattle.fib_entries_rows.proofs.PartRows.{row_by}
use Rattle.fib_follow_features.specs.FoundBy.{AreNoted, HasStayed, Listed, chosen_list, cover_among, features_of, held_list, host_under, is_by_cover}
use Rattle.fib_follow_features.specs.FoundBy.{path_features, row_features, under_of, written_features}
use Rattle.fib_follow_features.specs.Holders.{Holders, IsFound}
use Rattle.fib_follow_features.specs.declared.feature.Feature.TheVariants as features
use Rattle.fib_follow_view.specs.Views.{Seen, is_changed}
use Rattle.fib_follow_view.specs.declared.view.Anew.{Anew}
use Rattle.fib_follow_view.specs.inner.Told.{are_some}
use Rattle.fib_follow_part.specs.Parts.{Part}
use Rattle.fib_follow_told.specs.declared.body.Body.{Body}
use Rattle.fib_follow_told.specs.declared.edges.Edges.{Edges}
use Rattle.fib_follow_looked.proofs.Growth.{is_member_in, member_is}
use Rattle.fib_follow_write.specs.Plans.{IsPlan, IsWritten}
use Rattle.fib_follow_write.specs.declared.writing.Plan.{Plan}
use Rattle.fib_follow_plan.specs.Made.{plan_of}
use Rattle.fib_follow_plan.specs.Noted.{AreFull, AreTold, IsListed}
use Rattle.fib_follow_plan.specs.declared.covers.Covers.{Covers}
use Rattle.fib_follow_plan.specs.declared.entry.Renoted.{Renoted}
use Rattle.fib_follow_plan.specs.inner.Telling.{AreAnew, AreAsked, AreSo, IsGood, IsNearest, IsOrder}
use Rattle.fib_follow_plan.proofs.Merging.{comes, comes_inside, comes_new, comes_short, inside_was, nearest, short_was}
use Rattle.fib_follow_plan.proofs.Planned.{anew_in, anew_row, merged, other_row}

-- a cover tells of an entry, or it doesn't
under_cases : (e : Prefix) (ls : List Listed)
    → ((c : Prefix) → under_of e c ls ≡ None) ⊎ ((e.len ≡ 32) × ((c : Prefix) → under_of e c ls ≡ Some (features.Under c)))
under_cases e ls = elim (either (list_any (λ l. is_by_cover l.0) ls)) [
  | inr off ↦ inl (λ c. ap (λ b. if b then host_under e c else None) off)
  | inl on ↦ elim (either (e.len == 32)) [
    | inr short ↦ inl (λ c. ap (λ b. if b then host_under e c else None) on ∙ ap (λ b. if b then Some (features.Under c) else None) short)
    | inl host ↦ inr (
      (Decides-eqb e.len 32).0 host,
      λ c. ap (λ b. if b then host_under e c else None) on ∙ ap (λ b. if b then Some (features.Under c) else None) host,
    )
  ]
]

-- the cover tells nothing but that
same_under : (e c d : Prefix) (ls : List Listed) → under_of e c ls ≡ under_of e d ls → features_of e c ls ≡ features_of e d ls
same_under e c d ls same =
    ap (λ o. flat_map (path_features e) (chosen_list ls) ++ flat_map written_features ls ++ option_to_list o) same

under_in : (e c : Prefix) (ls : List Listed) → under_of e c ls ≡ Some (features.Under c) → Contains (features_of e c ls) (features.Under c)
under_in e c ls is =
    Contains-append_right (flat_map (path_features e) (chosen_list ls) ++ flat_map written_features ls) (option_to_list (under_of e c ls))
    (features.Under c)
    (subst (λ o. Contains (option_to_list o) (features.Under c)) (sym is) (in_front (features.Under c) (features.Under c) [] refl))

module _ (v : Seen) (covers : Covers) (sets : List Holders) (list : List Renoted) (ordered : IsAscending (map prefix_of v.before.rows))
    (one : ArePrefixes (map prefix_of v.before.rows)) (two : ArePrefixes covers.come) (come : AreSo true v.changed covers.come)
    (gone : AreSo false v.changed covers.gone) (good : (y : Renoted) → Contains list y → IsGood v covers y)
    (anew : AreAnew v.changed list) (asked : AreAsked v sets v.changed list)
    (noted : AreNoted v.before.lists (map prefix_of v.before.rows) v.before.rows sets) (p : Part) (ranks : List ℕ) (bodies : List Body)
    (x : Edges) (fits : IsPlan v.before.rows (plan_of v p ranks bodies x)) where
  abbrev rows : List Row
  rows = v.before.rows

  abbrev order : List Prefix
  order = map prefix_of rows

  abbrev lists : List PathKept
  lists = v.before.lists

  abbrev plan : Plan
  plan = plan_of v p ranks bodies x

  module _ (new : List Row) (later : List PathKept) (after : List Prefix) (w : IsWritten plan rows new lists later after) where
    joins : IsOrder v covers after
    joins = merged v p ranks bodies x fits new lists later after w covers come gone

    -- a row that wasn't made anew has the features of its row of before, under the cover of afterwards
    row_as : (r : Row) (c : Contains new r) (off : is_changed v.changed r.prefix ≡ false) → (b : Row) × Contains rows b × (b.prefix ≡ r.prefix)
        × (row_features later after r ≡ features_of b.prefix (cover_among after b.prefix) (map (held_list lists) b.pairs))
    row_as r c off =
        let o = other_row v p ranks bodies x fits new lists later after w r c off in (
          o.0,
          o.1,
          o.2,
          ap₂ (λ e l. features_of e (cover_among after e) l) (sym o.2) o.3,
        )

    full : AreFull later after new list
    full r y f c k own has = elim (good y k after joins) [
      | inl m ↦ subst (λ l. Contains l f)
          (anew_row v p ranks bodies x fits new lists later after w r c m.0 m.1 (m.2 ∙ own) ∙ sym m.3) has
      | inr m ↦ (
          let b = row_as r c (ap (is_changed v.changed) (sym own) ∙ m.0) in
          let same = some_is b.0 m.1 (sym (row_by rows ordered y.prefix b.0 b.1 (own ∙ sym b.2)) ∙ m.2) in
          subst (λ l. Contains l f)
          (b.3 ∙ (ap (λ (z : Row). features_of z.prefix (cover_among after z.prefix) (map (held_list lists) z.pairs)) same ∙ sym m.3)) has
          )
    ]

    -- one whose cover becomes another
    module _ (r b : Row) (c : Contains new r) (off : is_changed v.changed r.prefix ≡ false) (k : Contains rows b) (own : b.prefix ≡ r.prefix)
        (host : b.prefix.len ≡ 32) (found : IsFound sets (features.Under (cover_among order b.prefix)) b.prefix)
        (other : cover_among order b.prefix ≢ cover_among after b.prefix) where
      abbrev e : Prefix
      e = b.prefix

      fine : IsPrefix e
      fine = one e (map_in prefix_of rows b k)

      at : row_of rows e ≡ Some b
      at = row_by rows ordered e b k refl

      quiet : is_changed v.changed e ≡ false
      quiet = ap (is_changed v.changed) own ∙ off

      goes : (y : Anew) → Contains v.changed y → y.prefix ≡ cover_among order e → are_some y.pairs ≡ false → IsListed list e
      goes y d is none =
          asked y d (cover_among order e) e
          (subst (λ z. z.len < 32) (sym is) (short_was order covers after joins e one two fine host), inl (none, sym is)) found
          (subst (λ z. is_inside z e ≡ true) (sym is) (inside_was order covers after joins e one two fine host)) b quiet at

      listed : (Contains covers.gone (cover_among order e)) ⊎ (Contains covers.gone (cover_among order e) → ⊥) → IsListed list e
      listed (inl g) = (let m = (gone (cover_among order e)).0 g in goes m.0 m.1 m.2 m.3)
      listed (inr stays) =
          let q = cover_among after e in
          let m = (come q).0 (comes order covers after joins e one two fine host stays other) in
          asked m.0 m.1 (cover_among order e) e (
            subst (λ z. z.len < 32) (sym m.2) (comes_short order covers after joins e one two fine host stays other),
            inr (
              m.3,
              subst (λ z. Contains order z → ⊥) (sym m.2) (comes_new order covers after joins e one two fine host stays other),
              subst (λ z. IsNearest order z (cover_among order e)) (sym m.2)
                  (nearest order covers after joins e one two fine host stays other),
            ),
          ) found
          (subst (λ z. is_inside z e ≡ true) (sym m.2) (comes_inside order covers after joins e one two fine host stays other)) b quiet at

    decide_gone : (q : Prefix) → Contains covers.gone q ⊎ (Contains covers.gone q → ⊥)
    decide_gone q = elim (either (is_member same_prefix covers.gone q)) [
      | inl is ↦ inl (is_member_in covers.gone q is)
      | inr off ↦ inr (λ c. false≢true (sym off ∙ member_is covers.gone q c))
    ]

    rest : (r : Row) → Contains new r → IsListed list r.prefix ⊎ HasStayed lists later order after rows r
    rest r c = elim (either (is_changed v.changed r.prefix)) [
      | inl is ↦ (let y = anew_in v.changed r.prefix is in inl (subst (IsListed list) y.2 (anew y.0 y.1)))
      | inr off ↦ (
          let b = row_as r c off in
          let e = b.0.prefix in
          let ls = map (held_list lists) b.0.pairs in
          let stayed : under_of e (cover_among after e) ls ≡ under_of e (cover_among order e) ls → HasStayed lists later order after rows r
          = λ same. (b.0, b.1, b.2, b.3 ∙ same_under e (cover_among after e) (cover_among order e) ls same) in
          elim (under_cases e ls) [
            | inl none ↦ inr (stayed (none (cover_among after e) ∙ sym (none (cover_among order e))))
            | inr some ↦ elim (either (same_prefix (cover_among order e) (cover_among after e))) [
              | inl is ↦ inr (stayed (ap (λ z. under_of e z ls) (sym ((same_prefix-Decides (cover_among order e) (cover_among after e)).0 is))))
              | inr isnt ↦ inl (subst (IsListed list) b.2 (listed r b.0 c off b.1 b.2 some.0
                  (noted b.0 (features.Under (cover_among order e)) b.1 (under_in e (cover_among order e) ls (some.1 (cover_among order e))))
                  (λ is. false≢true (sym isnt ∙ (same_prefix-Decides (cover_among order e) (cover_among after e)).1 is))
                  (decide_gone (cover_among order e))))
            ]
          ]
          )
    ]

  pub are_told : AreTold rows lists order plan list
  are_told = record { full = λ new later after w. full new later after w; rest = λ new later after w. rest new later after w }
