-- Lists of entries that grow.
use Rattle.std.proofs.Common.{◌≡◌, ◌⊎◌, ◌+◌, ◌&&◌, ℕ, Bool, true, false, not, List, [], ◌∷◌, ◌++◌, take, map, slice_get, Option, Some, None, inl, inr, refl, sym, ◌∙◌, ap, subst, ◌↔◌}
use Rattle.std.specs.Prelude.{Contains, get_or, unwrap_or}
use Rattle.std.proofs.lemmas.Bool.{false≢true}
use Rattle.std.proofs.lemmas.List.{take_more}
use Rattle.std.proofs.lemmas.List.Elements.{Contains-append_left, Contains-push, Contains-push_cases}
use Rattle.std.proofs.lemmas.Option.{slice_get_within, unwrap_or-slice_get}
use Rattle.fib_base_list.proofs.Booleans.{and_both}
use Rattle.fib_base_list.proofs.Lists.{either, Contains-nil}
use Rattle.fib_addr.specs.Prefixes.{Prefix, same_prefix}
use Rattle.fib_addr.proofs.PrefixLaws.{same_prefix-Decides}
use Rattle.fib_resolve_changes.proofs.CauseLaws.{any_from}
use Rattle.fib_resolve_changes.proofs.Edits.{any_in}
use Rattle.fib_follow_looked.specs.inner.Adding.{Adds, AddsEach}
use Rattle.fib_resolve_changes.proofs.SamePairs.{map_in}
use Rattle.fib_entries_rows.specs.Known.{prefix_of, row_of}
use Rattle.fib_entries_rows.specs.Rows.{Row}
use Rattle.fib_entries_rows.proofs.Standing.{row_there}
use Rattle.fib_follow_features.specs.FoundBy.{cover_among, features_of, held_list, row_features}
use Rattle.fib_follow_view.specs.Views.{Seen, is_changed}
use Rattle.fib_follow_view.specs.declared.view.Anew.{Anew}
use Rattle.fib_follow_view.specs.inner.Told.{are_some, is_row}
use Rattle.fib_follow_plan.specs.Noted.{IsListed, features_before}
use Rattle.fib_follow_plan.specs.declared.covers.Covers.{Covers}
use Rattle.fib_follow_plan.specs.declared.entry.Renoted.{Renoted}
use Rattle.fib_follow_plan.specs.inner.Telling.{AreSo, Grows, IsGood, IsOfBefore, IsOrder, has_so, is_so}

-- the first of a list, and one more
pub take_cases : {X : Type 0} (xs : List X) (k : ℕ) (x y : X) → slice_get xs k ≡ Some x → Contains (take (k + 1) xs) y → Contains (take k xs) y ⊎ (x ≡ y)
take_cases xs k x y here c =
    let is : get_or xs k x ≡ x = sym (unwrap_or-slice_get xs k x) ∙ ap (λ o. unwrap_or o x) here in
    Contains-push_cases (take k xs) x y
    (subst (λ l. Contains l y) (take_more xs k x (slice_get_within xs k x here) ∙ ap (λ z. take k xs ++ z ∷ []) is) c)

pub take_none : {X : Type 0} (xs : List X) (y : X) → Contains (take 0 xs) y → ⊥
take_none [] y c = Contains-nil y c
take_none (x ∷ xs) y c = Contains-nil y c

-- what holds of each of the first, and stays, and holds of one more
module _ {X : Type 0} (P : X → List Renoted → Type 0) (xs : List X) where
  pub each_none : (list : List Renoted) (y : X) → Contains (take 0 xs) y → P y list
  each_none list y c = absurd (take_none xs y c)

  pub each_more : (k : ℕ) (x : X) (old new : List Renoted) → slice_get xs k ≡ Some x → ((y : X) → Contains (take k xs) y → P y old)
      → ((y : X) → P y old → P y new) → P x new → (y : X) → Contains (take (k + 1) xs) y → P y new
  each_more k x old new here first stays one y c = elim (take_cases xs k x y here c) [
    | inl k ↦ stays y (first y k)
    | inr is ↦ subst (λ z. P z new) is one
  ]

module _ (v : Seen) (covers : Covers) where
  pub grows_none : (list : List Renoted) → Grows v covers list list
  grows_none list = record { more = λ y c. c; good = λ y c. inl c; was = λ y c. inl c }

  pub grows_more : (old mid new : List Renoted) → Grows v covers old mid → Grows v covers mid new → Grows v covers old new
  grows_more old mid new g h = record {
    more = λ y c. h.more y (g.more y c);
    good = λ y c. elim (h.good y c) [ inl k ↦ g.good y k | inr k ↦ inr k ];
    was = λ y c. elim (h.was y c) [ inl k ↦ g.was y k | inr k ↦ inr k ];
  }

  pub grows_one : (old new : List Renoted) (x : Renoted) → new ≡ old ++ x ∷ [] → IsGood v covers x → IsOfBefore v x → Grows v covers old new
  grows_one old new x is fine before = record {
    more = λ y c. subst (λ l. Contains l y) (sym is) (Contains-append_left old (x ∷ []) y c);
    good = λ y c. elim (Contains-push_cases old x y (subst (λ l. Contains l y) is c)) [
      | inl k ↦ inl k
      | inr own ↦ inr (subst (IsGood v covers) own fine)
    ];
    was = λ y c. elim (Contains-push_cases old x y (subst (λ l. Contains l y) is c)) [
      | inl k ↦ inl k
      | inr own ↦ inr (subst (IsOfBefore v) own before)
    ];
  }

  pub listed_stays : (old new : List Renoted) (e : Prefix) → Grows v covers old new → IsListed old e → IsListed new e
  listed_stays old new e g l = (l.0, g.more l.0 l.1, l.2)

pub listed_one : (old new : List Renoted) (x : Renoted) (e : Prefix) → new ≡ old ++ x ∷ [] → x.prefix ≡ e → IsListed new e
listed_one old new x e is own = (x, subst (λ l. Contains l x) (sym is) (Contains-push old x), own)

-- the sets of those made anew
so_is : (b : Bool) (x : Anew) → is_so b x ≡ true → are_some x.pairs ≡ b
so_is true x h = h
so_is false x h = elim (either (are_some x.pairs)) [ inl is ↦ absurd (false≢true (sym (ap not is) ∙ h)) | inr off ↦ off ]

is_so_so : (b : Bool) (x : Anew) → are_some x.pairs ≡ b → is_so b x ≡ true
is_so_so true x h = h
is_so_so false x h = ap not h

pub so_are : (b : Bool) (changed : List Anew) (set : List Prefix) → AddsEach (has_so b) changed [] set → AreSo b changed set
so_are b changed set adds q = (
  λ c. elim ((adds q).0 c) [
    | inl none ↦ absurd (Contains-nil q none)
    | inr any ↦ (let r = any_from (λ x. has_so b x q) changed any in
        let both = and_both (is_so b r.0) (same_prefix q r.0.prefix) r.2 in
        (r.0, r.1, sym ((same_prefix-Decides q r.0.prefix).0 both.1), so_is b r.0 both.0))
  ],
  λ r. (adds q).1 (inr (any_in (λ x. has_so b x q) changed r.0 r.1
      (ap (λ z. z && same_prefix q r.0.prefix) (is_so_so b r.0 r.3) ∙ (same_prefix-Decides q r.0.prefix).1 (sym r.2)))),
)

pub so_one : (b : Bool) (x : Anew) (old new : List Prefix) → is_so b x ≡ true → ((q : Prefix) → Contains new q ↔ Contains old q ⊎ (q ≡ x.prefix))
    → Adds (has_so b x) old new
so_one b x old new is adds q = (
  λ c. elim ((adds q).0 c) [
    | inl k ↦ inl k
    | inr own ↦ inr (ap (λ z. z && same_prefix q x.prefix) is ∙ (same_prefix-Decides q x.prefix).1 own)
  ],
  λ c. (adds q).1 (elim c [
    | inl k ↦ inl k
    | inr h ↦ inr ((same_prefix-Decides q x.prefix).0 (and_both (is_so b x) (same_prefix q x.prefix) h).1)
  ]),
)

pub so_none : (b : Bool) (x : Anew) (set : List Prefix) → is_so b x ≡ false → Adds (has_so b x) set set
so_none b x set off q = (
  λ c. inl c,
  λ c. elim c [
    | inl k ↦ k
    | inr h ↦ absurd (false≢true (sym off ∙ (and_both (is_so b x) (same_prefix q x.prefix) h).0))
  ],
)

-- a row's features come
pub row_grows : (v : Seen) (covers : Covers) (old new : List Renoted) (r : Row) (e : Prefix) → row_of v.before.rows e ≡ Some r
    → is_changed v.changed e ≡ false
    → (y : Renoted) × (new ≡ old ++ y ∷ []) × (y.prefix ≡ r.prefix)
    × (y.old.items ≡ row_features v.before.lists (map prefix_of v.before.rows) r)
    × ((after : List Prefix) → IsOrder v covers after
    → y.new.items ≡ features_of r.prefix (cover_among after r.prefix) (map (held_list v.before.lists) r.pairs))
    → Grows v covers old new × IsListed new e
row_grows v covers old new r e at off y =
    let own = y.2 ∙ sym (row_there v.before.rows e r at).1 in (
      grows_one v covers old new y.0 y.1
          (λ after h. inr (ap (is_changed v.changed) own ∙ off, r, ap (row_of v.before.rows) own ∙ at, y.4 after h))
          (y.3 ∙ ap (features_before v.before.lists (map prefix_of v.before.rows)) (sym (ap (row_of v.before.rows) own ∙ at))),
      listed_one old new y.0 e y.1 own,
    )

pub entry_there : (rows : List Row) (e : Prefix) → is_row (row_of rows e) ≡ true → Contains (map prefix_of rows) e
entry_there rows e = by (row_of rows e) refl
  where
    by : (o : Option Row) → row_of rows e ≡ o → is_row o ≡ true → Contains (map prefix_of rows) e
    by None at h = absurd (false≢true h)
    by (Some r) at h = (let t = row_there rows e r at in subst (Contains (map prefix_of rows)) (sym t.1) (map_in prefix_of rows r t.0))
