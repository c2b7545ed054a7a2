-- What the entries tell of the tables after a change.
use Rattle.std.proofs.Common.{arith, ◌≡◌, ℕ, ◌<◌, true, false, not, List, [], ◌∷◌, map, Option, Some, None, inl, inr, refl, sym, ◌∙◌, ap, subst}
use Rattle.std.specs.Prelude.{Contains}
use Rattle.std.proofs.lemmas.Bool.{false≢true}
use Rattle.std.proofs.lemmas.List.Elements.{All-contains, All-from_recursion}
use Rattle.fib_base_list.proofs.Lists.{either, Contains-nil}
use Rattle.fib_addr.specs.Prefixes.{Prefix, host, same_prefix}
use Rattle.fib_addr.proofs.PrefixLaws.{same_prefix-Decides}
use Rattle.fib_resolve.specs.Keys.{source_rank}
use Rattle.fib_resolve.specs.Forwarding.{is_met, is_attached_list}
use Rattle.fib_resolve.specs.Loops.{targets}
use Rattle.fib_resolve.specs.Tables.{IsSound}
use Rattle.fib_resolve.specs.Pairs.{pairs, chosen, cover, is_derived}
use Rattle.fib_resolve.specs.declared.pairs.Pair.{Pair}
use Rattle.fib_resolve.specs.declared.types.Need.{Need}
use Rattle.fib_resolve.specs.declared.types.Need.TheVariants as needs
use Rattle.fib_resolve.specs.declared.types.Path.{Path}
use Rattle.fib_resolve.specs.declared.types.PathKind.TheVariants as kinds
use Rattle.fib_resolve.specs.declared.types.Tables.{Tables}
use Rattle.fib_resolve.proofs.Entries.{is_entry, chosen-no_entry}
use Rattle.fib_resolve.proofs.PairLaws.{cover_at_host}
use Rattle.fib_resolve.proofs.Touching.{IsBest}
use Rattle.fib_resolve_changes.specs.Ranks.{has_entry}
use Rattle.fib_resolve_changes.specs.Sources.{SameEntry, SamePairs}
use Rattle.fib_resolve_changes.proofs.CauseLaws.{any_from}
use Rattle.fib_resolve_changes.proofs.Edits.{any_in, in_cases, in_front}
use Rattle.fib_resolve_changes.proofs.SamePairs.{map_in, same_chosen, same_derived}
use Rattle.fib_resolve_changes.proofs.Targets.{pair_entry}
use Rattle.fib_resolve_pairs.specs.Numbers.{goal_of}
use Rattle.fib_base_interned.proofs.Finding.{find_place, contains_at, none_some}
use Rattle.fib_follow_view.specs.Views.{AreBetterFirst, Seen, IsAfter, IsMade, anew_prefix, is_changed, made_of}
use Rattle.fib_follow_view.specs.declared.view.Anew.{Anew}
use Rattle.fib_follow_view.specs.inner.Told.{are_some, chosen_by, chosen_in, cover_by, derived_by, derived_in, derived_pairs, entry_by}
use Rattle.fib_follow_view.specs.inner.Told.{entry_in, first_paths, goals_by, goals_in, kind_goal, met_in, next_before, next_in}
use Rattle.fib_follow_view.proofs.Told.{best_derived, best_paths, goal_same, goals_are_targets, kind_is_goal, map_same, no_derived}
use Rattle.fib_follow_view.proofs.Told.{row_chosen, row_cover, row_derived, row_goals, row_is}

-- what was made anew of a prefix is there and has that prefix; where nothing was, the prefix isn't among those
pub made_there : (changed : List Anew) (e : Prefix) (x : Anew) → made_of changed e ≡ Some x → Contains changed x × (x.prefix ≡ e)
made_there changed e x at = let f = find_place (λ z. same_prefix e z.prefix) changed x at
    in (contains_at changed f.0 x f.1, sym ((same_prefix-Decides e x.prefix).0 f.2))

find_front : (changed : List Anew) (e : Prefix) (x : Anew) → same_prefix e x.prefix ≡ true → made_of (x ∷ changed) e ≡ Some x
find_front changed e x is = rw is refl

find_rest : (changed : List Anew) (e : Prefix) (x : Anew) → same_prefix e x.prefix ≡ false → made_of (x ∷ changed) e ≡ made_of changed e
find_rest changed e x off = rw off refl

pub none_made : (changed : List Anew) (e : Prefix) → made_of changed e ≡ None → is_changed changed e ≡ false
none_made [] e none = refl
none_made (x ∷ xs) e none = elim (either (same_prefix e x.prefix)) [
  | inl is ↦ absurd (none_some x (sym none ∙ find_front xs e x is))
  | inr off ↦ rw off (none_made xs e (sym (find_rest xs e x off) ∙ none))
]

pub some_made : (changed : List Anew) (e : Prefix) (x : Anew) → made_of changed e ≡ Some x → is_changed changed e ≡ true
some_made changed e x at =
    let t = made_there changed e x at in
    any_in (same_prefix e) (map anew_prefix changed) e (subst (Contains (map anew_prefix changed)) t.1 (map_in anew_prefix changed x t.0))
    ((same_prefix-Decides e e).1 refl)

-- the first of the pairs of a prefix is the best
made_best : (T : Tables) (x : Anew) (y : Pair) (ys : List Pair) → IsMade T x → x.pairs ≡ y ∷ ys → IsBest x.prefix (pairs T) y
made_best T x y ys is at =
    let own = (is.pairs y).0 (subst (λ l. Contains l y) (sym at) (in_front y y ys refl)) in
    let ranked = subst (λ l. AreBetterFirst l) at is.better_first in
    record {
      member = own.0;
      own = own.1;
      least = λ z c same. elim (in_cases y z ys (subst (λ l. Contains l z) at ((is.pairs z).1 (c, same)))) [
        | inl here ↦ (let a = ap (λ (w : Pair). source_rank w.source) here in omega (arith, a))
        | inr later ↦ (let lt = All-contains (λ w. source_rank y.source < source_rank w.source) ys z
            (All-from_recursion (λ w. source_rank y.source < source_rank w.source) ys ranked.0) later in omega (arith, lt))
      ];
    }

-- a prefix without pairs is no entry
made_gone : (T : Tables) (x : Anew) → IsMade T x → x.pairs ≡ [] → (y : Pair) → Contains (pairs T) y → x.prefix ≡ y.prefix → ⊥
made_gone T x is none y c own = Contains-nil y (subst (λ l. Contains l y) none ((is.pairs y).1 (c, own)))

no_pair_entry : (T : Tables) (e : Prefix) → ((y : Pair) → Contains (pairs T) y → e ≡ y.prefix → ⊥) → has_entry T e ≡ false
no_pair_entry T e none = elim (either (has_entry T e)) [
  | inr off ↦ off
  | inl is ↦ (let r = any_from (λ y. same_prefix e y.prefix) (pairs T) (sym (is_entry T e) ∙ is)
      in absurd (none r.0 r.1 ((same_prefix-Decides e r.0.prefix).0 r.2)))
]

-- with the same pairs a prefix stays an entry or stays none
carries : (S T : Tables) (e : Prefix) → SamePairs S T e → has_entry S e ≡ true → has_entry T e ≡ true
carries S T e same is =
    let r = any_from (λ y. same_prefix e y.prefix) (pairs S) (sym (is_entry S e) ∙ is) in
    let own = (same_prefix-Decides e r.0.prefix).0 r.2 in
    pair_entry T r.0 e ((same r.0 own).0 r.1) (sym own)

pub same_there : (S T : Tables) (e : Prefix) → SamePairs S T e → has_entry S e ≡ has_entry T e
same_there S T e same = elim (either (has_entry S e)) [
  | inl is ↦ is ∙ sym (carries S T e same is)
  | inr off ↦ elim (either (has_entry T e)) [
    | inl is ↦ absurd (false≢true (sym off ∙ carries T S e (λ x own. ((same x own).1, (same x own).0)) is))
    | inr gone ↦ off ∙ sym gone
  ]
]

-- what was made anew tells of the tables
module _ (T : Tables) (sound : IsSound T) (x : Anew) (is : IsMade T x) where
  made_entry : are_some x.pairs ≡ has_entry T x.prefix
  made_entry = by x.pairs refl
    where
      by : (ys : List Pair) → x.pairs ≡ ys → are_some ys ≡ has_entry T x.prefix
      by [] at = sym (no_pair_entry T x.prefix (made_gone T x is at))
      by (y ∷ ys) at = (let b = made_best T x y ys is at in sym (pair_entry T y x.prefix b.member (sym b.own)))

  made_chosen : first_paths x.pairs ≡ chosen T x.prefix
  made_chosen = by x.pairs refl
    where
      by : (ys : List Pair) → x.pairs ≡ ys → first_paths ys ≡ chosen T x.prefix
      by [] at = sym (chosen-no_entry T x.prefix (no_pair_entry T x.prefix (made_gone T x is at)))
      by (y ∷ ys) at = best_paths T x.prefix y sound (made_best T x y ys is at)

  made_derived : derived_pairs x.pairs ≡ is_derived T x.prefix
  made_derived = by x.pairs refl
    where
      by : (ys : List Pair) → x.pairs ≡ ys → derived_pairs ys ≡ is_derived T x.prefix
      by [] at = no_derived T x.prefix (made_gone T x is at)
      by (y ∷ ys) at = best_derived T x.prefix y (made_best T x y ys is at)

  made_cover : (p : Path) → Contains (chosen T x.prefix) p → p.kind ≡ kinds.Cover → x.cover ≡ cover T x.prefix.bits
  made_cover p c kind = is.cover (cover_at_host T sound x.prefix p c kind)

  made_goals : map (λ p. kind_goal x.cover p.kind) (first_paths x.pairs) ≡ map (λ p. goal_of T x.prefix p.kind) (chosen T x.prefix)
  made_goals =
      ap (map (λ p. kind_goal x.cover p.kind)) made_chosen
      ∙ map_same (λ p. kind_goal x.cover p.kind) (λ p. goal_of T x.prefix p.kind) (chosen T x.prefix)
      (λ p c. kind_is_goal T x.prefix x.cover p.kind (made_cover p c))

module _ (v : Seen) (S T : Tables) (h : IsAfter v S T) where
  -- beside what was made anew the entry is the same
  pub same_beside : (e : Prefix) → made_of v.changed e ≡ None → SameEntry S T e
  same_beside e none = h.caught e (none_made v.changed e none)

  pub entry_after : (e : Prefix) → entry_in v e ≡ has_entry T e
  entry_after e = by (made_of v.changed e) refl
    where
      by : (o : Option Anew) → made_of v.changed e ≡ o → entry_by v.before e o ≡ has_entry T e
      by None at = row_is v.before S h.stands e ∙ same_there S T e (same_beside e at).pairs
      by (Some x) at = (let t = made_there v.changed e x at in made_entry T h.sound x (h.made x t.0) ∙ ap (has_entry T) t.1)

  pub chosen_after : (e : Prefix) → chosen_in v e ≡ chosen T e
  chosen_after e = by (made_of v.changed e) refl
    where
      by : (o : Option Anew) → made_of v.changed e ≡ o → chosen_by v.before e o ≡ chosen T e
      by None at = row_chosen v.before S h.stands e ∙ same_chosen S T e h.sound (same_beside e at).pairs
      by (Some x) at = (let t = made_there v.changed e x at in made_chosen T h.sound x (h.made x t.0) ∙ ap (chosen T) t.1)

  pub derived_after : (e : Prefix) → derived_in v e ≡ is_derived T e
  derived_after e = by (made_of v.changed e) refl
    where
      by : (o : Option Anew) → made_of v.changed e ≡ o → derived_by v.before e o ≡ is_derived T e
      by None at = row_derived v.before S h.stands e ∙ same_derived S T e (same_beside e at).pairs
      by (Some x) at = (let t = made_there v.changed e x at in made_derived T h.sound x (h.made x t.0) ∙ ap (is_derived T) t.1)

  pub goals_after : (e : Prefix) → goals_in v e ≡ map (λ p. goal_of T e p.kind) (chosen T e)
  goals_after e = by (made_of v.changed e) refl
    where
      by : (o : Option Anew) → made_of v.changed e ≡ o → goals_by v.before e o ≡ map (λ p. goal_of T e p.kind) (chosen T e)
      by None at =
          row_goals v.before S h.stands e
          ∙ map_same (λ p. goal_of S e p.kind) (λ p. goal_of T e p.kind) (chosen S e) (λ p c. goal_same S T e p.kind ((same_beside e at).cover p c))
          ∙ ap (map (λ p. goal_of T e p.kind)) (same_chosen S T e h.sound (same_beside e at).pairs)
      by (Some x) at = (let t = made_there v.changed e x at
          in subst (λ z. map (λ p. kind_goal x.cover p.kind) (first_paths x.pairs) ≡ map (λ p. goal_of T z p.kind) (chosen T z)) t.1
          (made_goals T h.sound x (h.made x t.0)))

  pub cover_after : (e : Prefix) (p : Path) → Contains (chosen T e) p → p.kind ≡ kinds.Cover → cover_by v.before e (made_of v.changed e) ≡ Some (cover T e.bits)
  cover_after e p c kind = by (made_of v.changed e) refl
    where
      by : (o : Option Anew) → made_of v.changed e ≡ o → cover_by v.before e o ≡ Some (cover T e.bits)
      by None at = (let was = subst (λ l. Contains l p) (sym (same_chosen S T e h.sound (same_beside e at).pairs)) c in
          row_cover v.before S h.stands e p was kind ∙ ap Some ((same_beside e at).cover p was kind))
      by (Some x) at = (let t = made_there v.changed e x at in
          ap Some (made_cover T h.sound x (h.made x t.0) p (subst (λ z. Contains (chosen T z) p) (sym t.1) c) kind ∙ ap (λ z. cover T z.bits) t.1))

  pub met_after : (need : Need) (a : ℕ) → met_in v need a ≡ is_met T need a
  met_after needs.Any a = refl
  met_after needs.Host a = ap not (derived_after (host a))
  met_after needs.Attached a = ap is_attached_list (chosen_after (host a))

  -- where a prefix leads, after and before
  pub next_after : (e : Prefix) → next_in v e ≡ targets T e
  next_after e = goals_are_targets T e (goals_in v e) (goals_after e)

  pub next_was : (e : Prefix) → next_before v e ≡ targets S e
  next_was e = goals_are_targets S e _ (row_goals v.before S h.stands e)
