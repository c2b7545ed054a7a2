-- Queued one by one, and keyed anew.
use native.Mathlib.Decide.{ℕ_discrete}
use Rattle.std.proofs.Common.{inl, inr, ⊎_elim, ◌≡◌, ℕ, ◌+◌, ◌<◌, Bool, true, false, true≢false, ◌||◌, List, [], ◌∷◌, length, map, take, get_or, refl, sym, ap, ◌∙◌, subst, arith}
use Rattle.std.specs.Prelude.{Contains, Option, Some, None, option_map, ◌⊎◌, if◌then◌else◌}
use Rattle.std.specs.List.{list_any}
use Rattle.std.proofs.lemmas.List.Folds.{list_any_more}
use Rattle.fib_addr.specs.Prefixes.{Prefix, same_prefix}
use Rattle.fib_addr.proofs.PrefixLaws.{same_prefix-Decides}
use Rattle.fib_base_list.proofs.Lists.{either}
use Rattle.fib_resolve.specs.Touched.{is_touched}
use Rattle.fib_resolve.specs.declared.types.Tables.{Tables}
use Rattle.fib_resolve_changes.proofs.CauseLaws.{any_from}
use Rattle.fib_resolve_changes.proofs.Edits.{any_in}
use Rattle.fib_resolve_changes.proofs.SamePairs.{map_from}
use Rattle.fib_core_promise.specs.Stack.{is_some}
use Rattle.fib_entries_rows.specs.Known.{rank_of}
use Rattle.fib_entries_rows.specs.Changes.{AreMoved, AreTouched, prefix_moved}
use Rattle.fib_entries_rows.specs.declared.changes.Moved.{Moved}
use Rattle.fib_entries_rows.specs.declared.rows.Row.{Row}
use Rattle.fib_control.specs.Controls.{is_moved}

-- one more of a list
moved_next : (ms : List Moved) (i : ℕ) (m : Moved) (d : Prefix) → i < length ms → get_or ms i m ≡ m → is_moved (take (i + 1) ms) d ≡ is_moved (take i ms) d || same_prefix m.prefix d
moved_next ms i m d lt is = list_any_more (λ y. same_prefix y.prefix d) ms i m lt ∙ ap (λ (y : Moved). is_moved (take i ms) d || same_prefix y.prefix d) is

still_some : (k : ℕ) (o : Option ℕ) → is_some (option_map (λ _. k) o) ≡ is_some o
still_some k None = refl
still_some k (Some r) = refl

pub rekeyed_queued : (b : Bool) (k : ℕ) (new now first : Option ℕ) → new ≡ (if b then option_map (λ _. k) now else now) → is_some now ≡ is_some first → is_some new ≡ is_some first
rekeyed_queued true k new now first e h = ap is_some e ∙ still_some k now ∙ h
rekeyed_queued false k new now first e h = ap is_some e ∙ h

the_new : (k r : ℕ) (o : Option ℕ) → option_map (λ _. k) o ≡ Some r → r ≡ k
the_new k r None e = absurd (let bad : None ≡ Some r = e in cc)
the_new k r (Some n) e = (let both : Some k ≡ Some r = e in cc)

pub rekeyed_rank : (rows : List Row) (ms : List Moved) (i : ℕ) (m : Moved) (d : Prefix) (new now first : Option ℕ) (k r : ℕ) → i < length ms → get_or ms i m ≡ m
    → new ≡ (if same_prefix m.prefix d then option_map (λ _. k) now else now) → k ≡ rank_of rows m.prefix
    → ((n : ℕ) → now ≡ Some n → (n ≡ rank_of rows d) ⊎ ((first ≡ Some n) × (is_moved (take i ms) d ≡ false)))
    → new ≡ Some r → (r ≡ rank_of rows d) ⊎ ((first ≡ Some r) × (is_moved (take (i + 1) ms) d ≡ false))
rekeyed_rank rows ms i m d new now first k r lt here e is before at = by (same_prefix m.prefix d) refl
  where
    by : (b : Bool) → same_prefix m.prefix d ≡ b → (r ≡ rank_of rows d) ⊎ ((first ≡ Some r) × (is_moved (take (i + 1) ms) d ≡ false))
    by true t = inl (the_new k r now (sym (ap (λ b. if b then option_map (λ _. k) now else now) t) ∙ sym e ∙ at) ∙ is ∙ ap (rank_of rows) ((same_prefix-Decides m.prefix d).0 t))
    by false f = ⊎_elim
        (λ (a : r ≡ rank_of rows d). inl a)
        (λ (b : (first ≡ Some r) × (is_moved (take i ms) d ≡ false)).
        inr (b.0, moved_next ms i m d lt here ∙ ap (λ c. c || same_prefix m.prefix d) b.1 ∙ f))
        (before r (sym (ap (λ b. if b then option_map (λ _. k) now else now) f) ∙ sym e ∙ at))

-- what isn't moved has its rank still
pub unmoved : (old new : List Row) (ms : List Moved) (d : Prefix) → AreMoved old new ms → is_moved ms d ≡ false → rank_of new d ≡ rank_of old d
unmoved old new ms d are none = elim (ℕ_discrete (rank_of new d) (rank_of old d)) [
  | yes same ↦ same
  | no apart ↦ absurd (true≢false (sym (there ms (are.found d apart)) ∙ none))
]
  where
    there : (xs : List Moved) → Contains (map prefix_moved xs) d → is_moved xs d ≡ true
    there xs c = (let m = map_from prefix_moved xs d c in any_in (λ y. same_prefix y.prefix d) xs m.0 m.1 ((same_prefix-Decides m.0.prefix d).1 m.2))

-- after both loops each is queued by its new rank
pub ranked_anew : (old new : List Row) (ms : List Moved) (d : Prefix) (r : ℕ) (first : Option ℕ) → AreMoved old new ms → ((n : ℕ) → first ≡ Some n → n ≡ rank_of old d)
    → (r ≡ rank_of new d) ⊎ ((first ≡ Some r) × (is_moved ms d ≡ false)) → r ≡ rank_of new d
ranked_anew old new ms d r first are before h = ⊎_elim
    (λ (a : r ≡ rank_of new d). a)
    (λ (b : (first ≡ Some r) × (is_moved ms d ≡ false)). before r b.0 ∙ sym (unmoved old new ms d are b.1))
    h

pub swapped : (a b : Prefix) → same_prefix a b ≡ same_prefix b a
swapped a b = elim (either (same_prefix a b)) [
  | inl is ↦ is ∙ sym ((same_prefix-Decides b a).1 (sym ((same_prefix-Decides a b).0 is)))
  | inr no_same ↦ no_same ∙ sym (elim (either (same_prefix b a)) [
    | inl is ↦ absurd (true≢false (sym ((same_prefix-Decides a b).1 (sym ((same_prefix-Decides b a).0 is))) ∙ no_same))
    | inr none ↦ none
  ])
]
