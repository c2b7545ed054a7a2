-- Lists without repeats, from behind.
use Rattle.std.proofs.Common.{arith, ◌≡◌, ℕ, suc, ◌-◌, ◌<◌, ◌≤◌, Bool, true, false, not, List, [], ◌∷◌, ◌++◌, drop, drop-cons, length, get_or, reverse, refl, sym, ◌∙◌, ap, subst}
use Rattle.std.specs.Set.{is_member, unique_keys}
use Rattle.std.specs.Cmp.{IsEquivalence}
use Rattle.std.specs.List.Sorted.{IsPermutation}
use Rattle.std.proofs.lemmas.List.{reverse-append}
use Rattle.std.proofs.lemmas.List.Sorted.{IsPermutation-cons, IsPermutation-trans, list_any-IsPermutation}
use Rattle.fib_base_list.proofs.Lists.{is_member-unique_keys}

-- one place further to the front
pub front : {X : Type 0} (xs : List X) (i : ℕ) (x : X) → 0 < i → i ≤ length xs → x ≡ get_or xs (i - 1) x → drop (i - 1) xs ≡ x ∷ drop i xs
front {X} xs i x pos inside is =
    let back : suc (i - 1) ≡ i = omega (arith, pos) in
    drop-cons xs (i - 1) x (omega (arith, pos, inside)) ∙ (ap (λ (y : X). y ∷ drop (suc (i - 1)) xs) (sym is) ∙ ap (λ (k : ℕ). x ∷ drop k xs) back)

pub not_there : (a b : Bool) → a ≡ not b → a ≡ true → b ≡ false
not_there a false is h = refl
not_there a true is h = sym h ∙ is

pub there_already : (a b : Bool) → a ≡ not b → a ≡ false → b ≡ true
there_already a true is h = refl
there_already a false is h = sym h ∙ is

module _ {X : Type 0} (eq : X → X → Bool) (laws : IsEquivalence eq) (xs rest keys : List X) (x : X) (at : xs ≡ x ∷ rest) (same : IsPermutation (unique_keys eq rest) keys) where
  is_seen : is_member eq keys x ≡ is_member eq rest x
  is_seen = sym (list_any-IsPermutation (eq x) (unique_keys eq rest) keys same) ∙ is_member-unique_keys laws x rest

  -- a new one goes in front
  pub added_keys : (new : List X) → IsPermutation (x ∷ keys) new → is_member eq keys x ≡ false → IsPermutation (unique_keys eq xs) new
  added_keys new h none =
      subst (λ l. IsPermutation l new) (sym (ap (unique_keys eq) at ∙ rw (sym is_seen ∙ none) refl))
      (IsPermutation-trans (x ∷ unique_keys eq rest) (x ∷ keys) new (IsPermutation-cons x (unique_keys eq rest) keys same) h)

  pub added_out : (out : List X) → reverse out ≡ unique_keys eq rest → is_member eq keys x ≡ false → reverse (out ++ x ∷ []) ≡ unique_keys eq xs
  added_out out is none = reverse-append out (x ∷ []) ∙ (ap (λ l. x ∷ l) is ∙ sym (ap (unique_keys eq) at ∙ rw (sym is_seen ∙ none) refl))

  -- another one changes nothing
  pub known_keys : is_member eq keys x ≡ true → unique_keys eq rest ≡ unique_keys eq xs
  known_keys there = sym (ap (unique_keys eq) at ∙ rw (sym is_seen ∙ there) refl)
