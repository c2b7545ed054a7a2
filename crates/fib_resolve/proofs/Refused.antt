-- When an edit is refused, by its own reasons and by the size.
use Rattle.std.proofs.Common.{◌≡◌, ℕ, ◌≤◌, ◌<◌, Bool, true, false, ltb, List, [], ◌∷◌, ◌++◌, Option, Some, None, inl, inr, refl, sym, ◌∙◌}
use Rattle.std.proofs.lemmas.Bool.{lt-ltb, le-ltb}
use Rattle.fib_base_list.proofs.Lists.{either}
use Rattle.fib_resolve.specs.Edits.{edited}
use Rattle.fib_resolve.specs.Sizes.{size}
use Rattle.fib_resolve.specs.Refusals.{Reason, when, first_reason, reasons, refused}
use Rattle.fib_resolve.specs.declared.types.Refusal.{Refusal}
use Rattle.fib_resolve.specs.declared.types.Refusal.TheVariants as refusals
use Rattle.fib_resolve.specs.declared.types.Tables.{Tables}
use Rattle.fib_resolve.specs.declared.types.Edit.{Edit}

-- the first reason of two lists is the first of the first, if it has one
abbrev first_of_both : Option Refusal → Option Refusal → Option Refusal
first_of_both None o = o
first_of_both (Some r) o = Some r

first-append : (xs ys : List Reason) → first_reason (xs ++ ys) ≡ first_of_both (first_reason xs) (first_reason ys)
first-append [] ys = refl
first-append (x ∷ xs) ys =
    elim (either x.applies) [ inl is ↦ rw is refl | inr isnt ↦ rw isnt (first-append xs ys) ]

too_large : Tables → ℕ → Edit → List Reason
too_large S room e = when (ltb room (size (edited S e))) refusals.TooLarge ∷ []

refused-is : (S : Tables) (room : ℕ) (e : Edit) → refused S room e ≡ first_of_both (first_reason (reasons S e)) (first_reason (too_large S room e))
unfolding refused too_large
refused-is S room e = first-append (reasons S e) (when (ltb room (size (edited S e))) refusals.TooLarge ∷ [])

pub refused_own : (S : Tables) (room : ℕ) (e : Edit) (r : Refusal) → first_reason (reasons S e) ≡ Some r → refused S room e ≡ Some r
refused_own S room e r h = refused-is S room e ∙ rw h refl

pub refused_size : (S : Tables) (room : ℕ) (e : Edit) → first_reason (reasons S e) ≡ None → room < size (edited S e) → refused S room e ≡ Some refusals.TooLarge
unfolding too_large
refused_size S room e h large =
    let test : ltb room (size (edited S e)) ≡ true = lt-ltb room (size (edited S e)) large in
    refused-is S room e ∙ rw (h, test) refl

pub refused_none : (S : Tables) (room : ℕ) (e : Edit) → first_reason (reasons S e) ≡ None → size (edited S e) ≤ room → refused S room e ≡ None
unfolding too_large
refused_none S room e h fits =
    let test : ltb room (size (edited S e)) ≡ false = le-ltb room (size (edited S e)) fits in
    refused-is S room e ∙ rw (h, test) refl

none_first : (o p : Option Refusal) → first_of_both o p ≡ None → o ≡ None
none_first None p h = refl
none_first (Some r) p h = cc

-- what isn't refused has no reason of its own
pub none_own : (S : Tables) (room : ℕ) (e : Edit) → refused S room e ≡ None → first_reason (reasons S e) ≡ None
none_own S room e h = none_first (first_reason (reasons S e)) _ (sym (refused-is S room e) ∙ h)

-- where no reason applies, the first does not and no other does
pub first_none : (b : Bool) (r : Refusal) (rs : List Reason) → first_reason (when b r ∷ rs) ≡ None → (b ≡ false) × (first_reason rs ≡ None)
first_none true r rs h = cc
first_none false r rs h = (refl, h)
