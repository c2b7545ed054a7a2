-- What is known of an edit before its size is.
use Rattle.std.proofs.Common.{arith, ◌≡◌, ℕ, ◌+◌, ◌-◌, ◌^◌, ◌≤◌, ◌<◌, min, List, ◌∷◌, length, drop, Some, None, get_or, refl, sym, ◌∙◌, ap, subst}
use Rattle.std.specs.Prelude.{Ok, Err}
use Rattle.std.proofs.lemmas.List.{drop_more, drop_all}
use Rattle.fib_resolve.specs.Tables.{IsSound}
use Rattle.fib_resolve.specs.Edits.{edited}
use Rattle.fib_resolve.specs.Sizes.{size}
use Rattle.fib_resolve.specs.Refusals.{first_reason, reasons, refused, edited_from}
use Rattle.fib_resolve.specs.Reachable.{IsWritten}
use Rattle.fib_resolve.proofs.Refused.{refused_own, refused_size, refused_none}
use Rattle.fib_resolve.proofs.Sound.{sound_edit}
use Rattle.fib_config.specs.inner.Bounds.{allowance, growth, IsBoundFor}
use Rattle.fib_config.proofs.Growing.{edit_allowed}
use Rattle.fib_resolve.specs.declared.types.Refusal.{Refusal}
use Rattle.fib_resolve.specs.declared.types.Refusal.TheVariants as refusals
use Rattle.fib_resolve.specs.declared.types.Tables.{Tables}
use Rattle.fib_resolve.specs.declared.types.Edit.{Edit}

-- an edit without a reason of its own makes sound tables, whatever their size
pub made_sound : (S : Tables) (e : Edit) → IsSound S → IsWritten e → first_reason (reasons S e) ≡ None → IsSound (edited S e)
made_sound S e sound written none = sound_edit S (size (edited S e)) e sound written (refused_none S (size (edited S e)) e none (omega arith))

pub made_sound_at : (S T : Tables) (e : Edit) → T ≡ edited S e → first_reason (reasons S e) ≡ None → IsSound S → IsWritten e → IsSound T
made_sound_at S T e is none sound written = subst IsSound (sym is) (made_sound S e sound written none)

pub made_refused : (S : Tables) (room : ℕ) (e : Edit) (r : Refusal) → first_reason (reasons S e) ≡ Some r → refused S room e ≡ Some r
made_refused S room e r h = refused_own S room e r h

pub made_large : (S T : Tables) (room : ℕ) (e : Edit) → T ≡ edited S e → room < size T → first_reason (reasons S e) ≡ None → refused S room e ≡ Some refusals.TooLarge
made_large S T room e is large none = refused_size S room e none (subst (λ (X : Tables). room < size X) is large)

pub made_fits : (S T : Tables) (room : ℕ) (e : Edit) → T ≡ edited S e → size T ≤ room → first_reason (reasons S e) ≡ None → refused S room e ≡ None
made_fits S T room e is fits none = refused_none S room e none (subst (λ (X : Tables). size X ≤ room) is fits)

-- the bound that grew with the edit bounds what the edit made
pub made_bounded : (S T : Tables) (e : Edit) (bound more grown : ℕ) → T ≡ edited S e → IsWritten e → IsBoundFor bound (allowance S) → IsBoundFor more (growth e) → grown ≡ min (bound + more) (2 ^ 64 - 1) → IsBoundFor grown (allowance T)
made_bounded S T e bound more grown is written bounded by sum =
    let raised = edit_allowed S e written in
    let at : allowance T ≡ allowance (edited S e) = ap allowance is in
    omega (arith, raised, at, bounded, by, sum)

step : (i : ℕ) (S : Tables) (room : ℕ) (es : List Edit) (e : Edit) → i < length es → e ≡ get_or es i e → edited_from i S room (drop i es) ≡ edited_from i S room (e ∷ drop (i + 1) es)
step i S room es e lt is = ap (edited_from i S room) (drop_more es i e lt ∙ ap (λ x. x ∷ drop (i + 1) es) (sym is))

-- an edit that is refused ends the turns
pub turn_stops : (i : ℕ) (S : Tables) (room : ℕ) (es : List Edit) (e : Edit) (r : Refusal) → i < length es → e ≡ get_or es i e → refused S room e ≡ Some r → edited_from i S room (drop i es) ≡ Err (record { place = i; refusal = r })
unfolding edited_from
turn_stops i S room es e r lt is no_room = step i S room es e lt is ∙ rw no_room refl

-- one that isn't goes on
pub turn_more : (i : ℕ) (S T : Tables) (room : ℕ) (es : List Edit) (e : Edit) → i < length es → e ≡ get_or es i e → refused S room e ≡ None → T ≡ edited S e → edited_from (i + 1) T room (drop (i + 1) es) ≡ edited_from i S room (drop i es)
unfolding edited_from
turn_more i S T room es e lt is fits made = sym (step i S room es e lt is ∙ rw (fits, ← made) refl)

pub turn_ends : (i : ℕ) (S : Tables) (room : ℕ) (es : List Edit) → length es ≤ i → edited_from i S room (drop i es) ≡ Ok S
unfolding edited_from
turn_ends i S room es over = rw (drop_all i es over) refl
