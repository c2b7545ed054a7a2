-- Why an edit that is made at first is taken back.
use Rattle.std.proofs.Common.{◌≡◌, List, ◌∷◌, [], ℕ, ◌+◌, ◌-◌, ◌^◌, ◌<◌, ◌≤◌, min, ap, ◌∙◌, subst, sym, refl, arith}
use Rattle.std.specs.Prelude.{Option, Some, None, Result, Ok, Err}
use Rattle.fib_resolve.specs.Edits.{edited}
use Rattle.fib_resolve.specs.Refusals.{FirstRefused, edited_from, edited_in_turn, first_reason, reasons, refused, unless_refused}
use Rattle.fib_resolve.specs.Sizes.{size}
use Rattle.fib_resolve.specs.declared.types.Edit.{Edit}
use Rattle.fib_resolve.specs.declared.types.Refusal.{Refusal}
use Rattle.fib_resolve.specs.declared.types.Tables.{Tables}
use Rattle.fib_config.proofs.Made.{made_fits, made_large}
use Rattle.fib_resolve.specs.declared.types.Refusal.TheVariants as refusals
use Rattle.fib_resolve.proofs.Refused.{none_own, refused_size}
use Rattle.fib_entries.specs.Following.{IsAbove, TellsChange}
use Rattle.fib_entries.specs.declared.errors.ChangeError.TheVariants as changes
use Rattle.fib_control.specs.Controls.{IsBatchNotCrowded, IsNotCrowded, IsTooMuch, TellsBatch, TellsEdit, WantsMore}
use Rattle.fib_control.specs.declared.errors.ApplyError.{ApplyError}
use Rattle.fib_control.specs.declared.errors.ApplyError.TheVariants as errors
use Rattle.fib_control.specs.declared.errors.BatchApplyError.{BatchApplyError}
use Rattle.fib_control.specs.declared.errors.BatchApplyError.TheVariants as batch_errors
use Rattle.fib_control.specs.declared.following.Limits.{Limits}

abbrev the_ok : Tables → Result Tables FirstRefused
the_ok S = Ok S

abbrev the_err : ℕ → Refusal → Result Tables FirstRefused
the_err i r = Err (record { place = i; refusal = r })

pub tells_too_much : (S T : Tables) (l : Limits) (e : Edit) (x : ApplyError) → T ≡ edited S e → first_reason (reasons S e) ≡ None → IsTooMuch l (size T) x → TellsEdit S l e x
tells_too_much S T l e (errors.Refused r) is none h = made_large S T l.room e is h.1 none ∙ ap (λ (q : Refusal). Some q) (sym h.0)
tells_too_much S T l e (errors.Crowded free wanted) is none h = (made_fits S T l.room e is h.0 none, h.1, h.2 ∙ ap size is, (let a = h.2 in let b = h.3 in omega (arith, a, b)))
tells_too_much S T l e errors.Memory is none h = tt

-- an edit that isn't refused fits the room
pub fits_room : (S : Tables) (room : ℕ) (e : Edit) → refused S room e ≡ None → size (edited S e) ≤ room
fits_room S room e none = grind (arith, by_size)
  where
    by_size : room < size (edited S e) → ⊥
    by_size lt = absurd (let bad : None ≡ Some refusals.TooLarge = sym none ∙ refused_size S room e (none_own S room e none) lt in cc)

-- a size that fits the room is told as it is
size_told : (l : Limits) (size told : ℕ) (x : ApplyError) → l.room < 2 ^ 32 - 1 → told ≡ min size (2 ^ 32 - 1) → IsTooMuch l told x → IsTooMuch l size x
size_told l size told (errors.Refused r) room is h = (h.0, (let more = h.1 in omega (arith, more, is)))
size_told l size told (errors.Crowded free wanted) room is h =
    let fits = h.0 in
    let same : told ≡ size = omega (arith, fits, is, room) in
    subst (λ (n : ℕ). IsTooMuch l n (errors.Crowded free wanted)) same h
size_told l size told errors.Memory room is h = tt

pub tells_size : (S : Tables) (l : Limits) (e : Edit) (told : ℕ) (x : ApplyError) → l.room < 2 ^ 32 - 1 → TellsChange S (min l.room l.free) e (changes.TooMany told)
    → (min l.room l.free < told → IsTooMuch l told x) → TellsEdit S l e x
tells_size S l e told x room h much =
    let above = h.1.above in
    let is = h.1.told in
    let more : min l.room l.free < told = omega (arith, above, is, room) in
    tells_too_much S (edited S e) l e x refl h.0 (size_told l (size (edited S e)) told x room is (much more))

-- tables that fit what is free fit the room
pub accepted : (S : Tables) (l : Limits) (e : Edit) → refused S (min l.room l.free) e ≡ None → refused S l.room e ≡ None
accepted S l e none =
    let fits = fits_room S (min l.room l.free) e none in
    made_fits S (edited S e) l.room e refl (omega (arith, fits)) (none_own S (min l.room l.free) e none)

-- so it is crowded only where fewer objects are free than the room takes
pub not_crowded : (S : Tables) (l : Limits) (e : Edit) (x : ApplyError) → TellsEdit S l e x → ((n : ℕ) → n ≤ l.room → l.free < n → ⊥) → IsNotCrowded x
not_crowded S l e (errors.Refused r) h never = tt
not_crowded S l e (errors.Crowded free wanted) h never = never wanted (let f = fits_room S l.room e h.0 in let w = h.2 in omega (arith, f, w)) (let a = h.1 in let b = h.3 in omega (arith, a, b))
not_crowded S l e errors.Memory h never = tt

next_fits : (o : Option Refusal) (i room : ℕ) (S T : Tables) (e : Edit) (more : Result Tables FirstRefused) → refused S room e ≡ o
    → (more ≡ the_ok T → size (edited S e) ≤ room → size T ≤ room) → unless_refused o i more ≡ the_ok T → size T ≤ room
next_fits None i room S T e more none later is = later is (fits_room S room e none)
next_fits (Some r) i room S T e more why later is = absurd (let bad : the_err i r ≡ the_ok T = is in cc)

-- so do the tables after edits in turn of which none is refused
pub turns_fit : (es : List Edit) (i room : ℕ) (S T : Tables) → size S ≤ room → edited_from i S room es ≡ Ok T → size T ≤ room
unfolding edited_from
turns_fit [] i room S T fits is = subst (λ (V : Tables). size V ≤ room) (let same : the_ok S ≡ the_ok T = is in cc) fits
turns_fit (e ∷ es) i room S T fits is =
    next_fits (refused S room e) i room S T e (edited_from (i + 1) (edited S e) room es) refl (λ made below. turns_fit es (i + 1) room (edited S e) T below made) is

pub batch_crowded : (S T : Tables) (l : Limits) (es : List Edit) (free wanted : ℕ) → edited_in_turn S l.room es ≡ Ok T → IsTooMuch l (size T) (errors.Crowded free wanted)
    → TellsBatch S l es (batch_errors.Crowded free wanted)
batch_crowded S T l es free wanted made h =
    let f = h.1 in
    let w = h.2 in
    let lt = h.3 in
    let less : free < wanted = omega (arith, f, w, lt) in
    (T, made, f, w, less)

-- edits none of which is refused want objects or memory alone
pub wants_more : (T : Tables) (l : Limits) (x : ApplyError) → size T ≤ l.room → IsTooMuch l (size T) x → WantsMore x
wants_more T l (errors.Refused r) fits h = absurd (let more = h.1 in omega (arith, fits, more))
wants_more T l (errors.Crowded free wanted) fits h = tt
wants_more T l errors.Memory fits h = tt

pub not_crowded_batch : (S : Tables) (l : Limits) (es : List Edit) (x : BatchApplyError) → size S ≤ l.room → TellsBatch S l es x → ((n : ℕ) → n ≤ l.room → l.free < n → ⊥)
    → IsBatchNotCrowded x
not_crowded_batch S l es (batch_errors.Refused place r) fits h never = tt
not_crowded_batch S l es (batch_errors.Crowded free wanted) fits h never =
    let after = turns_fit es 0 l.room S h.0 fits h.1 in
    let f = h.2 in
    let w = h.3 in
    let lt = h.4 in
    never wanted (omega (arith, after, w)) (omega (arith, f, lt))
not_crowded_batch S l es batch_errors.Memory fits h never = tt
