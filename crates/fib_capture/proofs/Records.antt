-- Records, from the front of what is left of a file.
use Rattle.std.proofs.Common.{◌≡◌, ◌∷◌, ◌∙◌, [], ℕ, zero, suc, ◌+◌, ◌-◌, ◌<◌, ◌≤◌, List, length, take, drop, Option, Some, None, refl, ap, sym, arith, length-drop}
use Rattle.std.proofs.lemmas.Bool.Decides.{nat_tests}
use Rattle.std.proofs.lemmas.List.{take_rest, drop-drop}
use Rattle.fib_capture.specs.Captures.{number_at, record_of, frames_within, left_within, frames_of, left_of}
use Rattle.fib_capture.specs.declared.packet.Order.{Order}

record_some : (order : Order) (bytes : List ℕ) → 16 ≤ length bytes → 16 + number_at order bytes 8 ≤ length bytes → record_of order bytes ≡ Some (take (number_at order bytes 8) (drop 16 bytes), drop (16 + number_at order bytes 8) bytes)
unfolding record_of
record_some order bytes long fits = grind (arith, nat_tests)

same_parts : (bytes body front back : List ℕ) (n m : ℕ) → n ≡ m → body ≡ drop 16 bytes → front ≡ take n body → back ≡ drop n body → ◌≡◌ {A = Option (List ℕ × List ℕ)} (Some (take m (drop 16 bytes), drop (16 + m) bytes)) (Some (front, back))
same_parts bytes body front back n m is rest front_is back_is = rw (front_is, back_is, rest, is, drop-drop) refl

-- in the code's form
pub whole_record : (order : Order) (bytes body front back : List ℕ) (n : ℕ) → 16 ≤ length bytes → n ≡ number_at order bytes 8 → body ≡ take (length bytes - 16) (drop 16 bytes) → n ≤ length body → front ≡ take n body → back ≡ drop n body → record_of order bytes ≡ Some (front, back)
whole_record order bytes body front back n long is rest fits front_is back_is =
    let all : body ≡ drop 16 bytes = rest ∙ take_rest bytes 16 in
    record_some order bytes long (omega (arith, length-drop 16 bytes, ap length all)) ∙ same_parts bytes body front back n _ is all front_is back_is

-- a record leaves fewer bytes than there were
pub record_shorter : (order : Order) (bytes : List ℕ) (r : List ℕ × List ℕ) → record_of order bytes ≡ Some r → length r.1 < length bytes
unfolding record_of
record_shorter order bytes r e = grind (arith, nat_tests, length-drop {A = ℕ})

-- no record in no bytes
pub record_none : (order : Order) (bytes : List ℕ) → length bytes ≡ 0 → record_of order bytes ≡ None
unfolding record_of
record_none order bytes e = grind (arith, nat_tests)

frames_step_some : (most : ℕ) (order : Order) (bytes : List ℕ) (r : List ℕ × List ℕ) → record_of order bytes ≡ Some r → frames_within (suc most) order bytes ≡ r.0 ∷ frames_within most order r.1
unfolding frames_within
frames_step_some most order bytes r e = rw (e, frames_within) refl

frames_step_none : (most : ℕ) (order : Order) (bytes : List ℕ) → record_of order bytes ≡ None → frames_within (suc most) order bytes ≡ []
unfolding frames_within
frames_step_none most order bytes e = rw (e, frames_within) refl

left_step_some : (most : ℕ) (order : Order) (bytes : List ℕ) (r : List ℕ × List ℕ) → record_of order bytes ≡ Some r → left_within (suc most) order bytes ≡ left_within most order r.1
unfolding left_within
left_step_some most order bytes r e = rw (e, left_within) refl

left_step_none : (most : ℕ) (order : Order) (bytes : List ℕ) → record_of order bytes ≡ None → left_within (suc most) order bytes ≡ bytes
unfolding left_within
left_step_none most order bytes e = rw (e, left_within) refl

frames_zero : (order : Order) (bytes : List ℕ) → frames_within zero order bytes ≡ []
unfolding frames_within
frames_zero order bytes = refl

left_zero : (order : Order) (bytes : List ℕ) → left_within zero order bytes ≡ bytes
unfolding left_within
left_zero order bytes = refl

-- any bound that is at least the number of bytes gives the same
frames_enough : (f g : ℕ) (order : Order) (bytes : List ℕ) → length bytes ≤ f → length bytes ≤ g → frames_within f order bytes ≡ frames_within g order bytes
frames_enough zero zero order bytes p q = refl
frames_enough zero (suc g) order bytes p q = frames_zero order bytes ∙ sym (frames_step_none g order bytes (record_none order bytes (omega arith)))
frames_enough (suc f) zero order bytes p q = frames_step_none f order bytes (record_none order bytes (omega arith)) ∙ sym (frames_zero order bytes)
frames_enough (suc f) (suc g) order bytes p q =
    elim (record_of order bytes) as (λ o. record_of order bytes ≡ o → frames_within (suc f) order bytes ≡ frames_within (suc g) order bytes) [
      | None ↦ λ e. frames_step_none f order bytes e ∙ sym (frames_step_none g order bytes e)
      | Some r ↦ λ e.
          frames_step_some f order bytes r e
          ∙ ap (λ fs. r.0 ∷ fs) (frames_enough f g order r.1 (omega (arith, record_shorter order bytes r e)) (omega (arith, record_shorter order bytes r e)))
          ∙ sym (frames_step_some g order bytes r e)
    ] refl

left_enough : (f g : ℕ) (order : Order) (bytes : List ℕ) → length bytes ≤ f → length bytes ≤ g → left_within f order bytes ≡ left_within g order bytes
left_enough zero zero order bytes p q = refl
left_enough zero (suc g) order bytes p q = left_zero order bytes ∙ sym (left_step_none g order bytes (record_none order bytes (omega arith)))
left_enough (suc f) zero order bytes p q = left_step_none f order bytes (record_none order bytes (omega arith)) ∙ sym (left_zero order bytes)
left_enough (suc f) (suc g) order bytes p q =
    elim (record_of order bytes) as (λ o. record_of order bytes ≡ o → left_within (suc f) order bytes ≡ left_within (suc g) order bytes) [
      | None ↦ λ e. left_step_none f order bytes e ∙ sym (left_step_none g order bytes e)
      | Some r ↦ λ e.
          left_step_some f order bytes r e
          ∙ left_enough f g order r.1 (omega (arith, record_shorter order bytes r e)) (omega (arith, record_shorter order bytes r e))
          ∙ sym (left_step_some g order bytes r e)
    ] refl

-- one record more
pub frames_of_some : (order : Order) (bytes : List ℕ) (r : List ℕ × List ℕ) → record_of order bytes ≡ Some r → frames_of order bytes ≡ r.0 ∷ frames_of order r.1
unfolding frames_of
frames_of_some order bytes r e =
    frames_enough (length bytes) (suc (length bytes)) order bytes (omega arith) (omega arith)
    ∙ frames_step_some (length bytes) order bytes r e
    ∙ ap (λ fs. r.0 ∷ fs) (frames_enough (length bytes) (length r.1) order r.1 (omega (arith, record_shorter order bytes r e)) (omega arith))

pub left_of_some : (order : Order) (bytes : List ℕ) (r : List ℕ × List ℕ) → record_of order bytes ≡ Some r → left_of order bytes ≡ left_of order r.1
unfolding left_of
left_of_some order bytes r e =
    left_enough (length bytes) (suc (length bytes)) order bytes (omega arith) (omega arith)
    ∙ left_step_some (length bytes) order bytes r e
    ∙ left_enough (length bytes) (length r.1) order r.1 (omega (arith, record_shorter order bytes r e)) (omega arith)

-- no whole record is left
pub frames_of_none : (order : Order) (bytes : List ℕ) → record_of order bytes ≡ None → frames_of order bytes ≡ []
unfolding frames_of
frames_of_none order bytes e =
    frames_enough (length bytes) (suc (length bytes)) order bytes (omega arith) (omega arith) ∙ frames_step_none (length bytes) order bytes e

pub left_of_none : (order : Order) (bytes : List ℕ) → record_of order bytes ≡ None → left_of order bytes ≡ bytes
unfolding left_of
left_of_none order bytes e =
    left_enough (length bytes) (suc (length bytes)) order bytes (omega arith) (omega arith) ∙ left_step_none (length bytes) order bytes e
