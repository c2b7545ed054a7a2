-- Places of lists of views that grow.
use Rattle.std.proofs.Common.{◌≡◌, ◌≢◌, ℕ, zero, suc, ◌<◌, List, [], ◌∷◌, ◌++◌, length, refl, sym, ap, ◌∙◌, subst, arith}
use Rattle.std.specs.Prelude.{slice_set}
use mathlib.Core.Option.{some, some-injective, some-ne-none}
use lib.ListN.{get_elem?}
use Rattle.fib_core_lawful.specs.State.{Control, Worker, View, control, worker, note, spent}
use Rattle.fib_core_lawful.specs.Frame.{HasView}

pub at_other : {A : Type 0} (l : List A) (i j : ℕ) (a b : A) → j ≢ i → get_elem? l j ≡ some b → get_elem? (slice_set l i a) j ≡ some b
at_other [] i j a b ne e = e
at_other (x ∷ xs) zero zero a b ne e = absurd (ne refl)
at_other (x ∷ xs) zero (suc j) a b ne e = e
at_other (x ∷ xs) (suc i) zero a b ne e = e
at_other (x ∷ xs) (suc i) (suc j) a b ne e = at_other xs i j a b (λ same. ne (ap suc same)) e

pub at_left : {A : Type 0} (l m : List A) (j : ℕ) (b : A) → get_elem? l j ≡ some b → get_elem? (l ++ m) j ≡ some b
at_left [] m j b e = absurd (some-ne-none b (sym e))
at_left (x ∷ xs) m zero b e = e
at_left (x ∷ xs) m (suc j) b e = at_left xs m j b e

pub at_last : {A : Type 0} (l : List A) (a : A) → get_elem? (l ++ a ∷ []) (length l) ≡ some a
at_last [] a = refl
at_last (x ∷ xs) a = at_last xs a

pub at_below : {A : Type 0} (l : List A) (j : ℕ) (b : A) → get_elem? l j ≡ some b → j < length l
at_below [] j b e = absurd (some-ne-none b (sym e))
at_below (x ∷ xs) zero b e = omega arith
at_below (x ∷ xs) (suc j) b e = let lt = at_below xs j b e in omega arith

abbrev is_control : View → ℕ
is_control (control c) = 1
is_control (worker w) = 0
is_control (note n) = 0
is_control spent = 0

abbrev number_in : View → ℕ
number_in (worker w) = w.number
number_in (control c) = 0
number_in (note n) = 0
number_in spent = 0

same_view : (views : List View) (i j : ℕ) (a b : View) → HasView views i a → HasView views j b → j ≡ i → a ≡ b
same_view views i j a b x y e = some-injective a b (sym x ∙ subst (λ m. get_elem? views m ≡ some b) e y)

-- a worker's seat isn't the control plane's
pub worker_apart : (views : List View) (c : Control) (w : Worker) (seat : ℕ) → HasView views 0 (control c) → HasView views seat (worker w) → seat ≢ 0
worker_apart views c w seat mine has e =
    let bad : ◌≡◌ {A = ℕ} 1 0 = ap is_control (same_view views 0 seat (control c) (worker w) mine has e) in omega arith

-- two workers have two seats
pub workers_apart : (views : List View) (v w : Worker) (i j : ℕ) → HasView views i (worker v) → HasView views j (worker w) → v.number ≢ w.number → j ≢ i
workers_apart views v w i j has there ne e = ne (ap number_in (same_view views i j (worker v) (worker w) has there e))
