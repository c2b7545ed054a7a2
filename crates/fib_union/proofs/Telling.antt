-- When a mark is passed, in terms of the words that looks found.
use Rattle.std.proofs.Common.{arith, ◌≡◌, ◌≢◌, ℕ, zero, suc, ◌↔◌, inl, inr, cond, List, [], ◌∷◌, refl, sym, ◌∙◌, ap}
use Rattle.std.specs.Prelude.{Contains, fold}
use Rattle.std.proofs.lemmas.Bool.{false≢true}
use Rattle.std.proofs.lemmas.Bool.Decides.{eqb_tells}
use Rattle.fib_base_list.proofs.Lists.{either}
use Rattle.fib_union.specs.Marks.{Mark, unseen, first, passed, is_even, next_mark, is_passed, mark_after, IsOver}

after : Mark → List ℕ → Mark
after m [] = m
after m (w ∷ ws) = after (next_mark w m) ws

unfolded : (m : Mark) (ws : List ℕ) → fold (λ q w. next_mark w q) m ws ≡ after m ws
unfolding after
unfolded m [] = refl
unfolded m (w ∷ ws) = unfolded (next_mark w m) ws

stays : (ws : List ℕ) → after passed ws ≡ passed
unfolding after
stays [] = refl
stays (w ∷ ws) = stays ws

not_passed : (v : ℕ) → first v ≡ passed → ⊥
not_passed v e = false≢true (ap is_passed e)

-- after a first word, passed exactly where another one is found
later : (v : ℕ) (ws : List ℕ) → after (first v) ws ≡ passed ↔ ((x : ℕ) × Contains ws x × (x ≢ v))
unfolding after
later v [] = (λ e. absurd (not_passed v e), λ q. absurd (let low = q.1.1 in let bad : ⊥ = omega arith in bad))
later v (w ∷ ws) = elim (eqb_tells v w) [
  | inl same ↦ (let goes_on : after (next_mark w (first v)) ws ≡ after (first v) ws = ap (λ b. after (cond b (first v) passed) ws) same.0 in (
    λ e. (let q = (later v ws).0 (sym goes_on ∙ e) in (q.0, (suc q.1.0, omega (arith, q.1.1), q.1.2), q.2)),
    λ q. goes_on ∙ (later v ws).1 (there q.0 q.1 q.2 same.1),
  ))
  | inr other ↦ (λ e. (w, (0, omega arith, refl), λ is. other.1 (sym is)), λ q. ap (λ b. after (cond b (first v) passed) ws) other.0 ∙ stays ws)
]
  where
    there : (x : ℕ) → Contains (w ∷ ws) x → x ≢ v → v ≡ w → (x : ℕ) × Contains ws x × (x ≢ v)
    there x (zero, low, is) apart same = absurd (apart (sym is ∙ sym same))
    there x (suc i, low, is) apart same = (x, (i, omega (arith, low), is), apart)

none_passed : unseen ≡ passed → ⊥
none_passed e = false≢true (ap is_passed e)

pub passed_iff : (ws : List ℕ) → mark_after ws ≡ passed ↔ IsOver ws
unfolding after
passed_iff [] = (λ e. none_passed e, λ h. absurd h)
passed_iff (w ∷ ws) = elim (either (is_even w)) [
  | inl even ↦ (λ e. inl even, λ h. unfolded unseen (w ∷ ws) ∙ (ap (λ b. after (cond b passed (first w)) ws) even ∙ stays ws))
  | inr odd ↦ (let goes_on : mark_after (w ∷ ws) ≡ after (first w) ws = unfolded unseen (w ∷ ws) ∙ ap (λ b. after (cond b passed (first w)) ws) odd in
      (λ e. inr ((later w ws).0 (sym goes_on ∙ e)), λ h. goes_on ∙ (later w ws).1 (elim h [ inl even ↦ absurd (false≢true (sym odd ∙ even)) | inr q ↦ q ])))
]
