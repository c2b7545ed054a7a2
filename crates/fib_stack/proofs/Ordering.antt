-- No prefix is restacked twice between two changes, and targets come first.
use Rattle.std.proofs.Common.{◌≡◌, ℕ, ◌<◌, ◌≤◌, ◌⊎◌, inl, inr, ⊎_elim, Bool, true, false, not, ◌&&◌, true≢false, refl, sym, ◌∙◌, subst, arith}
use Rattle.fib_base_list.proofs.Lists.{either}
use Rattle.fib_base_list.proofs.Booleans.{or_cases, and_both}
use Rattle.fib_addr.specs.Prefixes.{Prefix, same_prefix}
use Rattle.fib_addr.proofs.PrefixLaws.{same_prefix-Decides}
use Rattle.fib_resolve.specs.Forwarding.{forwards}
use Rattle.fib_resolve.specs.Touched.{differ}
use Rattle.fib_resolve.specs.declared.types.Tables.{Tables}
use Rattle.fib_resolve_changes.specs.Ranks.{has_entry, wakes, IsRanked}
use Rattle.fib_stack.specs.States.{State}
use Rattle.fib_stack.specs.Steps.{IsLeast, Restacked, Removed}
use Rattle.fib_stack.specs.Orders.{InOrder, did_also}

apart_of : (d e : Prefix) → not (same_prefix d e) ≡ true → d ≡ e → ⊥
apart_of d e h is = let no : not true ≡ true = subst (λ b. not b ≡ true) ((same_prefix-Decides d e).1 is) h in true≢false (sym no)

-- who is queued after the turn was queued before, or has an open edge to e
pub who_is_queued : (S : Tables) (e : Prefix) (o : ℕ) (s t : State) → Restacked S e o s t → (x : Prefix) → t.queued x ≡ true → ((s.queued x ≡ true) × (x ≡ e → ⊥)) ⊎ (wakes S x e ≡ true)
who_is_queued S e o s t r x q =
    ⊎_elim
    (λ (a : (s.queued x && not (same_prefix x e)) ≡ true). let both = and_both (s.queued x) (not (same_prefix x e)) a in inl (both.0, apart_of x e both.1))
    (λ (b : (differ (s.was e) (forwards S e) && wakes S x e) ≡ true). inr (and_both (differ (s.was e) (forwards S e)) (wakes S x e) b).1)
    (or_cases (s.queued x && not (same_prefix x e)) (differ (s.was e) (forwards S e) && wakes S x e) (sym (r.queue x) ∙ q))

pub was_not_done : (rank : Prefix → ℕ) (s : State) (did : Prefix → Bool) (e : Prefix) → InOrder rank s did → s.queued e ≡ true → did e ≡ true → ⊥
was_not_done rank s did e order q d = order.once e d q

pub restacked_in_order : (S : Tables) (rank : Prefix → ℕ) (e : Prefix) (o : ℕ) (s t : State) (did : Prefix → Bool) → IsRanked S rank → InOrder rank s did → IsLeast rank s e → Restacked S e o s t → InOrder rank t (did_also e did)
restacked_in_order S rank e o s t did sound order least r = record {
  once = λ d dd q. (at_turn d d dd q).0 refl;
  behind = λ d x dd q. (at_turn d x dd q).1;
}
  where
    apart_by_rank : (a b : Prefix) → rank a < rank b → a ≡ b → ⊥
    apart_by_rank a b lt is = let loop : rank b < rank b = subst (λ i. rank i < rank b) is lt in omega arith

    here : (x : Prefix) → t.queued x ≡ true → (e ≡ x → ⊥) × (rank e ≤ rank x)
    here x q = ⊎_elim
        (λ (a : (s.queued x ≡ true) × (x ≡ e → ⊥)). ((λ is. a.1 (sym is)), least.least x a.0))
        (λ (lead : wakes S x e ≡ true). let lt : rank e < rank x = (sound.falls x e lead).1 in (apart_by_rank e x lt, omega arith))
        (who_is_queued S e o s t r x q)

    there : (d x : Prefix) → did d ≡ true → t.queued x ≡ true → (d ≡ x → ⊥) × (rank d ≤ rank x)
    there d x old q = ⊎_elim
        (λ (a : (s.queued x ≡ true) × (x ≡ e → ⊥)). ((λ is. order.once x (subst (λ i. did i ≡ true) is old) a.0), order.behind d x old a.0))
        (λ (lead : wakes S x e ≡ true).
        let lt : rank e < rank x = (sound.falls x e lead).1 in
        let le : rank d ≤ rank e = order.behind d e old least.queued in
        let l : rank d < rank x = omega arith in
        (apart_by_rank d x l, omega arith))
        (who_is_queued S e o s t r x q)

    at_turn : (d x : Prefix) → did_also e did d ≡ true → t.queued x ≡ true → (d ≡ x → ⊥) × (rank d ≤ rank x)
    at_turn d x dd q = ⊎_elim
        (λ (is : same_prefix d e ≡ true). let same : d ≡ e = (same_prefix-Decides d e).0 is in subst (λ i. (i ≡ x → ⊥) × (rank i ≤ rank x)) (sym same) (here x q))
        (λ (old : did d ≡ true). there d x old q)
        (or_cases (same_prefix d e) (did d) dd)

pub removed_in_order : (rank : Prefix → ℕ) (e : Prefix) (s t : State) (did : Prefix → Bool) → InOrder rank s did → IsLeast rank s e → Removed e s t → InOrder rank t (did_also e did)
removed_in_order rank e s t did order least r = record {
  once = λ d dd q. (at_turn d d dd q).0 refl;
  behind = λ d x dd q. (at_turn d x dd q).1;
}
  where
    at_turn : (d x : Prefix) → did_also e did d ≡ true → t.queued x ≡ true → (d ≡ x → ⊥) × (rank d ≤ rank x)
    at_turn d x dd q =
        let both = and_both (s.queued x) (not (same_prefix x e)) (sym (r.queue x) ∙ q) in
        ⊎_elim
        (λ (is : same_prefix d e ≡ true). let same : d ≡ e = (same_prefix-Decides d e).0 is in subst (λ i. (i ≡ x → ⊥) × (rank i ≤ rank x)) (sym same) ((λ at. apart_of x e both.1 (sym at)), least.least x both.0))
        (λ (old : did d ≡ true). ((λ is. order.once x (subst (λ i. did i ≡ true) is old) both.0), order.behind d x old both.0))
        (or_cases (same_prefix d e) (did d) dd)

-- a change begins anew: whatever is queued, nothing had its turn
pub begun_in_order : (rank : Prefix → ℕ) (s : State) → InOrder rank s (λ d. false)
begun_in_order rank s = record { once = λ d dd q. absurd (true≢false (sym dd)); behind = λ d x dd q. absurd (true≢false (sym dd)) }

-- where all that hasn't had its turn is queued, a turn wakes nobody new
pub woken_are_queued : (S : Tables) (rank : Prefix → ℕ) (s : State) (did : Prefix → Bool) (e : Prefix) → IsRanked S rank → InOrder rank s did → IsLeast rank s e → ((d : Prefix) → has_entry S d ≡ true → s.queued d ≡ false → did d ≡ true) → (d : Prefix) → wakes S d e ≡ true → s.queued d ≡ true
woken_are_queued S rank s did e sound order least waiting d lead =
    elim (either (s.queued d)) [
      | inl q ↦ q
      | inr q ↦ absurd (
          let up : rank e < rank d = (sound.falls d e lead).1 in
          let down : rank d ≤ rank e = order.behind d e (waiting d (sound.effective d e lead) q) least.queued in
          omega (arith, up, down))
    ]
