-- What is queued is listed, and keyed anew.
use Rattle.std.proofs.Common.{inl, inr, ⊎_elim, ◌≡◌, ◌⊎◌, ℕ, zero, suc, ◌+◌, ◌<◌, ◌≤◌, Bool, true, false, true≢false, ◌||◌, List, [], ◌∷◌, ◌++◌, length, take, get_or, refl, sym, ap, ◌∙◌, arith}
use Rattle.std.specs.Prelude.{Option, Some, None, option_map, if◌then◌else◌, is_some, slice_get}
use Rattle.fib_addr.specs.Prefixes.{Prefix, same_prefix}
use Rattle.fib_addr.proofs.PrefixLaws.{same_prefix-Decides}
use Rattle.fib_stack_queue.specs.Queues.{rank_in}
use Rattle.fib_stack_queue.specs.declared.order.Queued.{Queued}
use Rattle.fib_stack_waking.specs.Waking.{AreRanked, are_among}
use Rattle.fib_stack_waking.proofs.Woken.{among_next}

-- one more of a list
next_of : {A : Type 0} (xs : List A) (i : ℕ) (x : A) → slice_get xs i ≡ Some x → take (suc i) xs ≡ take i xs ++ x ∷ []
next_of {A = A} [] i x at = absurd (past i at)
  where
    past : (j : ℕ) → slice_get [] j ≡ Some x → ⊥
    past zero h = let bad : None ≡ Some x = h in cc
    past (suc j) h = let bad : None ≡ Some x = h in cc
next_of {A = A} (y ∷ xs) zero x at = let same : Some y ≡ Some x = at in ap (λ z. z ∷ []) (inside y same)
  where
    inside : (z : A) → Some z ≡ Some x → z ≡ x
    inside z e = cc
next_of (y ∷ xs) (suc i) x at = ap (λ l. y ∷ l) (next_of xs i x at)

pub one_more : {A : Type 0} (xs : List A) (i : ℕ) (x : A) → slice_get xs i ≡ Some x → take (i + 1) xs ≡ take i xs ++ x ∷ []
one_more xs i x at = let plus : i + 1 ≡ suc i = omega arith in ap (λ n. take n xs) plus ∙ next_of xs i x at

pub take_all : {A : Type 0} (xs : List A) (i : ℕ) → length xs ≤ i → take i xs ≡ xs
take_all [] zero le = refl
take_all [] (suc i) le = refl
take_all (x ∷ xs) zero le = absurd (omega (arith, le))
take_all (x ∷ xs) (suc i) le = ap (λ l. x ∷ l) (take_all xs i (omega (arith, le)))

still_some : (k : ℕ) (o : Option ℕ) → is_some (option_map (λ _. k) o) ≡ is_some o
still_some k None = refl
still_some k (Some r) = refl

pub rekeyed_queued : (b : Bool) (k : ℕ) (new now first : Option ℕ) → new ≡ (if b then option_map (λ _. k) now else now) → is_some now ≡ is_some first → is_some new ≡ is_some first
rekeyed_queued true k new now first e h = ap is_some e ∙ still_some k now ∙ h
rekeyed_queued false k new now first e h = ap is_some e ∙ h

the_new : (k r : ℕ) (o : Option ℕ) → option_map (λ _. k) o ≡ Some r → r ≡ k
the_new k r None e = absurd (let bad : None ≡ Some r = e in cc)
the_new k r (Some n) e = let both : Some k ≡ Some r = e in cc

pub rekeyed_rank : (rank : Prefix → ℕ) (qs : List Queued) (i : ℕ) (q : Queued) (d : Prefix) (new now first : Option ℕ) (k r : ℕ) → i < length qs → get_or qs i q ≡ q
    → new ≡ (if same_prefix q.prefix d then option_map (λ _. k) now else now) → k ≡ rank q.prefix
    → ((n : ℕ) → now ≡ Some n → (n ≡ rank d) ⊎ ((first ≡ Some n) × (are_among (take i qs) d ≡ false)))
    → new ≡ Some r → (r ≡ rank d) ⊎ ((first ≡ Some r) × (are_among (take (i + 1) qs) d ≡ false))
rekeyed_rank rank qs i q d new now first k r lt here e is before at = by (same_prefix q.prefix d) refl
  where
    by : (b : Bool) → same_prefix q.prefix d ≡ b → (r ≡ rank d) ⊎ ((first ≡ Some r) × (are_among (take (i + 1) qs) d ≡ false))
    by true t = inl (the_new k r now (sym (ap (λ b. if b then option_map (λ _. k) now else now) t) ∙ sym e ∙ at) ∙ is ∙ ap rank ((same_prefix-Decides q.prefix d).0 t))
    by false f = ⊎_elim
        (λ (a : r ≡ rank d). inl a)
        (λ (b : (first ≡ Some r) × (are_among (take i qs) d ≡ false)). inr (b.0, among_next qs i q d lt here ∙ ap (λ c. c || same_prefix q.prefix d) b.1 ∙ f))
        (before r (sym (ap (λ b. if b then option_map (λ _. k) now else now) f) ∙ sym e ∙ at))

-- what is queued stands in the queue's list
ranked_among : (qs : List Queued) (d : Prefix) (r : ℕ) → rank_in qs d ≡ Some r → are_among qs d ≡ true
ranked_among [] d r at = absurd (let bad : None ≡ Some r = at in cc)
ranked_among (q ∷ qs) d r at = by (ranked_among qs d r) (same_prefix q.prefix d) refl
  where
    by : (rank_in qs d ≡ Some r → are_among qs d ≡ true) → (b : Bool) → same_prefix q.prefix d ≡ b → same_prefix q.prefix d || are_among qs d ≡ true
    by later true t = ap (λ c. c || are_among qs d) t
    by later false f = ap (λ c. c || are_among qs d) f ∙ later (sym (ap (λ b. if b then Some q.rank else rank_in qs d) f) ∙ at)

-- after both loops each has its rank
pub ranked_anew : (rank : Prefix → ℕ) (before listed mid after : List Queued) → listed ≡ before
    → ((d : Prefix) (r : ℕ) → rank_in mid d ≡ Some r → (r ≡ rank d) ⊎ ((rank_in before d ≡ Some r) × (are_among listed d ≡ false)))
    → ((d : Prefix) (r : ℕ) → rank_in after d ≡ Some r → (rank_in mid d ≡ Some r) ⊎ (r ≡ rank d)) → AreRanked rank after
ranked_anew rank before listed mid after all keyed came d r at = ⊎_elim
    (λ (m : rank_in mid d ≡ Some r). ⊎_elim
    (λ (is : r ≡ rank d). is)
    (λ (was : (rank_in before d ≡ Some r) × (are_among listed d ≡ false)). absurd (true≢false (sym (ranked_among before d r was.0) ∙ ap (λ l. are_among l d) (sym all) ∙ was.1)))
    (keyed d r m))
    (λ (is : r ≡ rank d). is)
    (came d r at)
