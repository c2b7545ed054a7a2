-- What sixteen puts leave of an object's buckets, and of others'.
use Rattle.std.proofs.Common.{◌≡◌, ◌≢◌, ℕ, zero, suc, ◌+◌, ◌<◌, inl, inr, List, [], ◌∷◌, length, refl, sym, ap, ◌∙◌, subst, arith}
use Rattle.fib_core.specs.declared.word.Word.{Word}
use Rattle.fib_plane_view.specs.declared.put.Put.{Put}
use Rattle.fib_plane_view.specs.declared.put.Put.TheVariants as puts
use Rattle.fib_plane_view.specs.View.{View, IsBalance, IsPut, Answered}
use Rattle.fib_stack.specs.Runs.{word_in, put_in, Puts, Settled, IsFilled}

settled_by : (u : View) (o s : ℕ) (w now : Word) (a : Put) → Answered u o s w now a → Settled (u.cell o s) now w a
settled_by u o s w now puts.Same h = h
settled_by u o s w now puts.Stored h = (h.0, h.1)
settled_by u o s w now puts.Dropped h = (h.0, h.1)

settled_as : (b b' n n' w : Word) (a : Put) → b' ≡ b → n' ≡ n → Settled b n w a → Settled b' n' w a
settled_as b b' n n' w a eb en h = subst (λ (x : Word). Settled x n' w a) (sym eb) (subst (λ (x : Word). Settled b x w a) (sym en) h)

none_filled : (u v : View) (o k : ℕ) → v ≡ u → IsFilled u v o k [] []
none_filled u v o k e = subst (λ (w : View). IsFilled u w o k [] []) (sym e) (record {
  at = λ j lt. absurd (omega (arith, lt));
  rest = λ s ne. refl;
  others = λ x s b ne. refl;
  stay = λ x b. b;
  fresh = λ x b. b;
  records = record { record_of = refl; users = refl };
  free = omega arith;
  stored = omega arith;
})

module _ (u m v : View) (o k : ℕ) (w : Word) (ws : List Word) (a : Put) (gave : List Put) (mine : IsBalance u o) (put : IsPut u m o k w a) (rest : IsFilled m v o (suc k) ws gave) where
  stay_put : (x : ℕ) → IsBalance u x → IsBalance m x
  stay_put x b = let h = put.held x ∙ b.0 in (h, put.kinds x (inr (inl h)) ∙ b.1)

  fresh_put : (x : ℕ) → IsBalance m x → IsBalance u x
  fresh_put x b = (sym (put.held x) ∙ b.0, sym (put.kinds x (inr (inl b.0))) ∙ b.1)

  here : v.cell o k ≡ m.cell o k
  here = rest.rest k (λ j lt e. absurd (omega (arith, e)))

  later : (s : ℕ) → s ≢ k → m.cell o s ≡ u.cell o s
  later s ne = put.others o s (λ _ e. ne e) (inr (inl (stay_put o mine).0))

  at_each : (j : ℕ) → j < suc (length ws) → Settled (u.cell o (k + j)) (v.cell o (k + j)) (word_in (w ∷ ws) j) (put_in (a ∷ gave) j)
  at_each zero lt =
      let e : k + zero ≡ k = omega arith in
      settled_as (u.cell o k) (u.cell o (k + zero)) (v.cell o k) (v.cell o (k + zero)) w a (ap (u.cell o) e) (ap (v.cell o) e) (settled_as (u.cell o k) (u.cell o k) (m.cell o k) (v.cell o k) w a refl here (settled_by u o k w (m.cell o k) a put.answered))
  at_each (suc j) lt =
      let e : k + suc j ≡ suc k + j = omega arith in
      let ne : suc k + j ≢ k = λ is. absurd (omega (arith, is)) in
      let lt' : j < length ws = omega (arith, lt) in
      settled_as (m.cell o (suc k + j)) (u.cell o (k + suc j)) (v.cell o (suc k + j)) (v.cell o (k + suc j)) (word_in ws j) (put_in gave j) (ap (u.cell o) e ∙ sym (later (suc k + j) ne)) (ap (v.cell o) e) (rest.at j lt')

  pub filled_next : IsFilled u v o k (w ∷ ws) (a ∷ gave)
  filled_next = record {
    at = at_each;
    rest = λ s ne. rest.rest s (λ j lt e. ne (suc j) (omega (arith, lt)) (omega (arith, e))) ∙ later s (λ e. ne zero (omega arith) (omega (arith, e)));
    others = λ x s b ne. rest.others x s (stay_put x b) ne ∙ put.others x s (λ e _. ne e) (inr (inl (stay_put x b).0));
    stay = λ x b. rest.stay x (stay_put x b);
    fresh = λ x b. fresh_put x (rest.fresh x b);
    records = record { record_of = rest.records.record_of ∙ put.records.record_of; users = rest.records.users ∙ put.records.users };
    free = omega (arith, put.free, rest.free);
    stored = omega (arith, put.stores.more, rest.stored);
  }

pub filled_by : (u v : View) (o k : ℕ) (ws : List Word) (gave : List Put) → IsBalance u o → Puts u o k ws gave v → IsFilled u v o k ws gave
filled_by u v o k [] [] mine h = none_filled u v o k h
filled_by u v o k [] (a ∷ gave) mine h = absurd h
filled_by u v o k (w ∷ ws) [] mine h = absurd h
filled_by u v o k (w ∷ ws) (a ∷ gave) mine h =
    let next : IsBalance h.0 o = (h.1.held o ∙ mine.0, h.1.kinds o (inr (inl (h.1.held o ∙ mine.0))) ∙ mine.1) in
    filled_next u h.0 v o k w ws a gave mine h.1 (filled_by h.0 v o (suc k) ws gave next h.2)

pub settled_at : (u v : View) (o : ℕ) (ws : List Word) (gave : List Put) → IsFilled u v o 0 ws gave → (k : ℕ) → k < length ws → Settled (u.cell o k) (v.cell o k) (word_in ws k) (put_in gave k)
settled_at u v o ws gave f k lt =
    let e : k ≡ 0 + k = omega arith in
    settled_as (u.cell o (0 + k)) (u.cell o k) (v.cell o (0 + k)) (v.cell o k) (word_in ws k) (put_in gave k) (ap (u.cell o) e) (ap (v.cell o) e) (f.at k lt)
