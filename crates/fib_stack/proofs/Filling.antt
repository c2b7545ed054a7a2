-- One put more.
use Rattle.std.proofs.Common.{◌≡◌, ◌≢◌, ℕ, zero, suc, ◌+◌, ◌<◌, inl, inr, true≢false, List, [], ◌∷◌, ◌++◌, length, take, set, get_or, refl, sym, ap, ◌∙◌, subst, arith}
use Rattle.std.specs.Prelude.{◌⊎◌}
use Rattle.fib_core.specs.Walk.{hop_of}
use Rattle.fib_core.specs.declared.word.Word.{Word}
use Rattle.fib_core.specs.declared.word.Word.TheVariants as words
use Rattle.fib_core_steady.specs.Names.{Names}
use Rattle.fib_plane_view.specs.declared.put.Put.{Put}
use Rattle.fib_plane_view.specs.Promise.{Promise, Allows, IsBegun, EndsIn, IsEndOf, MayPut}
use Rattle.fib_plane_view.specs.View.{View, IsBalance, IsPlane, HasKind, IsPut, adjacency_end}
use Rattle.fib_stack.specs.Buckets.{IsLooseBucket}
use Rattle.fib_stack.specs.Runs.{word_in, Puts, IsReady, AreReady}
use Rattle.fib_stack.proofs.Promising.{may_put, put_serves}

module _ (p : Promise) (u v : View) (o s : ℕ) (w : Word) (a : Put) (plane : IsPlane u) (mine : IsBalance u o) (put : IsPut u v o s w a) where
  pub balance_still : (x : ℕ) → IsBalance u x → IsBalance v x
  balance_still x b = let h = put.held x ∙ b.0 in (h, put.kinds x (inr (inl h)) ∙ b.1)

  kind_still : (z : Word) → HasKind u o z → HasKind v o z
  kind_still (words.ToPly c) h = absurd (true≢false (sym h.0 ∙ mine.1))
  kind_still (words.ToBalance x) h = balance_still x h
  kind_still (words.ToAdjacency x) h = ((balance_still o mine).1, (h.1.0, ap (λ f. f h.1.0) put.records.record_of ∙ h.1.1))
  kind_still words.Drop h = (balance_still o mine).1
  kind_still words.Receive h = (balance_still o mine).1
  kind_still (words.Glean i) h = (balance_still o mine).1
  kind_still (words.Plain i) h = absurd h

  ends_still : (z : Word) → HasKind u o z → EndsIn p u z → EndsIn p v z
  ends_still words.Drop h e = e
  ends_still words.Receive h e = e
  ends_still (words.Glean i) h e = e
  ends_still (words.ToPly c) h e = e
  ends_still (words.ToBalance x) h e = e
  ends_still (words.Plain i) h e = e
  ends_still (words.ToAdjacency x) h e = subst (IsEndOf p) (sym same) e
    where
      cell_same : (t : ℕ) → v.cell x t ≡ u.cell x t
      cell_same t = put.others x t (λ at _. true≢false (sym mine.0 ∙ ap u.is_held (sym at) ∙ (plane.records h.1.0 x h.1.1).0)) (inr (inr (inl (h.1.0, ap (λ f. f h.1.0) put.records.record_of ∙ h.1.1))))

      same : adjacency_end v x ≡ adjacency_end u x
      same = ap (λ z. hop_of z (v.cell x 1) (v.cell x 2)) (cell_same 0) ∙ ap (λ z. hop_of (u.cell x 0) z (v.cell x 2)) (cell_same 1) ∙ ap (λ z. hop_of (u.cell x 0) (u.cell x 1) z) (cell_same 2)

  ready_still : (n : Names) (k : ℕ) (z : Word) → k ≢ s → IsReady p n.balance u o k z → IsReady p n.balance v o k z
  ready_still n k z ne r = record {
    kind = kind_still z r.kind;
    ends = ends_still z r.kind r.ends;
    loose = by_case r.loose;
  }
    where
      by_case : (u.cell o k ≡ z) ⊎ IsLooseBucket p.versions n.balance o k → (v.cell o k ≡ z) ⊎ IsLooseBucket p.versions n.balance o k
      by_case (inl e) = inl (put.others o k (λ _ at. ne at) (inr (inl (balance_still o mine).0)) ∙ e)
      by_case (inr l) = inr l

pub may_next : (p : Promise) (n : Names) (u : View) (o s : ℕ) (ws : List Word) → Allows p → IsBegun p → IsPlane u → IsBalance u o → s < 16 → AreReady p n u o s ws → MayPut p u o s (word_in ws s)
may_next p n u o s ws allowed begun plane mine lt r = let q = r.ready s (omega arith) lt in may_put p n u o s (word_in ws s) allowed begun r.serves plane mine lt q.kind q.ends q.loose

pub ready_next : (p : Promise) (n : Names) (u v : View) (o s : ℕ) (ws : List Word) (a : Put) → Allows p → IsBegun p → IsPlane u → IsBalance u o → s < 16 → IsPut u v o s (word_in ws s) a → AreReady p n u o s ws → AreReady p n v o (s + 1) ws
ready_next p n u v o s ws a allowed begun plane mine lt put r = record {
  serves = let q = r.ready s (omega arith) lt in put_serves p n u v o s (word_in ws s) a begun r.serves plane mine lt q.kind q.loose put;
  ready = λ k le lt'. ready_still p u v o s (word_in ws s) a plane mine put n k (word_in ws k) (λ e. absurd (omega (arith, e, le))) (r.ready k (omega (arith, le)) lt');
}

snoc : (u : View) (o k j : ℕ) (xs : List Word) (gave : List Put) (v : View) (x : Word) (a : Put) (w : View) → j ≡ length xs + k → Puts u o k xs gave v → IsPut v w o j x a → Puts u o k (xs ++ x ∷ []) (gave ++ a ∷ []) w
snoc u o k j [] [] v x a w e is p = (w, subst (λ (i : ℕ). IsPut u w o i x a) (let e' : j ≡ k = omega (arith, e) in e') (subst (λ (q : View). IsPut q w o j x a) is p), refl)
snoc u o k j [] (b ∷ bs) v x a w e h p = absurd h
snoc u o k j (y ∷ ys) [] v x a w e h p = absurd h
snoc u o k j (y ∷ ys) (b ∷ bs) v x a w e h p = (h.0, h.1, snoc h.0 o (suc k) j ys bs v x a w (omega (arith, e)) h.2 p)

take_next : (xs : List Word) (i : ℕ) (d : Word) → i < length xs → (take (suc i) xs ≡ take i xs ++ get_or xs i d ∷ []) × (length (take i xs) ≡ i)
take_next [] i d lt = absurd (omega arith)
take_next (x ∷ xs) zero d lt = (refl, refl)
take_next (x ∷ xs) (suc i) d lt = let below : i < length xs = omega arith in let r = take_next xs i d below in (ap (λ l. x ∷ l) r.0, ap suc r.1)

take_set : (xs : List Put) (i : ℕ) (a : Put) → i < length xs → take (suc i) (set xs i a) ≡ take i xs ++ a ∷ []
take_set [] i a lt = absurd (omega arith)
take_set (x ∷ xs) zero a lt = refl
take_set (x ∷ xs) (suc i) a lt = let below : i < length xs = omega arith in ap (λ l. x ∷ l) (take_set xs i a below)

pub puts_next : (u v w : View) (o : ℕ) (ws : List Word) (gave : List Put) (i : ℕ) (d : Word) (a : Put) → i < length ws → i < length gave → Puts u o 0 (take i ws) (take i gave) v → IsPut v w o i (get_or ws i d) a → Puts u o 0 (take (i + 1) ws) (take (i + 1) (set gave i a)) w
puts_next u v w o ws gave i d a lt lt' h put =
    let t = take_next ws i d lt in
    let e : i + 1 ≡ suc i = omega arith in
    rw (e, t.0, take_set gave i a lt') (snoc u o 0 i (take i ws) (take i gave) v (get_or ws i d) a w (omega (arith, t.1)) h put)

pub puts_none : (u : View) (o : ℕ) (ws : List Word) (gave : List Put) → Puts u o 0 (take 0 ws) (take 0 gave) u
puts_none u o [] [] = refl
puts_none u o [] (a ∷ gave) = refl
puts_none u o (w ∷ ws) [] = refl
puts_none u o (w ∷ ws) (a ∷ gave) = refl
