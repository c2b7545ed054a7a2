-- Two sets of prefixes that differ at one prefix.
use Rattle.std.proofs.Common.{◌≡◌, ℕ, zero, suc, ◌+◌, ◌*◌, ◌-◌, ◌/◌, ◌^◌, ◌<◌, ◌≤◌, inl, inr, Bool, true, sym, ap, ◌∙◌, subst, arith}
use Rattle.std.proofs.lemmas.Bool.{cases_lt}
use Rattle.std.proofs.lemmas.Nat.{shr-shr}
use Rattle.std.proofs.Math.Nat.{div-one, div-mul-le_self}
use Rattle.fib_ply.proofs.Pushes.{block_end}
use Rattle.fib_core.specs.declared.word.Word.{Word}
use Rattle.fib_core.specs.declared.word.Word.TheVariants.{Drop, ToPly, ToBalance, Plain, Receive, Glean, ToAdjacency}
use Rattle.fib_plane_view.specs.View.{View}
use Rattle.fib_ply.specs.Prefixes.{Look, IsAnswer, Needs}
use Rattle.fib_ply.specs.Plies.{Mixed, Has, IsAt, IsSound}
use Rattle.fib_ply.specs.inner.Change.{Agree}
use Rattle.fib_ply.specs.Served.{Watch, Wanted, Paths}
use Rattle.fib_ply.specs.Fitting.{IsFilled, Fits}
use Rattle.fib_core_promise.specs.Matches.{best_block, or_else}

-- what holds of answers may be weakened
module _ (K L N : ℕ → ℕ → Type 0) (weaker : (a p : ℕ) → a < 2 ^ 32 → K a p → L a p) (n : Paths) where
  filled_map : (x s : ℕ) (w : Word) → IsFilled K N n x s w → IsFilled L N n x s w
  filled_map x s (ToPly c) h = h
  filled_map x s (ToBalance o) h = (h.0, λ a i. weaker a o i.0 (h.1 a i))
  filled_map x s Drop h = h
  filled_map x s (Plain v) h = h
  filled_map x s Receive h = h
  filled_map x s (Glean v) h = h
  filled_map x s (ToAdjacency v) h = h

  pub fits_map : (u : View) → Fits K N n u → Fits L N n u
  fits_map u fits = record { root = fits.root; held = fits.held; apart = fits.apart; needed = fits.needed; upward = fits.upward; cells = λ x s is lt. filled_map x s (u.cell x s) (fits.cells x s is lt) }

module _ (old new : Look) (len top : ℕ) (agree : Agree old new len top) where
  half : (c n : ℕ) → len ≤ n → c / 2 / 2 ^ (n - len) ≡ c / 2 ^ (suc n - len)
  half c n le = shr-shr c 1 (n - len) ∙ ap (λ i. c / 2 ^ i) (let e : 1 + (n - len) ≡ suc n - len = omega arith in e)

  -- a block outside of the prefix has the same answer
  pub same_best : (n c : ℕ) → (len ≤ n → c / 2 ^ (n - len) ≡ top → ⊥) → best_block new n c ≡ best_block old n c
  unfolding best_block
  same_best zero c out = agree 0 c (λ e f. out (omega (arith, e)) (let g : 0 - len ≡ 0 = omega arith in rw (g, div-one) f))
  same_best (suc n) c out =
      let here : new (suc n) c ≡ old (suc n) c = agree (suc n) c (λ e f. out (omega (arith, e)) (let g : suc n - len ≡ 0 = omega (arith, e) in rw (g, div-one) f)) in
      let rest : best_block new n (c / 2) ≡ best_block old n (c / 2) = same_best n (c / 2) (λ le f. out (omega (arith, le)) (sym (half c n le) ∙ f)) in
      ap (λ f. or_else f (best_block new n (c / 2))) here ∙ ap (or_else (old (suc n) c)) rest

  pub same_answer : (a : ℕ) → len ≤ 32 → (a / 2 ^ (32 - len) ≡ top → ⊥) → best_block new 32 a ≡ best_block old 32 a
  same_answer a le out = same_best 32 a (λ _. out)

-- the addresses of a prefix lie together
pub prefix_range : (a top j : ℕ) → a / 2 ^ j ≡ top → (top * 2 ^ j ≤ a) × (a < (top + 1) * 2 ^ j)
prefix_range a top j e = (subst (λ (i : ℕ). i * 2 ^ j ≤ a) e (div-mul-le_self a (2 ^ j)), block_end a top j e)

module _ (wants : Watch) (there : ℕ → ℕ → Bool) (old new : Look) (len top : ℕ) (agree : Agree old new len top) (le : len ≤ 32) (n : Paths) (u : View) where
  -- the change begins at the prefix's first address
  pub begins : IsAt wants there old old 0 n u → ((d w : ℕ) → Needs new (d + 1) w → there (d + 1) w ≡ true) → ((a p : ℕ) → a < 2 ^ 32 → Wanted wants a p → IsAnswer old a p × IsAnswer new a p) → IsSound wants new u → IsAt wants there old new (top * 2 ^ (32 - len)) n u
  begins at wider promised sound = record {
    fits = fits_map (Mixed old old 0) (Mixed old new (top * 2 ^ (32 - len))) (Has there) (λ a p lt m.
        let h : IsAnswer old a p = m.1 (omega arith) in
        (λ below. same_answer old new len top agree a le (λ e. absurd (let r = prefix_range a top (32 - len) e in omega (arith, r.0))) ∙ h, λ _. h)) n u at.fits;
    wider = wider;
    served = at.served;
    kinds = at.kinds;
    promised = promised;
    was = at.was;
    sound = sound;
    kept = at.kept;
    list = at.list;
  }

  -- and ends after its last one
  pub ends : (pos : ℕ) → (top + 1) * 2 ^ (32 - len) ≤ pos → IsAt wants there old new pos n u → IsAt wants there new new 0 n u
  ends pos past at = record {
    fits = fits_map (Mixed old new pos) (Mixed new new 0) (Has there) (λ a p lt m.
        let h : IsAnswer new a p = elim (cases_lt a pos) [ inl less ↦ m.0 less | inr more ↦ same_answer old new len top agree a le (λ e. absurd (let r = prefix_range a top (32 - len) e in omega (arith, r.1))) ∙ m.1 more ] in
        (λ _. h, λ _. h)) n u at.fits;
    wider = at.wider;
    served = at.served;
    kinds = at.kinds;
    promised = λ a p lt h. let q = at.promised a p lt h in (q.1, q.1);
    was = at.sound;
    sound = at.sound;
    kept = at.kept;
    list = at.list;
  }
