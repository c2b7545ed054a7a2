-- A prefix is removed.
use Rattle.std.proofs.Common.{◌≡◌, ℕ, ◌+◌, ◌*◌, ◌-◌, ◌/◌, ◌%◌, ◌^◌, ◌<◌, ◌≤◌, ◌⊎◌, inl, inr, ⊎_elim, Bool, eq-eqb, ne_eqb, Some, None, refl, sym, ap, ◌∙◌, subst, arith}
use native.Mathlib.Decide.{ℕ_discrete}
use mathlib.Core.Logic.{dite}
use Rattle.fib_plane_view.specs.Promise.{Promise}
use Rattle.fib_plane_view.specs.View.{View}
use Rattle.fib_ply.specs.Prefixes.{Look, Needs}
use Rattle.fib_ply.specs.Plies.{IsMine, IsAt, IsTable}
use Rattle.fib_ply.specs.inner.Change.{IsSpent, IsStoredFew, ahead, Prunes, Agree, removed, IsPromised, IsPruned, CanPrune}
use Rattle.fib_ply.specs.Served.{Watch, Paths}
use Rattle.fib_core_steady.specs.Names.{IsBelow}
use Rattle.std.specs.Prelude.{length}
use Rattle.fib_ply.proofs.Sets.{begins, ends}
use Rattle.fib_ply.proofs.Adds.{block_of, at_same, first_fits, ahead_few}

module _ (look : Look) (len top : ℕ) where
  pub removed_else : Agree look (removed look len top) len top
  removed_else l c not = dite (ℕ_discrete l len)
      (λ e. dite (ℕ_discrete c top) (λ f. absurd (not e f)) (λ f. rw (eq-eqb l len e, ne_eqb c top f) refl))
      (λ e. rw (ne_eqb l len e) refl)

  removed_at : (l c : ℕ) → l ≡ len → c ≡ top → removed look len top l c ≡ None
  removed_at l c e f = rw (eq-eqb l len e, eq-eqb c top f) refl

  none_some : (p : ℕ) → None ≡ Some p → ⊥
  none_some p e = cc

  removed_was : (l c p : ℕ) → removed look len top l c ≡ Some p → look l c ≡ Some p
  removed_was l c p h = dite (ℕ_discrete l len)
      (λ e. dite (ℕ_discrete c top) (λ f. absurd (none_some p (sym (removed_at l c e f) ∙ h))) (λ f. sym (removed_else l c (λ _ g. f g)) ∙ h))
      (λ e. sym (removed_else l c (λ g _. e g)) ∙ h)

  needs_was : (d w : ℕ) → Needs (removed look len top) d w → Needs look d w
  needs_was d w h = (h.0, h.1, h.2, h.3, h.4, removed_was (4 * d + h.0 + 1) h.1 h.2 h.5)

  needs_or : (d w : ℕ) → len ≤ 32 → Needs look d w → Needs (removed look len top) d w ⊎ IsBelow (top * 2 ^ (32 - len)) d w
  needs_or d w le h = dite (ℕ_discrete (4 * d + h.0 + 1) len)
      (λ e. dite (ℕ_discrete h.1 top)
      (λ f. let r : len - 4 * d ≡ h.0 + 1 = omega arith in let m : 4 * d ≤ len = omega arith in inr (block_of look len top 0 d m le ∙ ap (λ i. top / 2 ^ i) r ∙ ap (λ b. b / 2 ^ (h.0 + 1)) (sym f) ∙ h.4))
      (λ f. inl (h.0, h.1, h.2, h.3, h.4, removed_else (4 * d + h.0 + 1) h.1 (λ _ m. f m) ∙ h.5)))
      (λ e. inl (h.0, h.1, h.2, h.3, h.4, removed_else (4 * d + h.0 + 1) h.1 (λ m _. e m) ∙ h.5))

  module _ (other : Look) (x to : ℕ) (u : View) (some : 1 ≤ len) (le : len ≤ 32) (small : top < 2 ^ len) (is : other ≡ removed look len top) (x_is : x ≡ top * 2 ^ (32 - len)) (to_is : to ≡ (top + 1) * 2 ^ (32 - len))
      (wants : Watch) (there : ℕ → ℕ → Bool) (n : Paths) (table : IsTable wants look there n u) (promise : IsPromised wants look (removed look len top)) where
    opens : IsAt wants there look (removed look len top) (top * 2 ^ (32 - len)) n u
    opens = begins wants there look (removed look len top) len top removed_else le n u table.at
        (λ d w h. table.at.wider d w (needs_was (d + 1) w h))
        promise
        (record {
          balance = λ l c p h. table.at.sound.balance l c p (removed_was l c p h);
          whole = (table.at.sound.whole.0, removed_else 0 0 (λ e _. absurd (omega (arith, e))) ∙ table.at.sound.whole.1);
          still = λ z l c p t h lt. table.at.sound.still z l c p t (removed_was l c p h) lt;
        })

    starts_at : IsAt wants there look other x n u
    starts_at = at_same wants there look (removed look len top) other (top * 2 ^ (32 - len)) x n u is x_is opens

    pub remove_starts : (p : Promise) → wants.promise ≡ p → 16 * length n.all ≤ u.spare → (w : Watch) × (there : ℕ → ℕ → Bool) × (old : Look) × (n : Paths) × IsAt w there old other x n u × (w.promise ≡ p) × (ahead n u x ≤ u.spare)
    remove_starts p same room = (wants, there, look, n, starts_at, same, (let f = ahead_few n u x in omega (arith, f, room)))

    module _ (v : View) (pushed : (wants : Watch) (there : ℕ → ℕ → Bool) (old : Look) (n : Paths) → IsAt wants there old other x n u → (pos : ℕ) × (to ≤ pos) × IsAt wants there old other pos n v × IsSpent n u v x pos) where
      after : (pos : ℕ) × (to ≤ pos) × IsAt wants there look other pos n v × IsSpent n u v x pos
      after = pushed wants there look n starts_at

      closes : IsPruned wants (removed look len top) (top * 2 ^ (32 - len)) there n v
      closes = record {
        at = ends wants there look (removed look len top) len top removed_else le n v after.0 (subst (λ (i : ℕ). i ≤ after.0) to_is after.1) (at_same wants there look other (removed look len top) after.0 after.0 n v (sym is) refl after.2);
        extra = λ e w h. let k = table.exact e w h in ⊎_elim (λ (q : Needs (removed look len top) (e + 1) w). inl q) (λ (q : IsBelow (top * 2 ^ (32 - len)) (e + 1) w). inr (omega (arith, k.3), q)) (needs_or (e + 1) w le k);
      }

      pub pruned_here : IsPruned wants other ((top * 2 ^ (32 - len)) % 4294967296) there n v
      pruned_here = subst (λ (i : ℕ). IsPruned wants other i there n v) (sym (first_fits top len le small)) (subst (λ (l : Look). IsPruned wants l (top * 2 ^ (32 - len)) there n v) (sym is) closes)

      pub remove_prunes : (p : Promise) → wants.promise ≡ p → 16 * length n.all ≤ u.spare → CanPrune p other ((top * 2 ^ (32 - len)) % 4294967296) v
      remove_prunes p same room = (wants, there, n, pruned_here, same, (let f = ahead_few n u x in omega (arith, f, room, after.3.spare, after.3.same)))

      pub remove_ends : (w : View) (count : ℕ) → count ≤ 7 → Prunes other ((top * 2 ^ (32 - len)) % 4294967296) v w count
          → (after : ℕ → ℕ → Bool) × (m : Paths) × IsTable wants other after m w × (length m.all + count ≡ length n.all) × IsStoredFew n u w × (IsMine n u → IsMine m w)
      remove_ends w count few prunes =
          let h = prunes wants there n pruned_here in (
            h.0,
            h.1,
            h.2,
            h.3.plies,
            record {
              more = omega (arith, after.3.more, h.3.more);
              few = (let f = ahead_few n u x in omega (arith, f, few, after.3.stored, h.3.stored));
            },
            λ m. h.3.mine (after.3.mine m),
          )
