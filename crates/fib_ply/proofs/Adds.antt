-- A prefix is added.
use Rattle.std.proofs.Common.{◌≡◌, ℕ, ◌+◌, ◌*◌, ◌-◌, ◌/◌, ◌%◌, ◌^◌, ◌<◌, ◌≤◌, ◌⊎◌, inl, inr, ⊎_elim, Bool, true, false, true≢false, eq-eqb, ne_eqb, ◌&&◌, not, Some, refl, sym, ap, ◌∙◌, subst, arith}
use Rattle.std.proofs.lemmas.Nat.{shr-shr, shl-shr, shl_whole, mul-le, pow-add}
use Rattle.std.proofs.Math.Nat.{mod-eq_of_lt}
use native.Mathlib.Decide.{ℕ_discrete}
use mathlib.Core.Logic.{dite}
use Rattle.fib_plane_view.specs.Promise.{Promise}
use Rattle.fib_plane_view.specs.View.{View, IsBalance}
use Rattle.fib_ply.specs.Prefixes.{Look, Needs}
use Rattle.fib_ply.specs.Plies.{IsMine, IsAt, IsSound, IsTable}
use Rattle.fib_ply.specs.inner.Change.{IsPaid, IsSpent, IsStoredFew, ahead, links, is_to_ply, end_of, IsGrown, Grows, Agree, added, IsPromised}
use Rattle.fib_ply.specs.Served.{Watch, Paths}
use Rattle.fib_core_steady.specs.Names.{IsBelow}
use Rattle.fib_core.specs.declared.word.Word.TheVariants.{Drop}
use Rattle.std.specs.Prelude.{nat_lt, length}
use Rattle.fib_ply.proofs.Counts.{cells_two}
use Rattle.fib_ply.proofs.Sets.{begins, ends}

module _ (look : Look) (len top o : ℕ) where
  pub added_else : Agree look (added look len top o) len top
  added_else l c not = dite (ℕ_discrete l len)
      (λ e. dite (ℕ_discrete c top) (λ f. absurd (not e f)) (λ f. rw (eq-eqb l len e, ne_eqb c top f) refl))
      (λ e. rw (ne_eqb l len e) refl)

  pub added_at : (l c : ℕ) → l ≡ len → c ≡ top → added look len top o l c ≡ Some o
  added_at l c e f = rw (eq-eqb l len e, eq-eqb c top f) refl

  -- what is there afterwards was there, or is the new one
  pub added_is : (l c p : ℕ) → added look len top o l c ≡ Some p → (look l c ≡ Some p) ⊎ ((l ≡ len) × (c ≡ top) × (o ≡ p))
  added_is l c p h = dite (ℕ_discrete l len)
      (λ e. dite (ℕ_discrete c top) (λ f. inr (e, f, let q = sym (added_at l c e f) ∙ h in cc)) (λ f. inl (sym (added_else l c (λ _ g. f g)) ∙ h)))
      (λ e. inl (sym (added_else l c (λ g _. e g)) ∙ h))

  pub added_still : (l c p : ℕ) → look l c ≡ Some p → (q : ℕ) × (added look len top o l c ≡ Some q)
  added_still l c p h = dite (ℕ_discrete l len)
      (λ e. dite (ℕ_discrete c top) (λ f. (o, added_at l c e f)) (λ f. (p, added_else l c (λ _ g. f g) ∙ h)))
      (λ e. (p, added_else l c (λ g _. e g) ∙ h))

  pub needs_still : (d w : ℕ) → Needs look d w → Needs (added look len top o) d w
  needs_still d w h = let q = added_still (4 * d + h.0 + 1) h.1 h.2 h.5 in (h.0, h.1, q.0, h.3, h.4, q.1)

  -- the block of the prefix's first address at a depth above it
  pub block_of : (e : ℕ) → 4 * e ≤ len → len ≤ 32 → top * 2 ^ (32 - len) / 2 ^ (32 - 4 * e) ≡ top / 2 ^ (len - 4 * e)
  block_of e le le' = let f : 32 - 4 * e ≡ (32 - len) + (len - 4 * e) = omega arith in ap (λ i. top * 2 ^ (32 - len) / 2 ^ i) f ∙ sym (shr-shr (top * 2 ^ (32 - len)) (32 - len) (len - 4 * e)) ∙ ap (λ b. b / 2 ^ (len - 4 * e)) (shl-shr top (32 - len))

  pub needs_is : (d w : ℕ) → len ≤ 32 → Needs (added look len top o) d w → Needs look d w ⊎ ((4 * d + 1 ≤ len) × (top * 2 ^ (32 - len) / 2 ^ (32 - 4 * d) ≡ w))
  needs_is d w le h = ⊎_elim
      (λ (q : look (4 * d + h.0 + 1) h.1 ≡ Some h.2). inl (h.0, h.1, h.2, h.3, h.4, q))
      (λ (q : (4 * d + h.0 + 1 ≡ len) × (h.1 ≡ top) × (o ≡ h.2)).
      let f : len - 4 * d ≡ h.0 + 1 = omega (arith, q.0) in
      let g : 4 * d ≤ len = omega (arith, q.0) in
      inr (omega (arith, q.0), block_of d g le ∙ ap (λ i. top / 2 ^ i) f ∙ ap (λ b. b / 2 ^ (h.0 + 1)) (sym q.1) ∙ h.4))
      (added_is (4 * d + h.0 + 1) h.1 h.2 h.5)

  pub needs_new : (d w : ℕ) → len ≤ 32 → 4 * d + 1 ≤ len → IsBelow (top * 2 ^ (32 - len)) d w → Needs (added look len top o) d w
  needs_new d w le le' below =
      let j : ℕ = len - (4 * d + 1) in
      let e : 4 * d + j + 1 ≡ len = omega arith in
      let f : len - 4 * d ≡ j + 1 = omega arith in
      let g : 4 * d ≤ len = omega arith in
      let le'' : 4 * d + j + 1 ≤ 32 = omega arith in
      (j, top, o, le'', ap (λ i. top / 2 ^ i) (sym f) ∙ sym (block_of d g le) ∙ below, added_at (4 * d + j + 1) top e refl)

  pub sound_added : (wants : Watch) (v : View) → IsSound wants look v → IsBalance v o → (wants.promise.applied ≡ 0 → (t : ℕ) → t < 16 → v.cell o t ≡ Drop) → 1 ≤ len → IsSound wants (added look len top o) v
  sound_added wants v sound kind still some = record {
    balance = λ l c p h. ⊎_elim (λ (q : look l c ≡ Some p). sound.balance l c p q)
        (λ (q : (l ≡ len) × (c ≡ top) × (o ≡ p)). subst (λ (i : ℕ). IsBalance v i) q.2 kind) (added_is l c p h);
    whole = (sound.whole.0, added_else 0 0 (λ e _. absurd (omega (arith, e))) ∙ sound.whole.1);
    still = λ z l c p t h lt. ⊎_elim (λ (q : look l c ≡ Some p). sound.still z l c p t q lt)
        (λ (q : (l ≡ len) × (c ≡ top) × (o ≡ p)). subst (λ (i : ℕ). v.cell i t ≡ Drop) q.2 (still z t lt)) (added_is l c p h);
  }

  module _ (wants : Watch) (u v : View) (count : ℕ) (some : 1 ≤ len) (le : len ≤ 32) (small : top < 2 ^ len) (there : ℕ → ℕ → Bool) (n : Paths) (table : IsTable wants look there n u) (grows : Grows u v (top * 2 ^ (32 - len)) ((len - 1) / 4) count) (kind : IsBalance v o) (still : wants.promise.applied ≡ 0 → (t : ℕ) → t < 16 → v.cell o t ≡ Drop) (promise : IsPromised wants look (added look len top o)) where
    pub grown : (after : ℕ → ℕ → Bool) × (m : Paths) × IsAt wants after look look 0 m v × IsGrown there after (top * 2 ^ (32 - len)) ((len - 1) / 4) ((len - 1) / 4) × IsPaid n m u v count
    grown = grows wants there look look 0 n table.at

    -- the stage at which the cells are pushed
    pub opened : (after : ℕ → ℕ → Bool) × (m : Paths) × IsAt wants after look (added look len top o) (top * 2 ^ (32 - len)) m v × ((e w : ℕ) → after (e + 1) w ≡ true → Needs (added look len top o) (e + 1) w) × IsPaid n m u v count
    opened = let g = grown in (
      g.0,
      g.1,
      begins wants g.0 look (added look len top o) len top added_else le g.1 v g.2
          (λ d w h. ⊎_elim (λ (q : Needs look (d + 1) w). g.3.more (d + 1) w (table.at.wider d w q))
          (λ (q : (4 * (d + 1) + 1 ≤ len) × (top * 2 ^ (32 - len) / 2 ^ (32 - 4 * (d + 1)) ≡ w)). subst (λ (i : ℕ). g.0 (d + 1) i ≡ true) q.1 (g.3.down d (omega (arith, q.0))))
          (needs_is (d + 1) w le h))
          promise
          (sound_added wants v g.2.sound kind still some),
      (λ e w h. ⊎_elim (λ (q : there (e + 1) w ≡ true). needs_still (e + 1) w (table.exact e w q))
          (λ (q : (1 ≤ e + 1) × (e + 1 ≤ (len - 1) / 4) × IsBelow (top * 2 ^ (32 - len)) (e + 1) w). needs_new (e + 1) w le (omega (arith, q.1)) q.2)
          (g.3.only (e + 1) w h)),
      g.4,
    )

-- the numbers do not wrap
pub first_fits : (top len : ℕ) → len ≤ 32 → top < 2 ^ len → (top * 2 ^ (32 - len)) % 4294967296 ≡ top * 2 ^ (32 - len)
first_fits top len le lt = shl_whole top len (32 - len) 32 lt (omega arith)

pub from_fits : (top len : ℕ) → len ≤ 32 → top < 2 ^ len → (top * 2 ^ (32 - len)) % 18446744073709551616 ≡ top * 2 ^ (32 - len)
from_fits top len le lt = shl_whole top len (32 - len) 64 lt (omega arith)

pub last_below : (top len : ℕ) → len ≤ 32 → top < 2 ^ len → (top + 1) * 2 ^ (32 - len) ≤ 4294967296
last_below top len le lt =
    let h : (top + 1) * 2 ^ (32 - len) ≤ 2 ^ len * 2 ^ (32 - len) = mul-le (top + 1) (2 ^ (32 - len)) (2 ^ len) (2 ^ (32 - len)) (omega arith) (omega arith) in
    let e : len + (32 - len) ≡ 32 = omega arith in
    let f : 2 ^ len * 2 ^ (32 - len) ≡ 4294967296 = sym (pow-add 2 len (32 - len)) ∙ ap (λ i. 2 ^ i) e in
    omega arith

pub to_fits : (top len : ℕ) → len ≤ 32 → top < 2 ^ len → ((top + 1) * 2 ^ (32 - len)) % 18446744073709551616 ≡ (top + 1) * 2 ^ (32 - len)
to_fits top len le lt = let h : (top + 1) * 2 ^ (32 - len) ≤ 4294967296 = last_below top len le lt in mod-eq_of_lt (omega arith)

-- the change is done
pub closed : (wants : Watch) (there : ℕ → ℕ → Bool) (old new : Look) (len top pos : ℕ) → Agree old new len top → len ≤ 32 → (n : Paths) (u : View) → ((e w : ℕ) → there (e + 1) w ≡ true → Needs new (e + 1) w) → (top + 1) * 2 ^ (32 - len) ≤ pos → IsAt wants there old new pos n u → IsTable wants new there n u
closed wants there old new len top pos agree le n u exact past at = record { at = ends wants there old new len top agree le n u pos past at; exact = exact }

-- the same stage, named otherwise
pub at_same : (wants : Watch) (there : ℕ → ℕ → Bool) (old new other : Look) (pos x : ℕ) (n : Paths) (u : View) → other ≡ new → x ≡ pos → IsAt wants there old new pos n u → IsAt wants there old other x n u
at_same wants there old new other pos x n u e f at = subst (λ (l : Look). IsAt wants there old l x n u) (sym e) (subst (λ (i : ℕ). IsAt wants there old new i n u) (sym f) at)

-- the cells that may be stored are few
pub ahead_few : (n : Paths) (u : View) (pos : ℕ) → ahead n u pos + links n u ≤ 16 * length n.all
ahead_few n u pos = cells_two (λ x s. not (is_to_ply (u.cell x s)) && nat_lt pos (end_of n x s)) (λ x s. is_to_ply (u.cell x s)) n.all (λ x s. apart (is_to_ply (u.cell x s)) (nat_lt pos (end_of n x s)))
  where
    apart : (a b : Bool) → (not a && b) ≡ true → a ≡ true → ⊥
    apart true b e f = true≢false (sym e)
    apart false b e f = true≢false (sym f)

module _ (look other : Look) (len top o x to count : ℕ) (u v : View) (some : 1 ≤ len) (le : len ≤ 32) (small : top < 2 ^ len) (grows : Grows u v ((top * 2 ^ (32 - len)) % 4294967296) ((len - 1) / 4) count) (kind : IsBalance v o) (is : other ≡ added look len top o) (x_is : x ≡ top * 2 ^ (32 - len)) (to_is : to ≡ (top + 1) * 2 ^ (32 - len)) (few : count ≤ 7) where
  module _ (wants : Watch) (there : ℕ → ℕ → Bool) (n : Paths) (table : IsTable wants look there n u) (still : wants.promise.applied ≡ 0 → (t : ℕ) → t < 16 → v.cell o t ≡ Drop) (promise : IsPromised wants look (added look len top o)) where
    stage : (after : ℕ → ℕ → Bool) × (m : Paths) × IsAt wants after look (added look len top o) (top * 2 ^ (32 - len)) m v × ((e w : ℕ) → after (e + 1) w ≡ true → Needs (added look len top o) (e + 1) w) × IsPaid n m u v count
    stage = opened look len top o wants u v count some le small there n table (subst (λ (i : ℕ). Grows u v i ((len - 1) / 4) count) (first_fits top len le small) grows) kind still promise

    here : IsAt wants stage.0 look other x stage.1 v
    here = at_same wants stage.0 look (added look len top o) other (top * 2 ^ (32 - len)) x stage.1 v is x_is stage.2

    pub add_starts : (p : Promise) → wants.promise ≡ p → 16 * (length n.all + 7) ≤ u.spare → (w : Watch) × (there : ℕ → ℕ → Bool) × (old : Look) × (n : Paths) × IsAt w there old other x n v × (w.promise ≡ p) × (ahead n v x ≤ v.spare)
    add_starts p same room = (wants, stage.0, look, stage.1, here, same, (let f = ahead_few stage.1 v x in omega (arith, f, stage.4.plies, stage.4.spare, room)))

    module _ (w : View) (pushed : (wants : Watch) (there : ℕ → ℕ → Bool) (old : Look) (n : Paths) → IsAt wants there old other x n v → (pos : ℕ) × (to ≤ pos) × IsAt wants there old other pos n w × IsSpent n v w x pos) where
      after : (pos : ℕ) × (to ≤ pos) × IsAt wants stage.0 look other pos stage.1 w × IsSpent stage.1 v w x pos
      after = pushed wants stage.0 look stage.1 here

      ended : IsTable wants other stage.0 stage.1 w
      ended = subst (λ (l : Look). IsTable wants l stage.0 stage.1 w) (sym is)
          (closed wants stage.0 look (added look len top o) len top after.0 (added_else look len top o) le stage.1 w stage.3 (subst (λ (i : ℕ). i ≤ after.0) to_is after.1) (at_same wants stage.0 look other (added look len top o) after.0 after.0 stage.1 w (sym is) refl after.2))

      pub add_ends : (after : ℕ → ℕ → Bool) × (m : Paths) × IsTable wants other after m w × (length m.all ≡ length n.all + count) × IsStoredFew n u w × (IsMine n u → IsMine m w)
      add_ends = (
        stage.0,
        stage.1,
        ended,
        stage.4.plies,
        record {
          more = omega (arith, stage.4.more, after.3.more);
          few = (let f = ahead_few stage.1 v x in omega (arith, f, few, stage.4.plies, stage.4.stored, after.3.stored));
        },
        λ m. after.3.mine (stage.4.mine m),
      )
