-- What each store of a change keeps.
use Rattle.std.proofs.Common.{◌≡◌, ℕ, zero, suc, ◌+◌, ◌*◌, ◌-◌, ◌/◌, ◌%◌, ◌^◌, ◌<◌, ◌≤◌, ◌⊎◌, inl, inr, ⊎_elim, true, false, true≢false, cond, eqb, eq-eqb, ne_eqb, refl, sym, ap, ◌∙◌, subst, arith}
use Rattle.std.proofs.lemmas.Nat.{shr-shr}
use Rattle.std.proofs.lemmas.Bool.{cases_order}
use native.Mathlib.Decide.{ℕ_discrete}
use mathlib.Core.Logic.{dite}
use Rattle.fib_core.specs.declared.word.Word.{Word}
use Rattle.fib_core.specs.declared.word.Word.TheVariants.{Drop, ToPly, ToBalance, Plain, Receive, Glean, ToAdjacency}
use Rattle.fib_plane_view.specs.View.{View}
use Rattle.fib_ply.specs.Served.{Paths, IsChild, IsIn, IsRight, IsServed}
use Rattle.fib_ply.specs.Fitting.{IsFilled, Fits}
use Rattle.fib_ply.specs.inner.Trie.{listed}
use Rattle.fib_ply.specs.inner.View.{IsSent}
use Rattle.fib_core_steady.specs.Names.{IsBelow}
use Rattle.fib_ply.proofs.Blocks.{below_up}
use Rattle.fib_ply.proofs.Stores.{served_put, stands_on}

-- the places above a ply have plies
pub place_above : (N : ℕ → ℕ → Type 0) → ((d w : ℕ) → N (d + 2) w → N (d + 1) (w / 16)) → (a k d w : ℕ) → d + 1 + k ≤ 7 → N (d + 1 + k) w → IsBelow a (d + 1 + k) w → N (d + 1) (a / 2 ^ (32 - 4 * (d + 1)))
place_above N up a zero d w le at below = let e : d + 1 + 0 ≡ d + 1 = omega arith in subst (λ (i : ℕ). N i (a / 2 ^ (32 - 4 * i))) e (subst (λ (v : ℕ). N (d + 1 + 0) v) (sym below) at)
place_above N up a (suc k) d w le at below =
    let e : d + 1 + suc k ≡ d + k + 2 = omega arith in
    let e' : d + k + 1 ≡ d + 1 + k = omega arith in
    let le'' : d + 1 + k ≤ 7 = omega arith in
    let f : 32 - 4 * (d + 1 + k) ≡ (32 - 4 * (d + 1 + suc k)) + 4 = omega arith in
    let at' : N (d + k + 2) w = subst (λ (i : ℕ). N i w) e at in
    place_above N up a k d (w / 16) le'' (subst (λ (i : ℕ). N i (w / 16)) e' (up (d + k) w at')) (ap (λ i. a / 2 ^ i) f ∙ sym (shr-shr a (32 - 4 * (d + 1 + suc k)) 4) ∙ ap (λ v. v / 16) below)

same_slot : (b w s t : ℕ) → b ≡ 16 * w + s → b ≡ 16 * w + t → s ≡ t
same_slot b w s t e f = omega arith

module _ (K N : ℕ → ℕ → Type 0) (n : Paths) (u : View) (fits : Fits K N n u) where
  -- a ply one of whose cells has the address has no ply of a smaller block beside it
  beside : (x s y a : ℕ) → n.is_in x ≡ true → n.is_in y ≡ true → s < 16 → (N (n.depth x + 1) (16 * n.value x + s) → ⊥) → IsIn n x s a → IsBelow a (n.depth y) (n.value y) → n.depth x < n.depth y → ⊥
  beside x s y a is is' lt none inside below deep =
      let k : ℕ = n.depth y - (n.depth x + 1) in
      let e : n.depth x + 1 + k ≡ n.depth y = omega arith in
      let le : n.depth y ≤ 7 = (fits.needed y is').0 in
      let le' : n.depth x + 1 + k ≤ 7 = omega arith in
      let at : N (n.depth y) (n.value y) = ⊎_elim (λ (z : y ≡ 0). absurd (let f : n.depth y ≡ 0 = ap n.depth z ∙ fits.root.1 in omega arith)) (λ (h : N (n.depth y) (n.value y)). h) (fits.needed y is').1 in
      none (subst (λ (v : ℕ). N (n.depth x + 1) v) inside.1 (place_above N fits.upward a k (n.depth x) (n.value y) le' (subst (λ (i : ℕ). N i (n.value y)) (sym e) at) (subst (λ (i : ℕ). IsBelow a i (n.value y)) (sym e) below)))

  -- an address lies in one cell without a deeper ply alone
  pub one_cell : (x s y t a : ℕ) → n.is_in x ≡ true → n.is_in y ≡ true → s < 16 → t < 16 → (N (n.depth x + 1) (16 * n.value x + s) → ⊥) → (N (n.depth y + 1) (16 * n.value y + t) → ⊥) → IsIn n x s a → IsIn n y t a → (y ≡ x) × (t ≡ s)
  one_cell x s y t a is is' lt lt' none none' inside inside' = elim (cases_order (n.depth x) (n.depth y)) [ inl same ↦ at_one same | inr (inl less) ↦ absurd (beside x s y a is is' lt none inside at_y less) | inr (inr more) ↦ absurd (beside y t x a is' is lt' none' inside' at_x more) ]
    where
      at_x : IsBelow a (n.depth x) (n.value x)
      at_x = below_up a (n.depth x) (n.value x) s (fits.needed x is).0 lt inside.1

      at_y : IsBelow a (n.depth y) (n.value y)
      at_y = below_up a (n.depth y) (n.value y) t (fits.needed y is').0 lt' inside'.1

      at_one : n.depth x ≡ n.depth y → (y ≡ x) × (t ≡ s)
      at_one same =
          let v : n.value x ≡ n.value y = sym at_x ∙ ap (λ i. a / 2 ^ (32 - 4 * i)) same ∙ at_y in
          let e : x ≡ y = fits.apart x y is is' same v in
          (sym e, same_slot (a / 2 ^ (32 - 4 * (n.depth x + 1))) (n.value x) t s (ap (λ i. a / 2 ^ (32 - 4 * (i + 1))) same ∙ inside'.1 ∙ ap (λ i. 16 * i + t) (sym v)) inside.1)

-- the cells of plies in the table that a store leaves
still : (K N : ℕ → ℕ → Type 0) (n : Paths) (u v : View) (x s : ℕ) (w : Word) → Fits K N n u → IsSent u v x s w → (y t : ℕ) → n.is_in y ≡ true → (y ≡ x → t ≡ s → ⊥) → v.cell y t ≡ u.cell y t
still K N n u v x s w fits put y t is apart = put.others y t apart (⊎_elim (λ (z : y ≡ 0). inl z) (λ (h : u.is_held y ≡ true). inr (inl (put.held y ∙ h))) (fits.held y is).1)

-- 1. A cell without a deeper ply gets the balance to which its addresses may be sent from now on.
module _ (W K L N : ℕ → ℕ → Type 0) (n : Paths) (u v : View) (x s o : ℕ) (fits : Fits K N n u) (is : n.is_in x ≡ true) (lt : s < 16) (put : IsSent u v x s (ToBalance o)) (none : N (n.depth x + 1) (16 * n.value x + s) → ⊥) (inside : (a : ℕ) → IsIn n x s a → L a o) (outside : (a p : ℕ) → a < 2 ^ 32 → (IsIn n x s a → ⊥) → K a p → L a p) where
  other_cell : (y t : ℕ) → n.is_in y ≡ true → t < 16 → (y ≡ x → t ≡ s → ⊥) → (w : Word) → IsFilled K N n y t w → IsFilled L N n y t w
  other_cell y t is' lt' apart (ToPly c) h = h
  other_cell y t is' lt' apart (ToBalance p) h = (h.0, λ a at. outside a p at.0 (λ at'. let e = one_cell K N n u fits x s y t a is is' lt lt' none h.0 at' at in apart e.0 e.1) (h.1 a at))
  other_cell y t is' lt' apart Drop h = h
  other_cell y t is' lt' apart (Plain d) h = h
  other_cell y t is' lt' apart Receive h = h
  other_cell y t is' lt' apart (Glean d) h = h
  other_cell y t is' lt' apart (ToAdjacency d) h = h

  pub fits_sent : Fits L N n v
  fits_sent = record {
    root = fits.root;
    held = λ y is'. (put.kinds y (stands_on u v x s (ToBalance o) put y (fits.held y is').1) ∙ (fits.held y is').0, ⊎_elim (λ (z : y ≡ 0). inl z) (λ (h : u.is_held y ≡ true). inr (put.held y ∙ h)) (fits.held y is').1);
    apart = fits.apart;
    needed = fits.needed;
    upward = fits.upward;
    cells = λ y t is' lt'. dite (ℕ_discrete y x)
        (λ same. dite (ℕ_discrete t s)
        (λ same'. subst (λ (i : ℕ). IsFilled L N n i t (v.cell i t)) (sym same) (subst (λ (i : ℕ). IsFilled L N n x i (v.cell x i)) (sym same') (subst (λ (z : Word). IsFilled L N n x s z) (sym put.cell) (none, inside))))
        (λ ne. kept y t is' lt' (λ _ e. ne e)))
        (λ ne. kept y t is' lt' (λ e _. ne e));
  }
    where
      kept : (y t : ℕ) → n.is_in y ≡ true → t < 16 → (y ≡ x → t ≡ s → ⊥) → IsFilled L N n y t (v.cell y t)
      kept y t is' lt' apart = subst (λ (z : Word). IsFilled L N n y t z) (sym (still K N n u v x s (ToBalance o) fits put y t is' apart)) (other_cell y t is' lt' apart (u.cell y t) (fits.cells y t is' lt'))

  pub served_sent : IsServed W n u → ((a p q : ℕ) → a < 2 ^ 32 → W a p → L a q → q ≡ p) → IsServed W n v
  served_sent ok agrees = served_put W n u v x s (ToBalance o) put ok lt (λ c e. absurd (cc)) (λ _ a p at want. agrees a p o at.0 want (inside a at))

-- the names after a change at c
module _ {A : Type 0} (c : ℕ) (b : A) (f : ℕ → A) where
  pub at_it : cond (eqb c c) b (f c) ≡ b
  at_it = rw (eq-eqb c c refl) refl

  pub elsewhere : (y : ℕ) → (y ≡ c → ⊥) → cond (eqb y c) b (f y) ≡ f y
  elsewhere y ne = rw (ne_eqb y c ne) refl

-- 2. A store of an edge to a new ply, all of whose cells hold the word that it replaces.
module _ (W K N M : ℕ → ℕ → Type 0) (n : Paths) (u v : View) (x s o c : ℕ) (fits : Fits K N n u) (is : n.is_in x ≡ true) (lt : s < 16) (was : u.cell x s ≡ ToBalance o) (other : c ≡ 0 → ⊥) (out : n.is_in c ≡ false) (child : IsChild n x s c) (ply : u.is_ply c ≡ true) (held : u.is_held c ≡ true) (filled : (t : ℕ) → t < 16 → u.cell c t ≡ ToBalance o) (put : IsSent u v x s (ToPly c)) (more : (d w : ℕ) → N d w → M d w) (new : M (n.depth c) (n.value c)) (only : (d w : ℕ) → M d w → N d w ⊎ ((d ≡ n.depth c) × (w ≡ n.value c))) (upward : (d w : ℕ) → M (d + 2) w → M (d + 1) (w / 16)) where
  old_filled : (N (n.depth x + 1) (16 * n.value x + s) → ⊥) × ((a : ℕ) → IsIn n x s a → K a o)
  old_filled = subst (λ (z : Word). IsFilled K N n x s z) was (fits.cells x s is lt)

  absent : N (n.depth c) (n.value c) → ⊥
  absent h = old_filled.0 (subst (λ (i : ℕ). N i (16 * n.value x + s)) child.0 (subst (λ (i : ℕ). N (n.depth c) i) child.1 h))

  not_c : (y : ℕ) → n.is_in y ≡ true → y ≡ c → ⊥
  not_c y is' e = true≢false (sym is' ∙ ap n.is_in e ∙ out)

  -- an address below a cell of the new ply is one of the cell that leads to it
  pub in_parent : (t a : ℕ) → t < 16 → IsIn n c t a → IsIn n x s a
  in_parent t a lt' at = (at.0, subst (λ (i : ℕ). IsBelow a i (16 * n.value x + s)) child.0 (below_up a (n.depth c) (n.value c) t child.2 lt' at.1 ∙ child.1))

  in_or : (y : ℕ) → (listed n c true).is_in y ≡ true → (y ≡ c) ⊎ (n.is_in y ≡ true)
  in_or y h = dite (ℕ_discrete y c) (λ e. inl e) (λ ne. inr (sym (elsewhere c true n.is_in y ne) ∙ h))

  in_more : (y : ℕ) → n.is_in y ≡ true → (listed n c true).is_in y ≡ true
  in_more y h = elsewhere c true n.is_in y (not_c y h) ∙ h

  low_part : (a w t : ℕ) → t < 16 → a ≡ 16 * w + t → a / 16 ≡ w
  low_part a w t lt' e = omega arith

  split : (w t w' t' : ℕ) → t < 16 → t' < 16 → 16 * w + t ≡ 16 * w' + t' → (w ≡ w') × (t ≡ t')
  split w t w' t' p q e = (omega arith, omega arith)

  linked_cell : (y t : ℕ) → n.is_in y ≡ true → t < 16 → (y ≡ x → t ≡ s → ⊥) → (w : Word) → IsFilled K N n y t w → IsFilled K M (listed n c true) y t w
  linked_cell y t is' lt' apart (ToPly z) h = (in_more z h.0, h.1)
  linked_cell y t is' lt' apart (ToBalance p) h = (
    λ m. ⊎_elim h.0 (λ (e : (n.depth y + 1 ≡ n.depth c) × (16 * n.value y + t ≡ n.value c)).
        let d : n.depth y ≡ n.depth x = omega (arith, e.0, child.0) in
        let f = split (n.value y) t (n.value x) s lt' lt (e.1 ∙ child.1) in
        apart (fits.apart y x is' is d f.0) f.1) (only (n.depth y + 1) (16 * n.value y + t) m),
    h.1,
  )
  linked_cell y t is' lt' apart Drop h = h
  linked_cell y t is' lt' apart (Plain d) h = h
  linked_cell y t is' lt' apart Receive h = h
  linked_cell y t is' lt' apart (Glean d) h = h
  linked_cell y t is' lt' apart (ToAdjacency d) h = h

  new_cell : (t : ℕ) → t < 16 → IsFilled K M (listed n c true) c t (ToBalance o)
  new_cell t lt' = (λ m. ⊎_elim (λ (h : N (n.depth c + 1) (16 * n.value c + t)). deep h) (λ (e : (n.depth c + 1 ≡ n.depth c) × (16 * n.value c + t ≡ n.value c)). absurd (omega (arith, e.0))) (only (n.depth c + 1) (16 * n.value c + t) m), λ a at. old_filled.1 a (in_parent t a lt' at))
    where
      deep : N (n.depth c + 1) (16 * n.value c + t) → ⊥
      deep h = let e : n.depth c + 1 ≡ n.depth x + 2 = omega (arith, child.0) in absent (subst (λ (i : ℕ). N (n.depth c) i) (low_part (16 * n.value c + t) (n.value c) t lt' refl) (subst (λ (i : ℕ). N i ((16 * n.value c + t) / 16)) (sym child.0) (fits.upward (n.depth x) (16 * n.value c + t) (subst (λ (i : ℕ). N i (16 * n.value c + t)) e h))))

  pub fits_linked : Fits K M (listed n c true) v
  fits_linked = record {
    root = (in_more 0 fits.root.0, fits.root.1, fits.root.2);
    held = λ y h. ⊎_elim (λ (e : y ≡ c). subst (λ (i : ℕ). (v.is_ply i ≡ true) × ((i ≡ 0) ⊎ (v.is_held i ≡ true))) (sym e) (put.kinds c (inr (inl (put.held c ∙ held))) ∙ ply, inr (put.held c ∙ held)))
        (λ (is' : n.is_in y ≡ true). (put.kinds y (stands_on u v x s (ToPly c) put y (fits.held y is').1) ∙ (fits.held y is').0, ⊎_elim (λ (z : y ≡ 0). inl z) (λ (q : u.is_held y ≡ true). inr (put.held y ∙ q)) (fits.held y is').1)) (in_or y h);
    apart = λ y z h h' d e. ⊎_elim
        (λ (f : y ≡ c). ⊎_elim (λ (f' : z ≡ c). f ∙ sym f') (λ (is' : n.is_in z ≡ true). absurd (taken z is' (sym d ∙ ap n.depth f) (sym e ∙ ap n.value f))) (in_or z h'))
        (λ (is' : n.is_in y ≡ true). ⊎_elim (λ (f' : z ≡ c). absurd (taken y is' (d ∙ ap n.depth f') (e ∙ ap n.value f'))) (λ (is'' : n.is_in z ≡ true). fits.apart y z is' is'' d e) (in_or z h'))
        (in_or y h);
    needed = λ y h. ⊎_elim (λ (e : y ≡ c). subst (λ (i : ℕ). (n.depth i ≤ 7) × ((i ≡ 0) ⊎ M (n.depth i) (n.value i))) (sym e) (child.2, inr new))
        (λ (is' : n.is_in y ≡ true). ((fits.needed y is').0, ⊎_elim (λ (z : y ≡ 0). inl z) (λ (q : N (n.depth y) (n.value y)). inr (more (n.depth y) (n.value y) q)) (fits.needed y is').1)) (in_or y h);
    upward = upward;
    cells = λ y t h lt'. ⊎_elim (λ (e : y ≡ c). subst (λ (i : ℕ). IsFilled K M (listed n c true) i t (v.cell i t)) (sym e) (subst (λ (z : Word). IsFilled K M (listed n c true) c t z) (sym (kept_c t ∙ filled t lt')) (new_cell t lt')))
        (λ (is' : n.is_in y ≡ true). dite (ℕ_discrete y x)
        (λ same. dite (ℕ_discrete t s)
        (λ same'. subst (λ (i : ℕ). IsFilled K M (listed n c true) i t (v.cell i t)) (sym same) (subst (λ (i : ℕ). IsFilled K M (listed n c true) x i (v.cell x i)) (sym same') (subst (λ (z : Word). IsFilled K M (listed n c true) x s z) (sym put.cell) (at_it c true n.is_in, child))))
        (λ ne. kept y t is' lt' (λ _ e. ne e)))
        (λ ne. kept y t is' lt' (λ e _. ne e)))
        (in_or y h);
  }
    where
      taken : (z : ℕ) → n.is_in z ≡ true → n.depth z ≡ n.depth c → n.value z ≡ n.value c → ⊥
      taken z is' d e = absent (⊎_elim (λ (q : z ≡ 0). absurd (let r : n.depth c ≡ 0 = sym d ∙ ap n.depth q ∙ fits.root.1 in omega (arith, child.0))) (λ (q : N (n.depth z) (n.value z)). subst (λ (i : ℕ). N i (n.value c)) d (subst (λ (i : ℕ). N (n.depth z) i) e q)) (fits.needed z is').1)

      kept_c : (t : ℕ) → v.cell c t ≡ u.cell c t
      kept_c t = put.others c t (λ e _. not_c x is (sym e)) (inr (inl (put.held c ∙ held)))

      kept : (y t : ℕ) → n.is_in y ≡ true → t < 16 → (y ≡ x → t ≡ s → ⊥) → IsFilled K M (listed n c true) y t (v.cell y t)
      kept y t is' lt' apart = subst (λ (z : Word). IsFilled K M (listed n c true) y t z) (sym (still K N n u v x s (ToPly c) fits put y t is' apart)) (linked_cell y t is' lt' apart (u.cell y t) (fits.cells y t is' lt'))

  pub served_linked : IsServed W n u → ((a p q : ℕ) → a < 2 ^ 32 → W a p → K a q → q ≡ p) → IsServed W n v
  served_linked ok agrees = served_put W n u v x s (ToPly c) put ok lt
      (λ z e. let f : c ≡ z = cc in subst (λ (i : ℕ). IsChild n x s i × ((t : ℕ) → t < 16 → IsRight W n i t (v.cell i t))) f (child, λ t lt'. subst (λ (y : Word). IsRight W n c t y) (sym (put.others c t (λ e' _. not_c x is (sym e')) (inr (inl (put.held c ∙ held))) ∙ filled t lt')) (λ a p at want. agrees a p o at.0 want (old_filled.1 a (in_parent t a lt' at)))))
      (λ _. tt)

-- 3. A store of a balance in place of the edge to a ply without deeper plies.
module _ (W K N M : ℕ → ℕ → Type 0) (n : Paths) (u v : View) (x s o c : ℕ) (fits : Fits K N n u) (is : n.is_in x ≡ true) (lt : s < 16) (was : u.cell x s ≡ ToPly c) (flat : (t : ℕ) → t < 16 → (p : ℕ) × (u.cell c t ≡ ToBalance p)) (inside : (a : ℕ) → IsIn n x s a → K a o) (put : IsSent u v x s (ToBalance o)) (less : (d w : ℕ) → M d w → N d w) (gone : M (n.depth c) (n.value c) → ⊥) (only : (d w : ℕ) → N d w → M d w ⊎ ((d ≡ n.depth c) × (w ≡ n.value c))) where
  was_child : (n.is_in c ≡ true) × IsChild n x s c
  was_child = subst (λ (z : Word). IsFilled K N n x s z) was (fits.cells x s is lt)

  in_less : (y : ℕ) → (listed n c false).is_in y ≡ true → (n.is_in y ≡ true) × (y ≡ c → ⊥)
  in_less y h = dite (ℕ_discrete y c) (λ e. absurd (true≢false (sym h ∙ subst (λ (i : ℕ). (listed n c false).is_in i ≡ false) (sym e) (at_it c false n.is_in)))) (λ ne. (sym (elsewhere c false n.is_in y ne) ∙ h, ne))

  in_still : (y : ℕ) → n.is_in y ≡ true → (y ≡ c → ⊥) → (listed n c false).is_in y ≡ true
  in_still y h ne = elsewhere c false n.is_in y ne ∙ h

  child_above : IsChild n x s c → x ≡ c → ⊥
  child_above h e = let d : n.depth x ≡ n.depth c = ap n.depth e in omega (arith, h.0)

  places : (w t w' t' : ℕ) → t < 16 → t' < 16 → 16 * w + t ≡ 16 * w' + t' → (w ≡ w') × (t ≡ t')
  places w t w' t' p q e = (omega arith, omega arith)

  unlinked_cell : (y t : ℕ) → n.is_in y ≡ true → t < 16 → (y ≡ x → t ≡ s → ⊥) → (w : Word) → IsFilled K N n y t w → IsFilled K M (listed n c false) y t w
  unlinked_cell y t is' lt' apart (ToPly z) h = (
    in_still z h.0 (λ e.
        let r : IsChild n y t c = subst (λ (i : ℕ). IsChild n y t i) e h.1 in
        let d : n.depth y ≡ n.depth x = omega (arith, r.0, was_child.1.0) in
        let f = places (n.value y) t (n.value x) s lt' lt (sym r.1 ∙ was_child.1.1) in
        apart (fits.apart y x is' is d f.0) f.1),
    h.1,
  )
  unlinked_cell y t is' lt' apart (ToBalance p) h = (λ m. h.0 (less (n.depth y + 1) (16 * n.value y + t) m), h.1)
  unlinked_cell y t is' lt' apart Drop h = h
  unlinked_cell y t is' lt' apart (Plain d) h = h
  unlinked_cell y t is' lt' apart Receive h = h
  unlinked_cell y t is' lt' apart (Glean d) h = h
  unlinked_cell y t is' lt' apart (ToAdjacency d) h = h

  childless : (w : ℕ) → N (n.depth c + 1) w → w / 16 ≡ n.value c → ⊥
  childless w h e =
      let t : ℕ = w % 16 in
      let lt' : t < 16 = omega arith in
      let f : w ≡ 16 * n.value c + t = omega arith in
      let q = flat t lt' in
      (subst (λ (z : Word). IsFilled K N n c t z) q.1 (fits.cells c t was_child.0 lt')).0 (subst (λ (i : ℕ). N (n.depth c + 1) i) f h)

  pub fits_unlinked : Fits K M (listed n c false) v
  fits_unlinked = record {
    root = (in_still 0 fits.root.0 (λ e. let d : n.depth c ≡ 0 = ap n.depth (sym e) ∙ fits.root.1 in absurd (omega (arith, was_child.1.0))), fits.root.1, fits.root.2);
    held = λ y h. let is' = (in_less y h).0 in (put.kinds y (stands_on u v x s (ToBalance o) put y (fits.held y is').1) ∙ (fits.held y is').0, ⊎_elim (λ (z : y ≡ 0). inl z) (λ (q : u.is_held y ≡ true). inr (put.held y ∙ q)) (fits.held y is').1);
    apart = λ y z h h'. fits.apart y z (in_less y h).0 (in_less z h').0;
    needed = λ y h. let i = in_less y h in ((fits.needed y i.0).0, ⊎_elim (λ (z : y ≡ 0). inl z) (λ (q : N (n.depth y) (n.value y)). inr (⊎_elim (λ (m : M (n.depth y) (n.value y)). m) (λ (e : (n.depth y ≡ n.depth c) × (n.value y ≡ n.value c)). absurd (i.1 (fits.apart y c i.0 was_child.0 e.0 e.1))) (only (n.depth y) (n.value y) q))) (fits.needed y i.0).1);
    upward = λ d w m. ⊎_elim (λ (q : M (d + 1) (w / 16)). q) (λ (e : (d + 1 ≡ n.depth c) × (w / 16 ≡ n.value c)). let f : d + 2 ≡ n.depth c + 1 = omega (arith, e.0) in absurd (childless w (subst (λ (i : ℕ). N i w) f (less (d + 2) w m)) e.1)) (only (d + 1) (w / 16) (fits.upward d w (less (d + 2) w m)));
    cells = λ y t h lt'. let i = in_less y h in dite (ℕ_discrete y x)
        (λ same. dite (ℕ_discrete t s)
        (λ same'. subst (λ (j : ℕ). IsFilled K M (listed n c false) j t (v.cell j t)) (sym same) (subst (λ (j : ℕ). IsFilled K M (listed n c false) x j (v.cell x j)) (sym same') (subst (λ (z : Word). IsFilled K M (listed n c false) x s z) (sym put.cell) (here, inside))))
        (λ ne. kept y t i.0 lt' (λ _ e. ne e)))
        (λ ne. kept y t i.0 lt' (λ e _. ne e));
  }
    where
      here : M (n.depth x + 1) (16 * n.value x + s) → ⊥
      here m = gone (subst (λ (i : ℕ). M i (n.value c)) (sym was_child.1.0) (subst (λ (i : ℕ). M (n.depth x + 1) i) (sym was_child.1.1) m))

      kept : (y t : ℕ) → n.is_in y ≡ true → t < 16 → (y ≡ x → t ≡ s → ⊥) → IsFilled K M (listed n c false) y t (v.cell y t)
      kept y t is' lt' apart = subst (λ (z : Word). IsFilled K M (listed n c false) y t z) (sym (still K N n u v x s (ToBalance o) fits put y t is' apart)) (unlinked_cell y t is' lt' apart (u.cell y t) (fits.cells y t is' lt'))

  pub served_unlinked : IsServed W n u → ((a p q : ℕ) → a < 2 ^ 32 → W a p → K a q → q ≡ p) → IsServed W n v
  served_unlinked ok agrees = served_put W n u v x s (ToBalance o) put ok lt (λ c e. absurd (cc)) (λ _ a p at want. agrees a p o at.0 want (inside a at))
