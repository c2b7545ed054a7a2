-- The way down to the cell of an address.
use Rattle.std.proofs.Common.{◌≡◌, ℕ, suc, ◌+◌, ◌*◌, ◌-◌, ◌/◌, ◌%◌, ◌^◌, ◌<◌, ◌≤◌, inl, inr, ⊎_elim, true, refl, sym, ap, ◌∙◌, subst, arith}
use Rattle.std.proofs.lemmas.Nat.{mod_below}
use Rattle.std.proofs.Math.Nat.{div-eq_of_lt}
use Rattle.fib_core.specs.declared.word.Word.{Word}
use Rattle.fib_core.specs.declared.word.Word.TheVariants.{Drop, ToPly, ToBalance, Plain, Receive, Glean, ToAdjacency}
use Rattle.fib_plane_view.specs.View.{View, IsLive}
use Rattle.fib_ply.specs.inner.Change.{IsOnPath, IsCellOf, IsLed}
use Rattle.fib_ply.specs.Served.{Paths}
use Rattle.fib_ply.specs.Fitting.{IsFilled, Fits}
use Rattle.fib_ply.specs.inner.Trie.{IsLinked, IsTrie}
use Rattle.fib_core_steady.specs.Names.{IsBelow}
use Rattle.fib_ply.proofs.Blocks.{below_next}

filled_linked : (K N : ℕ → ℕ → Type 0) (n : Paths) (x s : ℕ) (w : Word) → IsFilled K N n x s w → IsLinked n x s w
filled_linked K N n x s (ToPly c) h = h
filled_linked K N n x s (ToBalance o) h = tt
filled_linked K N n x s Drop h = h
filled_linked K N n x s (Plain v) h = h
filled_linked K N n x s Receive h = h
filled_linked K N n x s (Glean v) h = h
filled_linked K N n x s (ToAdjacency v) h = h

pub fits_trie : (K N : ℕ → ℕ → Type 0) (n : Paths) (u : View) → Fits K N n u → IsTrie n u
fits_trie K N n u fits = record { standing = λ x is. (fits.held x is).1; root = fits.root; needed = λ x is. (fits.needed x is).0; cells = λ x s is lt. filled_linked K N n x s (u.cell x s) (fits.cells x s is lt) }

module _ (n : Paths) (u : View) (trie : IsTrie n u) (a : ℕ) where
  pub path_begins : a < 2 ^ 32 → IsOnPath n a 0 0
  path_begins lt = (trie.root.0, trie.root.1, div-eq_of_lt lt ∙ sym trie.root.2)

  module _ (ply depth : ℕ) (path : IsOnPath n a ply depth) where
    pub path_live : IsLive u ply
    path_live = ⊎_elim (λ (z : ply ≡ 0). inl z) (λ (h : u.is_held ply ≡ true). inr (inl h)) (trie.standing ply path.0)

    pub path_shallow : depth ≤ 7
    path_shallow = let h : n.depth ply ≤ 7 = trie.needed ply path.0 in let e : n.depth ply ≡ depth = path.1 in omega arith

    slot_below : IsBelow a (depth + 1) (16 * n.value ply + a / 2 ^ (28 - 4 * depth) % 16)
    slot_below =
        let le : depth ≤ 7 = path_shallow in
        let k : ℕ = 7 - depth in
        let e : depth + suc k ≡ 8 = omega arith in
        let f : 4 * k ≡ 28 - 4 * depth = omega arith in
        subst (λ (i : ℕ). IsBelow a (depth + 1) (16 * n.value ply + a / 2 ^ i % 16)) f (below_next a depth k (n.value ply) e path.2)

    module _ (slot : ℕ) (is : slot ≡ a / 2 ^ (28 - 4 * depth) % 16) where
      pub slot_few : slot < 16
      slot_few = rw is (mod_below (a / 2 ^ (28 - 4 * depth)) 16 (omega arith))

      here : IsBelow a (depth + 1) (16 * n.value ply + slot)
      here = subst (λ (i : ℕ). IsBelow a (depth + 1) (16 * n.value ply + i)) (sym is) slot_below

      linked : (w : Word) → w ≡ u.cell ply slot → IsLinked n ply slot w
      linked w e = subst (λ (i : Word). IsLinked n ply slot i) (sym e) (trie.cells ply slot path.0 slot_few)

      pub path_goes : (c : ℕ) → ToPly c ≡ u.cell ply slot → IsOnPath n a c (depth + 1)
      path_goes c e = let h = linked (ToPly c) e in (h.0, h.1.0 ∙ ap (λ i. i + 1) path.1, subst (λ (i : ℕ). IsBelow a (depth + 1) i) (sym h.1.1) here)

      pub path_led : (c : ℕ) → ToPly c ≡ u.cell ply slot → IsLed n u c
      path_led c e = inr (ply, slot, path.0, sym e)

      pub path_ends : IsLed n u ply → (w : Word) → w ≡ u.cell ply slot → ((c : ℕ) → w ≡ ToPly c → ⊥) → IsCellOf n u a ply depth slot
      path_ends way (ToPly c) e not = absurd (not c refl)
      path_ends way (ToBalance o) e not = record { path = path; below = here; leaf = (o, sym e); few = (slot_few, path_shallow); led = way }
      path_ends way Drop e not = absurd (linked Drop e)
      path_ends way (Plain v) e not = absurd (linked (Plain v) e)
      path_ends way Receive e not = absurd (linked Receive e)
      path_ends way (Glean v) e not = absurd (linked (Glean v) e)
      path_ends way (ToAdjacency v) e not = absurd (linked (ToAdjacency v) e)
