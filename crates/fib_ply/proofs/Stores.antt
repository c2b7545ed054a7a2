-- What the stores of a change keep.
use Rattle.std.proofs.Common.{◌≡◌, ℕ, ◌<◌, ◌⊎◌, inl, inr, ⊎_elim, true, refl, sym, ◌∙◌, subst}
use native.Mathlib.Decide.{ℕ_discrete}
use mathlib.Core.Logic.{dite}
use Rattle.fib_core.specs.declared.word.Word.{Word}
use Rattle.fib_core.specs.declared.word.Word.TheVariants.{ToPly}
use Rattle.fib_plane_view.specs.View.{View, Goes, IsLive}
use Rattle.fib_ply.specs.Served.{Paths, IsChild, IsRight, IsWalked, IsServed}
use Rattle.fib_ply.specs.inner.View.{IsSent}

-- a ply on which a worker may stand is live
pub walked_live : (u : View) (x : ℕ) → IsWalked u x → IsLive u x
walked_live u x (inl e) = inl e
walked_live u x (inr w) = inr (inr (inr (w.0, w.1, ToPly x, refl, w.3)))

-- what is held stays live
pub stands_on : (u v : View) (x s : ℕ) (w : Word) → IsSent u v x s w → (y : ℕ) → (y ≡ 0) ⊎ (u.is_held y ≡ true) → IsLive v y
stands_on u v x s w put y (inl e) = inl e
stands_on u v x s w put y (inr h) = inr (inl (put.held y ∙ h))

-- A store of a word that keeps what workers are promised: its ply may be walked or not.
module _ (W : ℕ → ℕ → Type 0) (n : Paths) (u v : View) (x s : ℕ) (w : Word) (put : IsSent u v x s w) (ok : IsServed W n u) where
  -- where the new edge leads to a ply, it has its path, and it is filled, walked or not
  pub served_put : s < 16
      → ((c : ℕ) → w ≡ ToPly c → IsChild n x s c × ((t : ℕ) → t < 16 → IsRight W n c t (v.cell c t)))
      → (IsWalked v x → IsRight W n x s w)
      → IsServed W n v
  served_put lt child right = record {
    root = ok.root;
    paths = λ y t c g. ⊎_elim
        (λ (old : Goes u y t (ToPly c)). ok.paths y t c old)
        (λ (new : (y ≡ x) × (t ≡ s) × (ToPly c ≡ w)). (subst (λ (i : ℕ). i < 16) (sym new.1) lt, subst (λ (i : ℕ). IsChild n i t c) (sym new.0) (subst (λ (i : ℕ). IsChild n x i c) (sym new.1) (child c (sym new.2)).0)))
        (put.edges y t c (ToPly c) refl g);
    right = λ y t stands lt'. dite (ℕ_discrete y x)
        (λ same. dite (ℕ_discrete t s)
        (λ same'. subst (λ (i : ℕ). IsRight W n i t (v.cell i t)) (sym same) (subst (λ (i : ℕ). IsRight W n x i (v.cell x i)) (sym same') (subst (λ (z : Word). IsRight W n x s z) (sym put.cell) (right (subst (λ (i : ℕ). IsWalked v i) same stands)))))
        (λ ne. kept y t stands lt' (λ _ e. ne e)))
        (λ ne. kept y t stands lt' (λ e _. ne e));
  }
    where
      kept : (y t : ℕ) → IsWalked v y → t < 16 → (y ≡ x → t ≡ s → ⊥) → IsRight W n y t (v.cell y t)
      kept y t stands lt' apart = before_or_new stands
        where
          same : v.cell y t ≡ u.cell y t
          same = put.others y t apart (walked_live v y stands)

          before : IsWalked u y → IsRight W n y t (v.cell y t)
          before stood = subst (λ (z : Word). IsRight W n y t z) (sym same) (ok.right y t stood lt')

          before_or_new : IsWalked v y → IsRight W n y t (v.cell y t)
          before_or_new (inl e) = before (inl e)
          before_or_new (inr g) = ⊎_elim
              (λ (old : Goes u g.0 g.1 (ToPly y)). before (inr (g.0, g.1, g.2, old)))
              (λ (new : (g.0 ≡ x) × (g.1 ≡ s) × (ToPly y ≡ w)). (child y (sym new.2)).1 t lt')
              (put.edges g.0 g.1 y (ToPly y) refl g.3)
