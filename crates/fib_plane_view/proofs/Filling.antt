-- What a fill asks of its puts: each leaves it to the next.
use Rattle.std.proofs.Common.{◌≡◌, ◌≢◌, ◌⊎◌, ◌<◌, ◌≤◌, ℕ, zero, suc, ◌+◌, true, Option, inl, inr, ⊎_elim, refl, sym, ap, ◌∙◌, subst, arith, below_more}
use Rattle.fib_reach.specs.Walks.{Walk}
use Rattle.fib_core.specs.declared.word.Word.{Word}
use Rattle.fib_core.specs.declared.word.Word.TheVariants as words
use Rattle.fib_core.specs.Union.{IsPlyWord}
use Rattle.fib_pool.specs.declared.object.AdjacencyRecord.{AdjacencyRecord}
use Rattle.fib_plane_view.specs.declared.put.Put.TheVariants as puts
use Rattle.fib_plane_view.specs.View.{View, Closes, Edge, Goes, HasIn, HasKind, IsLive, IsPut, IsRecord, LeadsElsewhere, leads}
use Rattle.fib_plane_view.specs.Stores.{StoresEach}
use Rattle.fib_plane_view.specs.inner.Filling.{IsHalfFull}
use Rattle.fib_plane_view.proofs.Storing.{stores_then}

-- a walk that ends elsewhere than it began has a last edge
walk_last : (E : ℕ → ℕ → Type 0) (k x y : ℕ) → Walk E k x y → (x ≡ y) ⊎ ((z : ℕ) × E z y)
walk_last E zero x y w = inl w
walk_last E (suc k) x y w = ⊎_elim
    (λ (e : w.0 ≡ y). inr (x, subst (λ (i : ℕ). E x i) e w.1))
    (λ (q : (z : ℕ) × E z y). inr q)
    (walk_last E k w.0 y w.2)

-- no edge closes a cycle at an object to which no edge leads
pub opens_none : (u : View) (x : ℕ) (w : Word) → (HasIn u x → ⊥) → LeadsElsewhere u x w → Closes u x w → ⊥
opens_none u x w alone target c = ⊎_elim
    (λ (e : c.0 ≡ x). (target c.0 c.1).1 e)
    (λ (q : (z : ℕ) × Edge u z x). alone (q.0, q.1.0, q.1.1, q.1.2, q.1.3))
    (walk_last (Edge u) c.2.0 c.0 x c.2.1)

module _ (u m v : View) (x s : ℕ) (w : Word) (half : IsHalfFull u m x s w) (put : IsPut m v x s w puts.Stored) where
  held_on : v.is_held x ≡ true
  held_on = put.held x ∙ half.held

  live_on : IsLive v x
  live_on = inr (inl held_on)

  here : v.cell x s ≡ w
  here = put.answered.1

  target_on : LeadsElsewhere v x w
  target_on y l = (inr (inr (inr (x, s, w, l, inl here))), (half.target y l).1)

  alone_on : HasIn v x → ⊥
  alone_on h = ⊎_elim
      (λ (g : Goes m h.0 h.1 h.2). half.alone (h.0, h.1, h.2, h.3, g))
      (λ (n : (h.0 ≡ x) × (h.1 ≡ s) × (h.2 ≡ w)). (half.target x (subst (λ (z : Word). leads z x) n.2 h.3)).1 refl)
      (put.edges h.0 h.1 x h.2 h.3 h.4)

  kind_of : (z : Word) → LeadsElsewhere v x z → HasKind m x z → HasKind v x z
  kind_of (words.ToPly c) t k = (
    put.kinds x live_on ∙ k.0,
    put.kinds c (t c refl).0 ∙ k.1,
    λ r lt. subst IsPlyWord (sym (put.others c r (λ e f. (t c refl).1 e) (t c refl).0)) (k.2 r lt),
  )
  kind_of (words.ToBalance o) t k = (put.held o ∙ k.0, put.kinds o (t o refl).0 ∙ k.1)
  kind_of (words.ToAdjacency o) t k = (put.kinds x live_on ∙ k.0, (k.1.0, ap (λ (f : AdjacencyRecord → Option ℕ). f k.1.0) put.records.record_of ∙ k.1.1))
  kind_of words.Drop t k = put.kinds x live_on ∙ k
  kind_of words.Receive t k = put.kinds x live_on ∙ k
  kind_of (words.Glean i) t k = put.kinds x live_on ∙ k
  kind_of (words.Plain n) t k = k

  pub half_on : StoresEach (λ y t. (y ≡ x) × (t ≡ s)) m v → IsHalfFull u v x (s + 1) w
  half_on one = record {
    held = held_on;
    alone = alone_on;
    filled = below_more _ _ (λ t below. put.others x t (λ _ e. absurd (omega (arith, e, below))) live_on ∙ half.filled t below) here;
    empty = λ t le lt. put.others x t (λ _ e. absurd (omega (arith, e, le))) live_on ∙ half.empty t (omega (arith, le)) lt;
    target = target_on;
    kind = kind_of w target_on half.kind;
    stores = stores_then Next u m v
        (record { cells = half.stores.cells; once = half.stores.once; each = λ y t h. (let e = half.stores.each y t h in (e.0, (e.1.0, omega (arith, e.1.1)))); all = half.stores.all; stored = half.stores.stored })
        (record { cells = one.cells; once = one.once; each = λ y t h. (let e = one.each y t h in (e.0, (e.1.0, omega (arith, e.1.1)))); all = one.all; stored = one.stored })
        (λ y t l r. apart t (half.stores.each y t l).1.1 (one.each y t r).1.1);
  }
    where
      Next : ℕ → ℕ → Type 0
      Next y t = (y ≡ x) × (t < s + 1)

      apart : (t : ℕ) → t < s → t ≡ s → ⊥
      apart t lt e = omega (arith, lt, e)
