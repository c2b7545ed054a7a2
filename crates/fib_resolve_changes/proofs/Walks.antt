-- Walks in two relations that differ at some nodes alone.
use Rattle.std.proofs.Common.{◌≡◌, ℕ, zero, suc, Bool, true, false, ◌⊎◌, inl, inr}
use Rattle.fib_base_list.proofs.Lists.{either}
use Rattle.fib_reach.specs.Walks.{Walk, Leads, Reaches}
use Rattle.fib_reach.proofs.Walking.{edge_leads, leads_then, leads_self}

module _ {A : Type 0} (E F : A → A → Type 0) (changed : A → Bool) (stays : (x y : A) → changed x ≡ false → E x y → F x y) where
  -- a walk is one in the other relation too, or comes by a node at which they differ
  pub walk_or : (n : ℕ) (x to : A) → Walk E n x to → Walk F n x to ⊎ ((z : A) × (changed z ≡ true) × Leads E x z × Reaches E z to)
  walk_or zero x to w = inl w
  walk_or (suc n) x to w =
      elim (either (changed x)) [
        | inl is ↦ inr (x, is, leads_self E x, (n, w))
        | inr isnt ↦ elim (walk_or n w.0 to w.2) [
          | inl rest ↦ inl (w.0, stays x w.0 isnt w.1, rest)
          | inr by ↦ inr (by.0, by.1, leads_then E x w.0 by.0 (edge_leads E x w.0 w.1) by.2, by.3)
        ]
      ]
