-- An edge to a ply one nibble deeper, or to a balance, closes no cycle.
use Rattle.std.proofs.Common.{◌≡◌, ℕ, zero, suc, ◌+◌, true, false, true≢false, sym, ap, ◌∙◌, subst, arith}
use Rattle.fib_core.specs.declared.word.Word.TheVariants.{Drop, ToPly, ToBalance, Plain, Receive, Glean, ToAdjacency}
use Rattle.fib_plane_view.specs.View.{View, Goes, Edge, Kinds, leads}
use Rattle.fib_ply.specs.Served.{Paths, IsChild, IsServed}
use Rattle.fib_reach.specs.Walks.{Walk, Leads}
use Rattle.fib_core.specs.declared.word.Word.{Word}

module _ (W : ℕ → ℕ → Type 0) (n : Paths) (u : View) (ok : IsServed W n u) (kinds : Kinds u) where
  -- an edge into a ply comes from a ply one nibble higher
  edge_into : (x y : ℕ) → Edge u x y → u.is_ply y ≡ true → (u.is_ply x ≡ true) × (n.depth y ≡ n.depth x + 1)
  edge_into x y e is = by_word e.1 e.2 e.3
    where
      by_word : (w : Word) → leads w y → Goes u x e.0 w → (u.is_ply x ≡ true) × (n.depth y ≡ n.depth x + 1)
      by_word (ToPly c) l g = let g' : Goes u x e.0 (ToPly y) = subst (λ (i : ℕ). Goes u x e.0 (ToPly i)) l g in ((kinds.ply x e.0 y g').0, (ok.paths x e.0 y g').1.0)
      by_word (ToBalance c) l g = absurd (true≢false (sym is ∙ sym (ap u.is_ply l) ∙ (kinds.balance x e.0 c g).0))
      by_word (ToAdjacency c) l g = absurd (true≢false (sym is ∙ sym (ap u.is_ply l) ∙ (kinds.adjacency x e.0 c g).0))
      by_word Drop l g = absurd l
      by_word Receive l g = absurd l
      by_word (Glean i) l g = absurd l
      by_word (Plain i) l g = absurd l

  walk_into : (k x y : ℕ) → Walk (Edge u) k x y → u.is_ply y ≡ true → (u.is_ply x ≡ true) × (n.depth x + k ≡ n.depth y)
  walk_into zero x y e is = (ap u.is_ply e ∙ is, let d : n.depth x ≡ n.depth y = ap n.depth e in omega arith)
  walk_into (suc k) x y w is = let r = walk_into k w.0 y w.2 is in let f = edge_into x w.0 w.1 r.0 in (f.0, omega (arith, f.1, r.1))

  pub no_cycle_ply : (x s c : ℕ) → u.is_ply x ≡ true → IsChild n x s c → Leads (Edge u) c x → ⊥
  no_cycle_ply x s c is child r = let f = walk_into r.0 c x r.1 is in omega (arith, f.1, child.0)

  pub no_cycle_balance : (x o : ℕ) → u.is_ply x ≡ true → u.is_ply o ≡ false → Leads (Edge u) o x → ⊥
  no_cycle_balance x o is not r = true≢false (sym (walk_into r.0 o x r.1 is).0 ∙ not)
