-- The root while it is filled, before the first change.
use Rattle.std.specs.Prelude.{◌≡◌, ℕ, ◌<◌, ◌≤◌, true, List, ◌∷◌}
use Rattle.fib_core.specs.declared.word.Word.{Word}
use Rattle.fib_core.specs.declared.word.Word.TheVariants.{Drop, ToBalance}
use Rattle.fib_resolve.specs.declared.types.Tables.{Tables}
use Rattle.fib_plane_view.specs.Promise.{Promise}
use Rattle.fib_plane_view.specs.View.{View, Goes, IsBalance, leads}

-- the first i cells of the root lead to the balance, which drops all, there is no other edge, and no ply is held; nobody is out
pub record IsBlank (p : Promise) (u : View) (o i : ℕ) : Type 0 where
  pub early : (p.applied ≡ 0) × (p.alone ≡ true)
  pub versions : (S : Tables) × (J : List Tables) × (p.versions ≡ S ∷ J)
  pub root : u.is_ply 0 ≡ true
  pub none : (x : ℕ) → u.is_ply x ≡ true → u.is_held x ≡ true → ⊥
  pub edges : (x s y : ℕ) (w : Word) → leads w y → Goes u x s w → (x ≡ 0) × (w ≡ ToBalance o)
  pub filled : (s : ℕ) → s < i → u.cell 0 s ≡ ToBalance o
  pub empty : (s : ℕ) → i ≤ s → s < 16 → (y : ℕ) → leads (u.cell 0 s) y → ⊥
  pub balance : IsBalance u o
  pub drops : (t : ℕ) → t < 16 → u.cell o t ≡ Drop
