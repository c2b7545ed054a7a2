-- An object in the midst of a fill.
use Rattle.std.specs.Prelude.{◌≡◌, ℕ, ◌<◌, ◌≤◌, true}
use Rattle.fib_core.specs.declared.word.Word.{Word}
use Rattle.fib_core.specs.declared.word.Word.TheVariants as words
use Rattle.fib_plane_view.specs.View.{View, HasIn, HasKind, LeadsElsewhere}
use Rattle.fib_plane_view.specs.Stores.{StoresEach}

-- so many of the first cells hold the word, the others are empty, and what is asked of the next put holds
pub record IsHalfFull (u v : View) (x s : ℕ) (w : Word) : Type 0 where
  pub held : v.is_held x ≡ true
  pub alone : HasIn v x → ⊥
  pub filled : (t : ℕ) → t < s → v.cell x t ≡ w
  pub empty : (t : ℕ) → s ≤ t → t < 16 → v.cell x t ≡ words.Drop
  pub target : LeadsElsewhere v x w
  pub kind : HasKind v x w
  pub stores : StoresEach (λ y t. (y ≡ x) × (t < s)) u v
