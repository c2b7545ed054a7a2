-- Plies hang together: below the root, by cells.
use Rattle.std.specs.Prelude.{◌≡◌, ◌≢◌, ◌⊎◌, ℕ, List, length, slice_index}
use Rattle.std.specs.List.{AllByRecursion}
use Rattle.fib_union.specs.Unions.{owner}
use Rattle.fib_core.specs.declared.word.Word.TheVariants as words
use Rattle.fib_core.specs.Words.{decoded}
use Rattle.fib_core.specs.Union.{Union, AreEdges}
use Rattle.fib_core_steady.specs.Names.{LeadsNow}
use Rattle.fib_core_steady.specs.inner.Backed.{IsBacked, AreOrdered}

-- a ply with a cell to a ply is the root, or a cell leads to it
abbrev pub IsRooted : List ℕ → Type 0
IsRooted cells = (k c : ℕ) → decoded (slice_index cells k) ≡ words.ToPly c → owner k ≢ 0 → LeadsNow cells (owner k)

-- no cell of the object leads to a ply
abbrev pub IsLeaf : List ℕ → ℕ → Type 0
IsLeaf cells x = (j c : ℕ) → owner j ≡ x → decoded (slice_index cells j) ≡ words.ToPly c → ⊥

-- what a store into a cell of x asks, over a word's way and where cells lead: a ply is linked below the root or a linked ply, and that to which
-- the cell led may go
pub record KeepsLinked (x : ℕ) (To From Linked MayGo : ℕ → Type 0) : Type 0 where
  pub links : (c : ℕ) → To c → x ≢ 0 → Linked x
  pub unlinks : (c : ℕ) → From c → MayGo c

-- a store of w into the cell k: a ply goes once it is a leaf, or while another cell leads to it
abbrev pub IsRootedStore : List ℕ → ℕ → ℕ → Type 0
IsRootedStore cells k w =
    KeepsLinked (owner k) (λ c. decoded w ≡ words.ToPly c) (λ c. decoded (slice_index cells k) ≡ words.ToPly c) (LeadsNow cells)
    (λ c. IsLeaf cells c ⊎ ((j : ℕ) × (j ≢ k) × (decoded (slice_index cells j) ≡ words.ToPly c)))

-- so a retired edge of a ply leaves before the ply does: its own ply has an edge into it that is current or was retired later, each retirement has
-- a mark a worker, an older one's marks are ahead of a newer one's, and every retired word is an edge
pub record PliesHang (workers : ℕ) (u : Union) : Type 0 where
  pub rooted : IsRooted u.cells
  pub backed : IsBacked u
  pub ordered : AreOrdered u.retired
  pub long : AllByRecursion (λ r. length r.marks ≡ workers) u.retired
  pub edges : AreEdges u.retired
