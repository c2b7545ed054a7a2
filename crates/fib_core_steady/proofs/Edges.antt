-- Edges of a union to plies: by cells, as the union has them, and by plies, as paths are told.
use Rattle.std.proofs.Common.{◌≡◌, ◌%◌, ℕ, refl, subst}
use Rattle.fib_union.specs.Unions.{owner}
use Rattle.fib_core.specs.declared.word.Word.TheVariants as words
use Rattle.fib_core.specs.Words.{decoded}
use Rattle.fib_core.specs.Union.{Union, Goes}
use Rattle.fib_core_steady.specs.Names.{Names, IsChild}
use Rattle.fib_core_steady.specs.Promise.{HasPaths, LeadsIn}

-- an edge leads to a ply of the cell's
abbrev pub EdgesAreChildren : Names → Union → Type 0
EdgesAreChildren n u = (k w c : ℕ) → Goes u k w → decoded w ≡ words.ToPly c → IsChild n (owner k) (k % 16) c

pub child_of : (n : Names) (u : Union) → HasPaths n (LeadsIn u) → EdgesAreChildren n u
child_of n u ways k w c g is = ways.paths (owner k) (k % 16) c (k, w, refl, refl, is, g)

pub ways_by : (n : Names) (u : Union) → (n.depth 0 ≡ 0) × (n.value 0 ≡ 0) → EdgesAreChildren n u → HasPaths n (LeadsIn u)
ways_by n u root each = record {
  root = root;
  paths = λ x s c e. subst (λ (i : ℕ). IsChild n i s c) e.2 (subst (λ (i : ℕ). IsChild n (owner e.0) i c) e.3 (each e.0 e.1 c e.5 e.4));
}
