-- What a search over numbered nodes has seen.
use Rattle.std.specs.Prelude.{◌≡◌, ℕ, ◌+◌, ◌<◌, ◌⊎◌, List, [], ◌∷◌, ◌++◌, length, slice_index}

-- what contracts see of a search: how many nodes there are, which are seen, in order, and of how many of these the edges are taken
pub record Seen : Type 0 where
  pub nodes : ℕ
  pub seen : List ℕ
  pub done : ℕ

-- the first node that wasn't done, and now is
pub record IsNext (old new : Seen) (node : ℕ) : Type 0 where
  pub here : old.done < length old.seen
  pub node_is : node ≡ slice_index old.seen old.done
  pub done : new.done ≡ old.done + 1
  pub node_in : node < old.nodes
  pub done_in : old.done < old.nodes

-- y stands at the end, or nothing is new
abbrev pub GrowsBy : List ℕ → ℕ → List ℕ → Type 0
GrowsBy xs y ys = (ys ≡ xs) ⊎ (ys ≡ xs ++ y ∷ [])
