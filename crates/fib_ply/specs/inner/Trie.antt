-- Plies by their nibble paths, and what their cells hold.
use Rattle.std.specs.Prelude.{◌≡◌, ℕ, ◌<◌, ◌≤◌, Bool, true, false, List, ◌∷◌, filter, not, ◌==◌, if◌then◌else◌}
use Rattle.fib_core.specs.declared.word.Word.{Word}
use Rattle.fib_core.specs.declared.word.Word.TheVariants.{Drop, ToPly, ToBalance, Plain, Receive, Glean, ToAdjacency}
use Rattle.fib_ply.specs.Served.{Paths, IsChild}
use Rattle.fib_plane_view.specs.View.{View, IsStanding}

-- the names with this path for a ply
abbrev pub placed : Paths → ℕ → ℕ → ℕ → Paths
placed n c d w = record {
  depth = λ y. if y == c then d else n.depth y;
  value = λ y. if y == c then w else n.value y;
  is_in = n.is_in;
  all = n.all;
}

-- the names with this ply in the table, or not
abbrev pub list_with : ℕ → Bool → List ℕ → List ℕ
list_with c true xs = c ∷ xs
list_with c false xs = filter (λ x. not (x == c)) xs

abbrev pub listed : Paths → ℕ → Bool → Paths
listed n c there =
    record { depth = n.depth; value = n.value; is_in = λ y. if y == c then there else n.is_in y; all = list_with c there n.all }

-- the shape alone
abbrev pub IsLinked : Paths → ℕ → ℕ → Word → Type 0
IsLinked n x s (ToPly c) = (n.is_in c ≡ true) × IsChild n x s c
IsLinked n x s (ToBalance o) = Unit {0}
IsLinked n x s Drop = ⊥
IsLinked n x s (Plain v) = ⊥
IsLinked n x s Receive = ⊥
IsLinked n x s (Glean v) = ⊥
IsLinked n x s (ToAdjacency v) = ⊥

pub record IsTrie (n : Paths) (u : View) : Type 0 where
  pub standing : (x : ℕ) → n.is_in x ≡ true → IsStanding u x
  pub root : (n.is_in 0 ≡ true) × (n.depth 0 ≡ 0) × (n.value 0 ≡ 0)
  pub needed : (x : ℕ) → n.is_in x ≡ true → n.depth x ≤ 7
  pub cells : (x s : ℕ) → n.is_in x ≡ true → s < 16 → IsLinked n x s (u.cell x s)
