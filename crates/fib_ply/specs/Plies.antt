-- The plies that stand for a set of prefixes, also in the middle of a change from one set to another.
use Rattle.std.specs.Prelude.{◌≡◌, ℕ, ◌+◌, ◌^◌, ◌<◌, ◌≤◌, ◌⊎◌, Bool, true, List, [], ◌∷◌, Some}
use Rattle.fib_core.specs.declared.word.Word.TheVariants.{Drop}
use Rattle.fib_reach.specs.Walks.{AllDiffer}
use Rattle.fib_plane_view.specs.View.{View, Kinds, IsBalance}
use Rattle.fib_ply.specs.Prefixes.{Look, IsAnswer, Needs}
use Rattle.fib_ply.specs.Served.{Paths, IsServed, Watch, Wanted, KeepsBeside}
use Rattle.fib_ply.specs.Fitting.{Fits}

-- addresses below pos are answered as after the change, the others as before it
abbrev pub Mixed : Look → Look → ℕ → ℕ → ℕ → Type 0
Mixed old new pos a o = (a < pos → IsAnswer new a o) × (pos ≤ a → IsAnswer old a o)

-- this ply is there
abbrev pub Has : (ℕ → ℕ → Bool) → ℕ → ℕ → Type 0
Has there d w = there d w ≡ true

-- every prefix's object is a balance, which drops all before the first change; 0.0.0.0/0 is there
pub record IsSound (wants : Watch) (look : Look) (u : View) : Type 0 where
  pub balance : (l c o : ℕ) → look l c ≡ Some o → IsBalance u o
  pub whole : (o : ℕ) × (look 0 0 ≡ Some o)
  pub still : wants.promise.applied ≡ 0 → (l c o t : ℕ) → look l c ≡ Some o → t < 16 → u.cell o t ≡ Drop

abbrev pub IsOne : List ℕ → ℕ → Type 0
IsOne [] x = ⊥
IsOne (y ∷ ys) x = (y ≡ x) ⊎ IsOne ys x

-- the list has each ply of the table, once
pub record IsListed (n : Paths) : Type 0 where
  pub each : (x : ℕ) → n.is_in x ≡ true → IsOne n.all x
  pub only : (x : ℕ) → IsOne n.all x → n.is_in x ≡ true
  pub apart : AllDiffer n.all

-- each ply that is held is in the table, below the root
abbrev pub IsMine : Paths → View → Type 0
IsMine n u = (x : ℕ) → u.is_ply x ≡ true → u.is_held x ≡ true → (n.is_in x ≡ true) × (0 < n.depth x)

-- the change from old to new has come to pos
pub record IsAt (wants : Watch) (there : ℕ → ℕ → Bool) (old new : Look) (pos : ℕ) (n : Paths) (u : View) : Type 0 where
  pub fits : Fits (Mixed old new pos) (Has there) n u
  pub wider : (d w : ℕ) → Needs new (d + 1) w → there (d + 1) w ≡ true
  pub served : IsServed (Wanted wants) n u
  pub kinds : Kinds u
  pub promised : (a p : ℕ) → a < 2 ^ 32 → Wanted wants a p → IsAnswer old a p × IsAnswer new a p
  pub was : IsSound wants old u
  pub sound : IsSound wants new u
  pub kept : KeepsBeside wants u
  pub list : IsListed n

-- the table stands for this set of prefixes
pub record IsTable (wants : Watch) (look : Look) (there : ℕ → ℕ → Bool) (n : Paths) (u : View) : Type 0 where
  pub at : IsAt wants there look look 0 n u
  pub exact : (e w : ℕ) → there (e + 1) w ≡ true → Needs look (e + 1) w

abbrev pub StandsFor : Watch → Look → View → Type 0
StandsFor wants look u = (there : ℕ → ℕ → Bool) × (n : Paths) × IsTable wants look there n u
