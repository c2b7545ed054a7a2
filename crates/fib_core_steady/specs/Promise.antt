-- What cells hold where all versions of a list want the same: once over a cell's word and where edges go, and then over a union's cells.
use Rattle.std.specs.Prelude.{◌≡◌, ℕ, ◌%◌, ◌<◌, List, Option, Some}
use Rattle.fib_addr.specs.Prefixes.{Prefix}
use Rattle.fib_resolve.specs.declared.types.End.{End}
use Rattle.fib_resolve.specs.declared.types.End.TheVariants as answers
use Rattle.fib_resolve.specs.declared.types.Tables.{Tables}
use Rattle.fib_core.specs.declared.word.Word.{Word}
use Rattle.fib_core.specs.declared.word.Word.TheVariants as words
use Rattle.fib_union.specs.Unions.{owner}
use Rattle.fib_core.specs.Words.{decoded}
use Rattle.fib_core.specs.Walk.{word_at, adjacency_end}
use Rattle.fib_core.specs.Union.{Union, Goes}
use Rattle.fib_resolve.specs.declared.aims.Aim.{Aim}
use Rattle.fib_resolve.specs.declared.aims.Aim.TheVariants as aims
use Rattle.fib_core_steady.specs.Aims.{IsLasting, WantsAlike, BestAlike}
use Rattle.fib_core_steady.specs.Names.{Names, IsChild, IsIn, IsWalked}

-- the word ends a packet there; adjacencies end as end_of says
abbrev pub IsEndWord : (ℕ → End) → End → Word → Type 0
IsEndWord end_of answers.Drop w = w ≡ words.Drop
IsEndWord end_of answers.Receive w = w ≡ words.Receive
IsEndWord end_of (answers.Glean i) w = w ≡ words.Glean i
IsEndWord end_of (answers.Hop i a m) w = (x : ℕ) × (w ≡ words.ToAdjacency x) × (end_of x ≡ answers.Hop i a m)

-- the word does what is aimed at
abbrev pub IsAimed : (Prefix → Option ℕ) → (ℕ → End) → Aim → Word → Type 0
IsAimed balances end_of (aims.Ends end) w = IsEndWord end_of end w
IsAimed balances end_of (aims.On e) w = (x : ℕ) × (w ≡ words.ToBalance x) × (balances e ≡ Some x)

-- first point: an entry of all versions has a balance, which is held, and a bucket for which all want the same holds its word
pub record KeepsBuckets (J : List Tables) (balances : Prefix → Option ℕ) (word : ℕ → ℕ → Word) (end_of : ℕ → End)
    (Held : ℕ → Type 0) : Type 0 where
  pub named : (e : Prefix) → IsLasting J e → (o : ℕ) × (balances e ≡ Some o)
  pub held : (e : Prefix) (o : ℕ) → IsLasting J e → balances e ≡ Some o → Held o
  pub aimed : (e : Prefix) (o k : ℕ) (m : Aim) → IsLasting J e → balances e ≡ Some o → k < 16 → WantsAlike J e k m
      → IsAimed balances end_of m (word o k)

-- the cell of a ply misleads no address whose best entry is one and the same in all versions
abbrev pub IsRight : List Tables → Names → ℕ → ℕ → Word → Type 0
IsRight J n x s (words.ToPly c) = Unit {0}
IsRight J n x s (words.ToBalance o) =
    (a : ℕ) (e : Prefix) → IsIn n x s a → BestAlike J a e → n.balance e ≡ Some o
IsRight J n x s words.Drop = ⊥
IsRight J n x s words.Receive = ⊥
IsRight J n x s (words.Glean i) = ⊥
IsRight J n x s (words.ToAdjacency y) = ⊥
IsRight J n x s (words.Plain m) = ⊥

-- second point: each ply has one nibble path, by which alone edges lead to it
pub record HasPaths (n : Names) (Leads : ℕ → ℕ → ℕ → Type 0) : Type 0 where
  pub root : (n.depth 0 ≡ 0) × (n.value 0 ≡ 0)
  pub paths : (x s c : ℕ) → Leads x s c → IsChild n x s c

-- and each ply on which a pass may stand sends addresses right
abbrev pub SendsRight : List Tables → Names → (ℕ → Type 0) → (ℕ → ℕ → Word) → Type 0
SendsRight J n IsOn word = (x s : ℕ) → IsOn x → s < 16 → IsRight J n x s (word x s)

-- the first point over cells; what is held is told apart
abbrev pub KeepsCells : List Tables → (Prefix → Option ℕ) → List ℕ → Type 0
KeepsCells J balances cells = KeepsBuckets J balances (word_at cells) (adjacency_end cells) (λ o. Unit {0})

-- an edge, current or retired, from the cell s of x to the ply c
abbrev pub LeadsIn : Union → ℕ → ℕ → ℕ → Type 0
LeadsIn u x s c = (k : ℕ) × (w : ℕ) × (owner k ≡ x) × (k % 16 ≡ s) × (decoded w ≡ words.ToPly c) × Goes u k w

-- the second over a union
pub record KeepsPlies (J : List Tables) (n : Names) (u : Union) : Type 0 where
  pub ways : HasPaths n (LeadsIn u)
  pub right : SendsRight J n (IsWalked u) (word_at u.cells)

-- both points
pub record IsPromised (J : List Tables) (n : Names) (u : Union) : Type 0 where
  pub buckets : KeepsCells J n.balance u.cells
  pub plies : KeepsPlies J n u
