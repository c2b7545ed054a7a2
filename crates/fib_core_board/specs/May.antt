-- What a board's calls ask, and what a plane keeps for it.
use Rattle.std.specs.Prelude.{◌≡◌, ℕ, ◌<◌, ◌⊎◌, false, slice_index_or}
use Rattle.fib_union.specs.Unions.{owner}
use Rattle.fib_resolve.specs.declared.types.Tables.{Tables}
use Rattle.fib_core.specs.declared.word.Word.{Word}
use Rattle.fib_core.specs.declared.word.Word.TheVariants as words
use Rattle.fib_core.specs.Words.{encoded}
use Rattle.fib_core_rule.specs.Change as rule
use Rattle.fib_core_rule.specs.Change.{MayPlace}
use Rattle.fib_core_rule.specs.May as events
use Rattle.fib_core_rule.specs.Serving as serving
use Rattle.fib_core_rule.specs.Steady.{MayStoreSteadily}
use Rattle.fib_core_lawful.specs.May as lawfully
use Rattle.fib_core_board.specs.Boards.{Board, as_control}

-- passes may come to the object: it is 0, or an edge leads there
abbrev pub IsReached : Board → ℕ → Type 0
IsReached b o = rule.IsReached (as_control b) o

-- a time at which stores are allowed: a change is being made, or nothing has been changed yet and nobody is out
abbrev pub Allows : Board → Type 0
Allows b =
    (b.log.version.settled < b.log.version.applied)
    ⊎ ((b.log.version.applied ≡ 0) × ((n : ℕ) → slice_index_or b.out n false ≡ false))

-- what a store asks that speaks of what workers may see, of steady traffic and of plies
abbrev pub MayChange : Board → ℕ → Word → Type 0
MayChange b k w = rule.MayChange (as_control b) k w

-- an object into which nothing leads may be cleared: it is the balance of no entry of all versions from settled to applied
abbrev pub MayClear : Board → ℕ → Type 0
MayClear b o = serving.MayClear (as_control b) o

-- a Drop in the cell k keeps the promise of steady traffic, for the same names
abbrev pub MayEmpty : Board → ℕ → Type 0
MayEmpty b k = MayStoreSteadily (as_control b) k (encoded words.Drop)

-- a store of w into the cell k. A Drop in an object that no pass can reach asks nothing of what workers may see but steady traffic: the object may
-- be the balance of an entry of all versions, of which a bucket is wanted otherwise now
pub record MayStore (b : Board) (k : ℕ) (w : Word) : Type 0 where
  pub place : MayPlace (as_control b) k w
  pub seen : (w ≡ words.Drop → IsReached b (owner k)) → MayChange b k w
  pub aside : w ≡ words.Drop → (IsReached b (owner k) → ⊥) → MayEmpty b k

-- steady traffic through what is cleared: for some names the promise holds, and the balance of each entry of all versions is held
abbrev pub HoldsPromise : Board → (ℕ → Type 0) → Type 0
HoldsPromise b Held = serving.HoldsPromise (as_control b) Held

-- a version is begun with these tables
abbrev pub MayBegin : Board → Tables → Type 0
MayBegin b next = events.MayBegin (as_control b) next

-- and settled
abbrev pub MaySettle : Board → Type 0
MaySettle b = lawfully.MaySettle b.union b.log
