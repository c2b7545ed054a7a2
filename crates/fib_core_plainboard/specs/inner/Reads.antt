-- What a hop reads of the words, by the stage where the pass stands.
use Rattle.std.specs.Prelude.{◌≡◌, ℕ, ◌+◌, ◌*◌, ◌%◌, ◌^◌, ◌<◌, ◌≤◌, List, length, slice_index}
use Rattle.fib_addr.specs.Prefixes.{nibble}
use Rattle.fib_core.specs.declared.word.Word.{Word}
use Rattle.fib_core.specs.Words.{IsWord, decoded, value_of}
use Rattle.fib_core.specs.Walk.{from_ply, from_balance, halved, hop_of, mac_in}
use Rattle.fib_core.specs.Trails.{IsMac}
use Rattle.fib_core.specs.declared.stage.Stage.{Stage}
use Rattle.fib_core.specs.declared.stage.Stage.TheVariants as stages
use Rattle.fib_core.specs.Stages.{StandsAt}
use Rattle.fib_core_lawful.specs.Layout.{cell_word}

-- the word in the cell k
abbrev pub word_in : List ℕ → ℕ → Word
word_in words k = decoded (slice_index words (cell_word k))

-- the object is one, and its cells hold words
pub record IsIn (words : List ℕ) (o : ℕ) : Type 0 where
  pub room : cell_word (16 * o) + 16 ≤ length words
  pub found : (s : ℕ) → s < 16 → IsWord (slice_index words (cell_word (16 * o + s)))

pub record IsAdjacencyIn (words : List ℕ) (o : ℕ) : Type 0 where
  pub interface : value_of (word_in words (16 * o + 0)) < 2 ^ 32
  pub hop : value_of (word_in words (16 * o + 1)) < 2 ^ 32
  pub mac : IsMac (mac_in (value_of (word_in words (16 * o + 2))))

abbrev pub IsReadable : List ℕ → Stage → Type 0
IsReadable words (stages.Ply o d) = (d ≤ 7) × IsIn words o
IsReadable words (stages.Balance o left) = IsIn words o
IsReadable words (stages.Adjacency o) = IsIn words o × IsAdjacencyIn words o
IsReadable words (stages.Ended e) = Unit {0}

abbrev pub IsNext : List ℕ → ℕ → ℕ → Stage → Stage → Type 0
IsNext words a h (stages.Ply o d) r = StandsAt h (from_ply d (word_in words (16 * o + nibble a d))) r
IsNext words a h (stages.Balance o left) r =
    (m : ℕ) → halved h m ≡ left → StandsAt h (from_balance m (word_in words (16 * o + left % 16))) r
IsNext words a h (stages.Adjacency o) r =
    r ≡ stages.Ended (hop_of (word_in words (16 * o + 0)) (word_in words (16 * o + 1)) (word_in words (16 * o + 2)))
IsNext words a h (stages.Ended e) r = r ≡ stages.Ended e
