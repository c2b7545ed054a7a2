-- A walk over the cells of a view, hop by hop, as the cells' own definition makes it.
use Rattle.std.specs.Prelude.{◌≡◌, ℕ, zero, suc, ◌%◌, ◌^◌, ◌<◌}
use Rattle.fib_core.specs.declared.word.Word.{Word}
use Rattle.fib_core.specs.Walk.{Place, ply, root, object_of, asked, next}
use Rattle.fib_core_steady.specs.Names.{IsBelow}
use Rattle.fib_plane_view.specs.View.{View}

-- one hop: the word in the cell that is asked says where the walk goes on
abbrev pub hopped : (ℕ → ℕ → Word) → ℕ → ℕ → Place → Place
hopped cell a h p = next p (cell (object_of p) (asked a h p % 16))

-- and so many
abbrev pub hops : (ℕ → ℕ → Word) → ℕ → ℕ → ℕ → Place → Place
hops cell a h zero p = p
hops cell a h (suc n) p = hops cell a h n (hopped cell a h p)

-- after d hops the walk of each address of the block w of depth d stands on this ply
abbrev pub IsPlyOf : View → ℕ → ℕ → ℕ → Type 0
IsPlyOf u d w x = (a h : ℕ) → a < 2 ^ 32 → IsBelow a d w → hops u.cell a h d root ≡ ply x d
