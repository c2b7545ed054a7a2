-- The lines of loads.
use Rattle.std.specs.Prelude.{ℕ, ◌+◌, ◌++◌, List, [], ◌∷◌, codes, decimal}
use Rattle.fib_resolve.specs.declared.types.Tables.{Tables}
use Rattle.fib_resolve.specs.declared.types.End.TheVariants as answers
use Rattle.fib_core.specs.declared.word.Word.{Word}
use Rattle.fib_core.specs.declared.word.Word.TheVariants as words
use Rattle.fib_print.specs.Ends.{end_text}
use Rattle.fib_trace.specs.declared.load.Load.{Load}

-- a cell that ends a pass has that end's text
abbrev pub word_text : Tables → Word → List ℕ
word_text S words.Drop = end_text S answers.Drop
word_text S words.Receive = end_text S answers.Receive
word_text S (words.Glean i) = end_text S (answers.Glean i)
word_text S (words.ToPly o) = codes "ply " ++ decimal o
word_text S (words.ToBalance o) = codes "balance " ++ decimal o
word_text S (words.ToAdjacency o) = codes "adjacency " ++ decimal o
word_text S (words.Plain n) = codes "plain " ++ decimal n

unfoldable pub place_text : ℕ → ℕ → ℕ → List ℕ
place_text k object slot = codes "hop " ++ decimal k ++ codes " object " ++ decimal object ++ codes " slot " ++ decimal slot ++ codes " "

-- hop K object O slot S WORD
unfoldable pub load_text : Tables → ℕ → Load → List ℕ
load_text S k l = place_text k l.object l.slot ++ word_text S l.word ++ codes "\n"

-- numbered from k
abbrev pub loads_text : Tables → ℕ → List Load → List ℕ
loads_text S k [] = []
loads_text S k (l ∷ loads) = load_text S k l ++ loads_text S (k + 1) loads
