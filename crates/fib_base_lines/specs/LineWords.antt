-- The words of a line.
use Rattle.std.specs.Prelude.{ℕ, ◌==◌, ◌||◌, ◌∷◌, [], List, Bool, true, false, filter, slice_index}
use Rattle.std.specs.List.{slice_split}
use Rattle.std.specs.Str.{bytes_eq}

-- a space or a tab
abbrev pub is_blank : ℕ → Bool
is_blank b = b == 32 || b == 9

abbrev pub is_some_word : List ℕ → Bool
is_some_word [] = false
is_some_word _ = true

-- the words of a line: what stands between its blanks and is not empty
unfoldable pub words_of : List ℕ → List (List ℕ)
words_of line = filter is_some_word (slice_split is_blank line)

-- whether a word is left
abbrev pub has_word : List (List ℕ) → Bool
has_word [] = false
has_word _ = true

-- whether the next word is this one
abbrev pub next_is : List ℕ → List (List ℕ) → Bool
next_is text [] = false
next_is text (word ∷ words) = bytes_eq word text

-- the words of a line that does nothing: none, or a first one that begins with #
abbrev pub is_idle : List (List ℕ) → Bool
is_idle [] = true
is_idle (word ∷ words) = slice_index word 0 == 35
