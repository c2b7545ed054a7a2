-- The lines of a command file.
use Rattle.std.specs.Prelude.{ℕ, ◌-◌, ◌==◌, ◌||◌, ◌&&◌, ◌∷◌, [], List, Bool, nat_le, if◌then◌else◌, length, take, map, slice_index}
use Rattle.std.specs.List.{slice_split, list_all}

-- a line feed
abbrev pub is_line_feed : ℕ → Bool
is_line_feed b = b == 10

-- one carriage return at the end of a line does not count
abbrev pub without_return : List ℕ → List ℕ
without_return line = if slice_index line (length line - 1) == 13 then take (length line - 1) line else line

-- a last piece that is empty is no line
abbrev pub without_empty_end : List (List ℕ) → List (List ℕ)
without_empty_end [] = []
without_empty_end ([] ∷ []) = []
without_empty_end (piece ∷ pieces) = piece ∷ without_empty_end pieces

-- the lines of a file: its pieces between line feeds
unfoldable pub lines_of : List ℕ → List (List ℕ)
lines_of file = map without_return (without_empty_end (slice_split is_line_feed file))

-- a tab, or a byte from a space to a tilde
abbrev pub is_plain_byte : ℕ → Bool
is_plain_byte b = b == 9 || (nat_le 32 b && nat_le b 126)

-- a line whose bytes may all stand in a command
abbrev pub is_plain : List ℕ → Bool
is_plain line = list_all is_plain_byte line
