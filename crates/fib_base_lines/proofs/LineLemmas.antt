-- The lines of a file, from its front.
use Rattle.std.proofs.Common.{◌≡◌, ◌∷◌, [], ℕ, ◌+◌, ◌-◌, ◌<◌, Bool, List, length, take, drop, Some, None, refl, arith}
use Rattle.std.specs.List.{slice_split, position}
use Rattle.std.proofs.lemmas.List.Splits.{length-slice_split}
use Rattle.std.proofs.lemmas.List.{take_rest}
use Rattle.fib_base_lines.proofs.Splits.{split_none, split_some}
use Rattle.fib_base_lines.specs.Lines.{is_line_feed, without_return, without_empty_end, lines_of}

pub lines_of_nil : lines_of [] ≡ []
unfolding lines_of
lines_of_nil = refl

more_pieces : (piece : List ℕ) (pieces : List (List ℕ)) → 0 < length pieces → without_empty_end (piece ∷ pieces) ≡ piece ∷ without_empty_end pieces
more_pieces piece [] some = absurd (omega arith)
more_pieces [] (next ∷ pieces) some = refl
more_pieces (b ∷ piece) (next ∷ pieces) some = refl

some_pieces : (p : ℕ → Bool) (text : List ℕ) → 0 < length (slice_split p text)
some_pieces p text = omega (arith, length-slice_split p text)

last_piece : (text : List ℕ) → 0 < length text → without_empty_end (text ∷ []) ≡ text ∷ []
last_piece [] some = absurd (omega arith)
last_piece (b ∷ text) some = refl

-- the last line, without a line feed
pub lines_of_last : (text : List ℕ) → 0 < length text → position is_line_feed text ≡ None → lines_of text ≡ without_return text ∷ lines_of []
unfolding lines_of
lines_of_last text some none = rw (split_none is_line_feed text none, last_piece text some) refl

-- a line before a line feed
pub lines_of_first : (text : List ℕ) (at : ℕ) → position is_line_feed text ≡ Some at → lines_of text ≡ without_return (take at text) ∷ lines_of (drop (at + 1) text)
unfolding lines_of
lines_of_first text at found =
    rw (split_some is_line_feed text at found, more_pieces (take at text) (slice_split is_line_feed (drop (at + 1) text)) (some_pieces is_line_feed (drop (at + 1) text))) refl

-- in the forms of the code
pub first_line : (text line : List ℕ) (at : ℕ) → position is_line_feed text ≡ Some at → line ≡ without_return (take at text) → lines_of text ≡ line ∷ lines_of (take (length text - (at + 1)) (drop (at + 1) text))
first_line text line at found is = rw (is, take_rest text (at + 1)) (lines_of_first text at found)

pub last_line : (text line : List ℕ) → 0 < length text → position is_line_feed text ≡ None → line ≡ without_return text → lines_of text ≡ line ∷ lines_of []
last_line text line some none is = rw is (lines_of_last text some none)

-- a text that is empty has no line
pub no_line : (text : List ℕ) → length text ≡ 0 → lines_of text ≡ []
no_line [] e = lines_of_nil
no_line (b ∷ text) e = absurd (omega arith)
