-- The script's lines have no line feed and no carriage return, so they are read back from its text.
use Rattle.std.proofs.Common.{◌≡◌, ◌∙◌, ℕ, ◌-◌, ◌/◌, ◌%◌, ◌^◌, ◌<◌, ◌==◌, ◌++◌, ◌∷◌, [], zero, suc, List, true, false, length, decimal, get_or, refl, ap, arith}
use Rattle.std.specs.Prelude.{slice_index}
use Rattle.std.specs.Char.{is_ascii_digit}
use Rattle.std.specs.List.{AllByRecursion, slice_split}
use Rattle.std.specs.Str.{all_ascii_digits}
use Rattle.std.proofs.lemmas.Bool.Decides.{nat_tests}
use Rattle.std.proofs.lemmas.Fmt.{digits_decimal}
use Rattle.std.proofs.lemmas.List.{append_assoc}
use Rattle.std.proofs.lemmas.List.Folds.{list_all-append}
use Rattle.std.proofs.lemmas.List.Splits.{slice_split_at, length-slice_split}
use Rattle.fib_base_list.proofs.Booleans.{and_both}
use Rattle.fib_addr.proofs.Reading.{model}
use Rattle.fib_addr.specs.Texts.{hex_digit, pair_text, three_text, mac_text}
use Rattle.fib_base_lines.specs.Lines.{is_plain_byte, is_plain, is_line_feed, without_return, without_empty_end, lines_of}
use Rattle.fib_soak.specs.Scripts.{text_of}
use Rattle.fib_soak.proofs.Texts.{text_none, text_cons}

-- each of its bytes may stand in a command
abbrev pub IsClean : List ℕ → Type 0
IsClean line = is_plain line ≡ true

pub clean_append : (a b : List ℕ) → IsClean a → IsClean b → IsClean (a ++ b)
clean_append a b p q = rw (list_all-append is_plain_byte a b, p, q) refl

digit_clean : (c : ℕ) → is_ascii_digit c ≡ true → is_plain_byte c ≡ true
digit_clean c e = grind (arith, nat_tests)

digits_clean : (ds : List ℕ) → all_ascii_digits ds ≡ true → IsClean ds
digits_clean [] e = refl
digits_clean (d ∷ ds) e = let parts = and_both (is_ascii_digit d) (all_ascii_digits ds) e in rw (digit_clean d parts.0, digits_clean ds parts.1) refl

pub decimal_clean : (n : ℕ) → n < 2 ^ 64 → IsClean (decimal n)
decimal_clean n small = digits_clean (decimal n) (digits_decimal model n small)

-- what stands behind a number decides
pub number_then : (n : ℕ) (rest : List ℕ) → n < 2 ^ 64 → is_plain (decimal n ++ rest) ≡ is_plain rest
number_then n rest small = rw (list_all-append is_plain_byte (decimal n) rest, decimal_clean n small) refl

hex_clean : (n : ℕ) → n < 16 → is_plain_byte (hex_digit n) ≡ true
hex_clean n small = grind (arith, nat_tests)

pair_clean : (n : ℕ) → IsClean (pair_text n)
pair_clean n = rw (hex_clean (n / 16 % 16) (omega arith), hex_clean (n % 16) (omega arith)) refl

three_clean : (a b c : ℕ) → IsClean (three_text a b c)
unfolding three_text
three_clean a b c =
    clean_append (pair_text a) (58 ∷ (pair_text b ++ 58 ∷ pair_text c)) (pair_clean a)
    (clean_append (58 ∷ pair_text b) (58 ∷ pair_text c) (pair_clean b) (pair_clean c))

pub mac_clean : (m : ℕ) → IsClean (mac_text m)
unfolding mac_text
mac_clean m =
    clean_append (three_text (m / 2 ^ 40) (m / 2 ^ 32) (m / 2 ^ 24)) (58 ∷ three_text (m / 2 ^ 16) (m / 2 ^ 8) m)
    (three_clean (m / 2 ^ 40) (m / 2 ^ 32) (m / 2 ^ 24)) (three_clean (m / 2 ^ 16) (m / 2 ^ 8) m)

no_feed : (b : ℕ) → is_plain_byte b ≡ true → is_line_feed b ≡ false
no_feed b e = grind (arith, nat_tests)

no_return : (b : ℕ) → is_plain_byte b ≡ true → (b == 13) ≡ false
no_return b e = grind (arith, nat_tests)

byte_clean : (line : List ℕ) (k d : ℕ) → IsClean line → k < length line → is_plain_byte (get_or line k d) ≡ true
byte_clean [] k d e lt = absurd (omega (arith, lt))
byte_clean (b ∷ line) zero d e lt = (and_both (is_plain_byte b) (is_plain line) e).0
byte_clean (b ∷ line) (suc k) d e lt = byte_clean line k d (and_both (is_plain_byte b) (is_plain line) e).1 (omega (arith, lt))

-- its last byte is no carriage return
kept_whole : (line : List ℕ) → IsClean line → without_return line ≡ line
kept_whole [] e = refl
kept_whole (b ∷ line) e =
    let at = length (b ∷ line) - 1 in
    rw (no_return (slice_index (b ∷ line) at) (byte_clean (b ∷ line) at 0 e (omega arith))) refl

some_more : (piece : List ℕ) (pieces : List (List ℕ)) → 0 < length pieces → without_empty_end (piece ∷ pieces) ≡ piece ∷ without_empty_end pieces
some_more piece [] some = absurd (omega (arith, some))
some_more [] (next ∷ pieces) some = refl
some_more (b ∷ piece) (next ∷ pieces) some = refl

-- a line before its line feed
line_again : (line rest : List ℕ) → IsClean line → lines_of (line ++ 10 ∷ rest) ≡ line ∷ lines_of rest
unfolding lines_of
line_again line rest clean =
    rw (
      slice_split_at is_line_feed line 10 rest (λ k d lt. no_feed (get_or line k d) (byte_clean line k d clean lt)) refl,
      some_more line (slice_split is_line_feed rest) (omega (arith, length-slice_split is_line_feed rest)),
      kept_whole line clean,
    ) refl

none_again : lines_of [] ≡ []
unfolding lines_of
none_again = refl

-- the lines of a text are those that it was made of
pub lines_again : (lines : List (List ℕ)) → AllByRecursion IsClean lines → lines_of (text_of lines) ≡ lines
lines_again [] clean = ap lines_of text_none ∙ none_again
lines_again (line ∷ lines) clean =
    ap lines_of (text_cons line lines ∙ append_assoc line (10 ∷ []) (text_of lines))
    ∙ line_again line (text_of lines) clean.0
    ∙ ap (λ (more : List (List ℕ)). line ∷ more) (lines_again lines clean.1)
