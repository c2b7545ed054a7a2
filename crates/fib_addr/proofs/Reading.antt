-- What a loop over digits knows, in the words of the grammar.
use Rattle.std.proofs.Common.{◌≡◌, ℕ, ◌+◌, ◌-◌, ◌*◌, ◌<◌, ◌≤◌, ◌&&◌, true, false, List, length, get_or, take, drop, Some, None, arith, ◌∙◌, sym, ap}
use Rattle.std.specs.Char.{is_ascii_digit}
use Rattle.std.specs.Str.{all_ascii_digits}
use Rattle.std.specs.Str.Parse.{digits_value}
use Rattle.std.specs.Int.{IsInRange}
use Rattle.std.proofs.lemmas.List.{at_drop_more, take_all, drop_all}
use Rattle.std.proofs.lemmas.Int.Digits.{digits_value_more}
use Rattle.std.proofs.lemmas.Str.Parse.{IsNumeralModel, numerals_by_value, tells_all_ascii_digits, digits_value-take-le}
use Rattle.std.proofs.lemmas.Str.{digit_value_digit}
use Rattle.std.proofs.lemmas.Bool.Decides.{nat_tests}
use Rattle.fib_addr.specs.Texts.{number_of}

pub model : IsNumeralModel (λ ds. all_ascii_digits ds ≡ true) (digits_value 10)
model = numerals_by_value _ tells_all_ascii_digits

-- a text that is a number
pub number_of_some : (width greatest : ℕ) (text : List ℕ) → all_ascii_digits text ≡ true → 0 < length text → length text ≤ width → digits_value 10 text ≤ greatest → number_of width greatest text ≡ Some (digits_value 10 text)
unfolding number_of
number_of_some width greatest text d p w g = grind (arith, nat_tests)

-- texts that are none
pub number_of_length : (width greatest : ℕ) (text : List ℕ) → (0 < length text → width < length text) → number_of width greatest text ≡ None
unfolding number_of
number_of_length width greatest text w = grind (arith, nat_tests)

pub number_of_other : (width greatest : ℕ) (text : List ℕ) → all_ascii_digits text ≡ false → number_of width greatest text ≡ None
unfolding number_of
number_of_other width greatest text d = grind (arith, nat_tests)

number_of_great : (width greatest : ℕ) (text : List ℕ) → greatest < digits_value 10 text → number_of width greatest text ≡ None
unfolding number_of
number_of_great width greatest text d = grind (arith, nat_tests)

-- a front whose value is too great
pub number_of_great_front : (width greatest i : ℕ) (text : List ℕ) → greatest < digits_value 10 (take i text) → number_of width greatest text ≡ None
number_of_great_front width greatest i text g = number_of_great width greatest text (omega (arith, digits_value-take-le 10 text i (omega arith)))

-- the step of the loop
pub digits_more : (text : List ℕ) (i : ℕ) → i < length text → all_ascii_digits (drop i text) ≡ (is_ascii_digit (get_or text i 0) && all_ascii_digits (drop (i + 1) text))
digits_more text i lt = at_drop_more all_ascii_digits text i 0 lt

digit_range : (c : ℕ) → is_ascii_digit c ≡ true → IsInRange 48 57 c
digit_range c d = grind (arith, nat_tests)

pub value_more : (text : List ℕ) (i : ℕ) → i < length text → is_ascii_digit (get_or text i 0) ≡ true → digits_value 10 (take (i + 1) text) ≡ digits_value 10 (take i text) * 10 + (get_or text i 0 - 48)
value_more text i lt d = omega (arith, digits_value_more 10 text i lt, digit_value_digit (get_or text i 0) (digit_range (get_or text i 0) d))

-- the end of the loop
pub number_of_all : (width greatest value i : ℕ) (text : List ℕ) → length text ≤ i → all_ascii_digits (drop i text) ≡ all_ascii_digits text → value ≡ digits_value 10 (take i text) → value ≤ greatest → 0 < length text → length text ≤ width → number_of width greatest text ≡ Some value
number_of_all width greatest value i text past digits is small some short =
    let none = drop_all i text past in
    let same : all_ascii_digits text ≡ true = sym digits ∙ ap all_ascii_digits none in
    let whole : value ≡ digits_value 10 text = is ∙ ap (digits_value 10) (take_all i text past) in
    rw whole (number_of_some width greatest text same some short (omega arith))
