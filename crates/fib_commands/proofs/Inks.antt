-- Words of bytes that are neither blanks nor control bytes, and lines that are joined of them.
use Rattle.std.proofs.Common.{arith, ◌≡◌, ◌&&◌, ◌++◌, ◌∷◌, [], ℕ, zero, suc, ◌+◌, ◌/◌, ◌%◌, ◌^◌, ◌<◌, ◌≤◌, Bool, true, false, cond, nat_lt, List, length, get_or, drop, decimal, Some, None, refl, ◌∙◌, ap}
use Rattle.std.specs.Prelude.{nat_le, flat_map, slice_index, not}
use Rattle.std.specs.Char.{is_ascii_digit}
use Rattle.std.specs.List.{list_all, position, position_or_len, AllByRecursion}
use Rattle.std.specs.Str.{all_ascii_digits}
use Rattle.std.proofs.lemmas.List.Folds.{list_all-append}
use Rattle.std.proofs.lemmas.List.Sums.{position_or_len_is}
use Rattle.std.proofs.lemmas.List.{get_or_append_left, get_or_at, take_at, drop_at, length-append, append_assoc, append-nil}
use Rattle.std.proofs.lemmas.Bool.Decides.{nat_tests}
use Rattle.std.proofs.lemmas.Fmt.{digits_decimal, decimal_nonempty}
use Rattle.fib_addr.proofs.Reading.{model}
use Rattle.fib_addr.specs.Texts.{address_text, prefix_text, mac_text, three_text, pair_text, hex_digit}
use Rattle.fib_addr.specs.Prefixes.{Prefix}
use Rattle.fib_base_lines.specs.LineWords.{is_blank, words_of}
use Rattle.fib_base_lines.specs.Lines.{is_plain, is_plain_byte}
use Rattle.fib_base_lines.proofs.WordLemmas.{words_of_last, words_of_first}
use Rattle.fib_resolve.specs.Names.{is_letter, is_name_byte, is_reserved}
use Rattle.fib_commands.specs.Names.{Words, name_of}
use Rattle.fib_commands.specs.Canonical.{joined, IsName}

-- a byte that is seen: from ! to ~
abbrev pub is_ink : ℕ → Bool
is_ink b = nat_le 33 b && nat_le b 126

-- a word of a canonical line
pub record IsInk (w : List ℕ) : Type 0 where
  pub some : 0 < length w
  pub ink : list_all is_ink w ≡ true

pub and_true : (x y : Bool) → x ≡ true → y ≡ true → (x && y) ≡ true
and_true x y p q = rw (p, q) refl

pub and_split : (x y : Bool) → (x && y) ≡ true → (x ≡ true) × (y ≡ true)
and_split true y e = (refl, e)
and_split false y e = cc

digit_ink : (c : ℕ) → is_ascii_digit c ≡ true → is_ink c ≡ true
digit_ink c e = grind (arith, nat_tests)

digits_ink : (ds : List ℕ) → all_ascii_digits ds ≡ true → list_all is_ink ds ≡ true
digits_ink [] e = refl
digits_ink (d ∷ ds) e = let parts = and_split (is_ascii_digit d) (all_ascii_digits ds) e in and_true (is_ink d) (list_all is_ink ds) (digit_ink d parts.0) (digits_ink ds parts.1)

pub decimal_ink : (n : ℕ) → n < 2 ^ 64 → IsInk (decimal n)
decimal_ink n small = record { some = decimal_nonempty n small; ink = digits_ink (decimal n) (digits_decimal model n small) }

longer : {A : Type 0} (xs ys : List A) → 0 < length xs → 0 < length (xs ++ ys)
longer xs ys some = omega (arith, length-append xs ys)

-- ink, and ink behind a byte of it
pub ink_after : (c : ℕ) (xs ys : List ℕ) → is_ink c ≡ true → IsInk xs → IsInk ys → IsInk (xs ++ c ∷ ys)
ink_after c xs ys is h k = record {
  some = longer xs (c ∷ ys) h.some;
  ink = list_all-append is_ink xs (c ∷ ys) ∙ and_true (list_all is_ink xs) (list_all is_ink (c ∷ ys)) h.ink (and_true (is_ink c) (list_all is_ink ys) is k.ink);
}

pub address_ink : (a : ℕ) → IsInk (address_text a)
unfolding address_text
address_ink a =
    let octet : (n : ℕ) → IsInk (decimal (n % 256)) = λ n. decimal_ink (n % 256) (omega arith) in
    ink_after 46 _ _ refl (octet (a / 2 ^ 24)) (ink_after 46 _ _ refl (octet (a / 2 ^ 16)) (ink_after 46 _ _ refl (octet (a / 2 ^ 8)) (octet a)))

pub prefix_ink : (p : Prefix) → p.len ≤ 32 → IsInk (prefix_text p)
unfolding prefix_text
prefix_ink p short = ink_after 47 _ _ refl (address_ink p.bits) (decimal_ink p.len (omega arith))

hex_ink : (n : ℕ) → n < 16 → is_ink (hex_digit n) ≡ true
hex_ink n small = grind (arith, nat_tests)

pair_ink : (n : ℕ) → IsInk (pair_text n)
pair_ink n = record {
  some = omega arith;
  ink = and_true (is_ink (hex_digit (n / 16 % 16))) _ (hex_ink (n / 16 % 16) (omega arith)) (and_true (is_ink (hex_digit (n % 16))) true (hex_ink (n % 16) (omega arith)) refl);
}

three_ink : (a b c : ℕ) → IsInk (three_text a b c)
unfolding three_text
three_ink a b c = ink_after 58 _ _ refl (pair_ink a) (ink_after 58 _ _ refl (pair_ink b) (pair_ink c))

pub mac_ink : (m : ℕ) → IsInk (mac_text m)
unfolding mac_text
mac_ink m = ink_after 58 _ _ refl (three_ink _ _ _) (three_ink _ _ _)

name_byte_ink : (b : ℕ) → is_name_byte b ≡ true → is_ink b ≡ true
name_byte_ink b e = grind (arith, nat_tests)

name_bytes_ink : (bs : List ℕ) → list_all is_name_byte bs ≡ true → list_all is_ink bs ≡ true
name_bytes_ink [] e = refl
name_bytes_ink (b ∷ bs) e = let parts = and_split (is_name_byte b) (list_all is_name_byte bs) e in and_true (is_ink b) (list_all is_ink bs) (name_byte_ink b parts.0) (name_bytes_ink bs parts.1)

-- what a name is
pub record NameFacts (name : List ℕ) : Type 0 where
  pub letter : is_letter (slice_index name 0) ≡ true
  pub bytes : list_all is_name_byte name ≡ true
  pub free : is_reserved name ≡ false

none_some : {A : Type 0} (b : Bool) (x y : A) → cond b (Some x) None ≡ Some y → b ≡ true
none_some true x y e = refl
none_some false x y e = cc

not_false : (b : Bool) → not b ≡ true → b ≡ false
not_false true e = cc
not_false false e = refl

pub name_facts : (name : List ℕ) → IsName name → NameFacts name
unfolding name_of
name_facts name is =
    let all = none_some _ name name is in
    let a = and_split (is_letter (slice_index name 0)) _ all in
    let b = and_split (nat_le (length name) 31) _ a.1 in
    let c = and_split (list_all is_name_byte name) (not (is_reserved name)) b.1 in
    record { letter = a.0; bytes = c.0; free = not_false (is_reserved name) c.1 }

letter_some : (name : List ℕ) → is_letter (slice_index name 0) ≡ true → 0 < length name
letter_some [] e = cc
letter_some (b ∷ bs) e = omega arith

pub name_ink : (name : List ℕ) → IsName name → IsInk name
name_ink name is = let f = name_facts name is in record { some = letter_some name f.letter; ink = name_bytes_ink name f.bytes }

-- words of ink, joined by spaces
abbrev pub Inks : Words → Type 0
Inks ws = AllByRecursion IsInk ws

ink_at : (xs : List ℕ) (k : ℕ) → list_all is_ink xs ≡ true → k < length xs → is_ink (get_or xs k 0) ≡ true
ink_at [] k e lt = absurd (omega arith)
ink_at (x ∷ xs) zero e lt = (and_split (is_ink x) (list_all is_ink xs) e).0
ink_at (x ∷ xs) (suc k) e lt = ink_at xs k (and_split (is_ink x) (list_all is_ink xs) e).1 (omega arith)

ink_no_blank : (b : ℕ) → is_ink b ≡ true → is_blank b ≡ false
ink_no_blank b e = grind (arith, nat_tests)

found : (p n l : ℕ) → p ≡ n → n < l → cond (nat_lt p l) (Some p) None ≡ Some n
found p n l e lt = grind (arith, nat_tests)

blank_behind : (w rest : List ℕ) → IsInk w → position is_blank (w ++ 32 ∷ rest) ≡ Some (length w)
blank_behind w rest h =
    let at : position_or_len is_blank (w ++ 32 ∷ rest) ≡ length w =
    position_or_len_is is_blank (w ++ 32 ∷ rest) (length w) 0 (omega (arith, length-append w (32 ∷ rest)))
    (λ k lt. rw (get_or_append_left w (32 ∷ rest) 0 k lt) (ink_no_blank (get_or w k 0) (ink_at w k h.ink lt)))
    (λ _. rw (get_or_at w 32 rest 0 (length w) refl) refl) in
    found (position_or_len is_blank (w ++ 32 ∷ rest)) (length w) (length (w ++ 32 ∷ rest)) at (omega (arith, length-append w (32 ∷ rest)))

drop_past : (xs ys : List ℕ) (c : ℕ) → drop (length xs + 1) (xs ++ c ∷ ys) ≡ ys
drop_past xs ys c = rw (← append_assoc xs (c ∷ []) ys) (drop_at (xs ++ c ∷ []) ys (length xs + 1) (length-append xs (c ∷ [])))

none_found : (p l : ℕ) → p ≡ l → cond (nat_lt p l) (Some p) None ≡ None
none_found p l e = grind (arith, nat_tests)

no_blank : (w : List ℕ) → IsInk w → position is_blank w ≡ None
no_blank w h =
    none_found (position_or_len is_blank w) (length w)
    (position_or_len_is is_blank w (length w) 0 (omega arith) (λ k lt. ink_no_blank (get_or w k 0) (ink_at w k h.ink lt)) (λ lt. absurd (omega (arith, lt))))

first_byte : (w rest : List ℕ) → IsInk w → is_blank (get_or (w ++ rest) 0 0) ≡ false
first_byte w rest h = rw (get_or_append_left w rest 0 0 h.some) (ink_no_blank (get_or w 0 0) (ink_at w 0 h.ink h.some))

-- the words of such a line are these
pub words_again : (w : List ℕ) (ws : Words) → IsInk w → Inks ws → words_of (joined (w ∷ ws)) ≡ w ∷ ws
words_again w [] h hs = rw (append-nil w) (words_of_last w h.some (no_blank w h))
words_again w (v ∷ ws) h hs =
    let rest = joined (v ∷ ws) in
    words_of_first (w ++ 32 ∷ rest) (length w) (longer w (32 ∷ rest) h.some) (first_byte w (32 ∷ rest) h) (blank_behind w rest h)
    ∙ ap (λ (x : List ℕ). x ∷ words_of (drop (length w + 1) (w ++ 32 ∷ rest))) (take_at w (32 ∷ rest) (length w) refl)
    ∙ ap (λ (x : List ℕ). w ∷ words_of x) (drop_past w rest 32)
    ∙ ap (λ (xs : Words). w ∷ xs) (words_again v ws hs.0 hs.1)

ink_plain : (b : ℕ) → is_ink b ≡ true → is_plain_byte b ≡ true
ink_plain b e = grind (arith, nat_tests)

inks_plain : (w : List ℕ) → list_all is_ink w ≡ true → list_all is_plain_byte w ≡ true
inks_plain [] e = refl
inks_plain (b ∷ bs) e = let parts = and_split (is_ink b) (list_all is_ink bs) e in and_true (is_plain_byte b) (list_all is_plain_byte bs) (ink_plain b parts.0) (inks_plain bs parts.1)

tails_plain : (ws : Words) → Inks ws → list_all is_plain_byte (flat_map (λ v. 32 ∷ v) ws) ≡ true
tails_plain [] hs = refl
tails_plain (w ∷ ws) hs = list_all-append is_plain_byte w (flat_map (λ v. 32 ∷ v) ws) ∙ and_true (list_all is_plain_byte w) _ (inks_plain w hs.0.ink) (tails_plain ws hs.1)

-- and its bytes may stand in a command
pub joined_plain : (w : List ℕ) (ws : Words) → IsInk w → Inks ws → is_plain (joined (w ∷ ws)) ≡ true
joined_plain w ws h hs = list_all-append is_plain_byte w (flat_map (λ v. 32 ∷ v) ws) ∙ and_true (list_all is_plain_byte w) _ (inks_plain w h.ink) (tails_plain ws hs)
