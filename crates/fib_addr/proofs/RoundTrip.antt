-- Printed texts are read back.
use Rattle.std.proofs.Common.{◌≡◌, ◌≢◌, ◌==◌, ◌++◌, ◌∷◌, ℕ, ◌+◌, ◌*◌, ◌/◌, ◌%◌, ◌<◌, ◌≤◌, ◌^◌, List, length, get_or, drop, Some, None, refl, arith, decimal, ap, ◌∙◌, cond, nat_lt, [], zero, suc, sym}
use Rattle.std.specs.List.{position, position_or_len}
use Rattle.std.proofs.lemmas.List.Sums.{position_or_len_is}
use Rattle.std.proofs.lemmas.List.{get_or_append_left, get_or_at, take_at, drop_at, length-append, append_assoc}
use Rattle.std.proofs.lemmas.Bool.Decides.{nat_tests}
use Rattle.std.proofs.lemmas.Str.Parse.{not_in_digits}
use Rattle.std.proofs.lemmas.Fmt.{digits_decimal, digits_value-decimal, decimal_nonempty, length-decimal-le}
use Rattle.fib_addr.specs.Texts.{number_of, cut_at, octet_of, address_of, address_text, prefix_of, prefix_text, hex_of, pair_of, mac_of, hex_digit, pair_text, mac_text, three_text, mac_number, AddressesAreReadBack, PrefixesAreReadBack, MacsAreReadBack}
use Rattle.fib_addr.proofs.Reading.{model, number_of_some}

-- no byte of xs is c
abbrev pub Lacks : ℕ → List ℕ → Type 0
Lacks c xs = (i : ℕ) → i < length xs → get_or xs i 0 ≢ c

-- the first c stands behind a text that lacks it
position_at : (c : ℕ) (xs ys : List ℕ) → Lacks c xs → position_or_len (λ b. b == c) (xs ++ c ∷ ys) ≡ length xs
position_at c xs ys lacks =
    position_or_len_is (λ b. b == c) (xs ++ c ∷ ys) (length xs) 0 (omega (arith, length-append xs (c ∷ ys)))
    (λ k lt. let e = get_or_append_left xs (c ∷ ys) 0 k lt in let ne = lacks k lt in rw e (grind (arith, nat_tests)))
    (λ _. let e = get_or_at xs c ys 0 (length xs) refl in rw e (grind (arith, nat_tests)))

found : (p n l : ℕ) → p ≡ n → n < l → cond (nat_lt p l) (Some p) None ≡ Some n
found p n l e lt = grind (arith, nat_tests)

drop_past : (xs ys : List ℕ) (c : ℕ) → drop (length xs + 1) (xs ++ c ∷ ys) ≡ ys
drop_past xs ys c = rw (← append_assoc xs (c ∷ []) ys) (drop_at (xs ++ c ∷ []) ys (length xs + 1) (length-append xs (c ∷ [])))

position_first : (c : ℕ) (xs ys : List ℕ) → Lacks c xs → position (λ b. b == c) (xs ++ c ∷ ys) ≡ Some (length xs)
position_first c xs ys lacks =
    let at = position_at c xs ys lacks in
    let within : length xs < length (xs ++ c ∷ ys) = omega (arith, length-append xs (c ∷ ys)) in
    found (position_or_len (λ b. b == c) (xs ++ c ∷ ys)) (length xs) (length (xs ++ c ∷ ys)) at within

pub cut_at_first : (c : ℕ) (xs ys : List ℕ) → Lacks c xs → cut_at c (xs ++ c ∷ ys) ≡ Some (xs, ys)
unfolding cut_at
cut_at_first c xs ys lacks = rw (position_first c xs ys lacks, take_at xs (c ∷ ys) (length xs) refl, drop_past xs ys c) refl

-- a printed number is read back
pub number_of_decimal : (width greatest n : ℕ) → 0 < width → n < 10 ^ width → n ≤ greatest → n < 2 ^ 64 → number_of width greatest (decimal n) ≡ Some n
number_of_decimal width greatest n w fits g small =
    let value = digits_value-decimal model n small in
    number_of_some width greatest (decimal n) (digits_decimal model n small) (decimal_nonempty n small) (length-decimal-le width n w fits small) (omega (arith, value)) ∙ ap Some value

pub decimal_lacks : (c n : ℕ) → c < 48 → n < 2 ^ 64 → Lacks c (decimal n)
decimal_lacks c n lt small = not_in_digits model (decimal n) c (digits_decimal model n small) (λ range. omega (arith, range.0))

octet_again : (n : ℕ) → n < 256 → octet_of (decimal n) ≡ Some n
octet_again n lt = number_of_decimal 3 255 n (omega arith) (omega arith) (omega arith) (omega arith)

four_again : (w x y z : ℕ) → w < 256 → x < 256 → y < 256 → z < 256
    → address_of (decimal w ++ 46 ∷ (decimal x ++ 46 ∷ (decimal y ++ 46 ∷ decimal z))) ≡ Some (((w * 256 + x) * 256 + y) * 256 + z)
unfolding address_of
four_again w x y z a b c d =
    let cw = cut_at_first 46 (decimal w) (decimal x ++ 46 ∷ (decimal y ++ 46 ∷ decimal z)) (decimal_lacks 46 w (omega arith) (omega arith)) in
    let cx = cut_at_first 46 (decimal x) (decimal y ++ 46 ∷ decimal z) (decimal_lacks 46 x (omega arith) (omega arith)) in
    let cy = cut_at_first 46 (decimal y) (decimal z) (decimal_lacks 46 y (omega arith) (omega arith)) in
    rw (cw, cx, cy, octet_again w a, octet_again x b, octet_again y c, octet_again z d) refl

pub address_again : AddressesAreReadBack
unfolding address_text
address_again a lt = four_again (a / 2 ^ 24 % 256) (a / 2 ^ 16 % 256) (a / 2 ^ 8 % 256) (a % 256) (omega arith) (omega arith) (omega arith) (omega arith) ∙ ap Some (omega arith)

lacks_append : (c : ℕ) (xs ys : List ℕ) → Lacks c xs → Lacks c ys → Lacks c (xs ++ ys)
lacks_append c [] ys l m i lt = m i lt
lacks_append c (x ∷ xs) ys l m zero lt = l zero (omega arith)
lacks_append c (x ∷ xs) ys l m (suc i) lt = lacks_append c xs ys (λ k h. l (suc k) (omega arith)) m i (omega arith)

lacks_cons : (c x : ℕ) (xs : List ℕ) → x ≢ c → Lacks c xs → Lacks c (x ∷ xs)
lacks_cons c x xs ne l zero lt = ne
lacks_cons c x xs ne l (suc i) lt = l i (omega arith)

address_lacks : (c a : ℕ) → c < 48 → c ≢ 46 → Lacks c (address_text a)
unfolding address_text
address_lacks c a lt other =
    let octet : (n : ℕ) → Lacks c (decimal (n % 256)) = λ n. decimal_lacks c (n % 256) lt (omega arith) in
    let dot : 46 ≢ c = λ e. other (sym e) in
    lacks_append c _ _ (octet _) (lacks_cons c 46 _ dot (lacks_append c _ _ (octet _) (lacks_cons c 46 _ dot (lacks_append c _ _ (octet _) (lacks_cons c 46 _ dot (octet _))))))

pub prefix_again : PrefixesAreReadBack
unfolding prefix_text prefix_of
prefix_again net small short =
    let parts = cut_at_first 47 (address_text net.bits) (decimal net.len) (address_lacks 47 net.bits (omega arith) (omega arith)) in
    rw (parts, address_again net.bits small, number_of_decimal 2 32 net.len (omega arith) (omega arith) (omega arith) (omega arith)) refl

hex_again : (n : ℕ) → n < 16 → hex_of (hex_digit n) ≡ Some n
unfolding hex_of
hex_again n small = grind (arith, nat_tests)

pair_again : (n : ℕ) → pair_of (pair_text n) ≡ Some (n % 256)
unfolding pair_of
pair_again n = rw (hex_again (n / 16 % 16) (omega arith), hex_again (n % 16) (omega arith)) (ap Some (omega arith))

pair_lacks : (n : ℕ) → Lacks 58 (pair_text n)
pair_lacks n zero lt = grind (arith, nat_tests)
pair_lacks n (suc zero) lt = grind (arith, nat_tests)
pair_lacks n (suc (suc i)) lt = absurd (omega (arith, lt))

six_again : (a b c d e f : ℕ)
    → mac_of (pair_text a ++ 58 ∷ (pair_text b ++ 58 ∷ (pair_text c ++ 58 ∷ (pair_text d ++ 58 ∷ (pair_text e ++ 58 ∷ pair_text f)))))
    ≡ Some (mac_number (a % 256 ∷ b % 256 ∷ c % 256 ∷ []) (d % 256 ∷ e % 256 ∷ f % 256 ∷ []))
unfolding mac_of
six_again a b c d e f =
    let ca = cut_at_first 58 (pair_text a) (pair_text b ++ 58 ∷ (pair_text c ++ 58 ∷ (pair_text d ++ 58 ∷ (pair_text e ++ 58 ∷ pair_text f)))) (pair_lacks a) in
    let cb = cut_at_first 58 (pair_text b) (pair_text c ++ 58 ∷ (pair_text d ++ 58 ∷ (pair_text e ++ 58 ∷ pair_text f))) (pair_lacks b) in
    let cc' = cut_at_first 58 (pair_text c) (pair_text d ++ 58 ∷ (pair_text e ++ 58 ∷ pair_text f)) (pair_lacks c) in
    let cd = cut_at_first 58 (pair_text d) (pair_text e ++ 58 ∷ pair_text f) (pair_lacks d) in
    let ce = cut_at_first 58 (pair_text e) (pair_text f) (pair_lacks e) in
    rw (ca, cb, cc', cd, ce, pair_again a, pair_again b, pair_again c, pair_again d, pair_again e, pair_again f) refl

pub mac_again : MacsAreReadBack
unfolding mac_text three_text
mac_again m small = six_again (m / 2 ^ 40) (m / 2 ^ 32) (m / 2 ^ 24) (m / 2 ^ 16) (m / 2 ^ 8) m ∙ ap Some (omega arith)
