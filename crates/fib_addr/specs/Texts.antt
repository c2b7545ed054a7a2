-- The texts of numbers, addresses, prefixes and MACs, as lists of bytes: the usual dotted and colon notations.
use Rattle.std.specs.Prelude.{ℕ, ◌+◌, ◌*◌, ◌/◌, ◌%◌, ◌^◌, ◌-◌, ◌<◌, ◌≤◌, ◌≡◌, ◌==◌, ◌++◌, ◌∷◌, [], ◌&&◌, List, Option, Some, None, Result}
use Rattle.std.specs.Prelude.{Ok, Err, option_and_then, nat_lt, nat_le, if◌then◌else◌, length, take, drop, decimal, fold}
use Rattle.std.specs.Str.{all_ascii_digits}
use Rattle.std.specs.Str.Parse.{digits_value}
use Rattle.std.specs.List.{position}
use Rattle.fib_addr.specs.Prefixes.{Prefix}

infixl 10 ◌>>=◌
abbrev pub ◌>>=◌ : {A B : Type 0} → Option A → (A → Option B) → Option B
o >>= f = option_and_then f o

-- a reader answers the value of the text, and a fault exactly where the text has none
abbrev pub Reads : {X Y E : Type 0} → (X → Y) → Result X E → Option Y → Type 0
Reads view (Ok x) value = value ≡ Some (view x)
Reads view (Err e) value = value ≡ None

-- one to width decimal digits, leading zeros allowed, with a value of at most greatest
unfoldable pub number_of : ℕ → ℕ → List ℕ → Option ℕ
number_of width greatest text =
    if all_ascii_digits text && (nat_lt 0 (length text) && (nat_le (length text) width && nat_le (digits_value 10 text) greatest))
    then Some (digits_value 10 text)
    else None

-- what stands before the first byte c, and what stands after it
unfoldable pub cut_at : ℕ → List ℕ → Option (List ℕ × List ℕ)
cut_at c text = do
  i ← position (λ b. b == c) text
  Some (take i text, drop (i + 1) text)

-- one of the four numbers of an address
abbrev pub octet_of : List ℕ → Option ℕ
octet_of text = number_of 3 255 text

-- four octets, joined by dots; the first is the highest byte
unfoldable pub address_of : List ℕ → Option ℕ
address_of text = do
  a ← cut_at 46 text
  b ← cut_at 46 a.1
  c ← cut_at 46 b.1
  w ← octet_of a.0
  x ← octet_of b.0
  y ← octet_of c.0
  z ← octet_of c.1
  Some (((w * 256 + x) * 256 + y) * 256 + z)

-- an address, a slash and a length; the address is as written, with all its bits
unfoldable pub prefix_of : List ℕ → Option (ℕ × ℕ)
prefix_of text = do
  parts ← cut_at 47 text
  addr ← address_of parts.0
  len ← number_of 2 32 parts.1
  Some (addr, len)

-- a hexadecimal digit of either case
unfoldable pub hex_of : ℕ → Option ℕ
hex_of b =
    if nat_le 48 b && nat_le b 57 then Some (b - 48) else
    if nat_le 65 b && nat_le b 70 then Some (b - 55) else
    if nat_le 97 b && nat_le b 102 then Some (b - 87) else
    None

-- exactly two hexadecimal digits
unfoldable pub pair_of : List ℕ → Option ℕ
pair_of [] = None
pair_of (a ∷ []) = None
pair_of (a ∷ b ∷ []) = do
  x ← hex_of a
  y ← hex_of b
  Some (x * 16 + y)
pair_of (a ∷ b ∷ c ∷ more) = None

-- the number of three bytes, the first the highest
abbrev pub three_bytes : List ℕ → ℕ
three_bytes bytes = fold (λ n b. n * 256 + b) 0 bytes

abbrev pub mac_number : List ℕ → List ℕ → ℕ
mac_number high low = three_bytes high * 2 ^ 24 + three_bytes low

-- six pairs of digits, joined by colons; the first is the highest byte
unfoldable pub mac_of : List ℕ → Option ℕ
mac_of text = do
  a ← cut_at 58 text
  b ← cut_at 58 a.1
  c ← cut_at 58 b.1
  d ← cut_at 58 c.1
  e ← cut_at 58 d.1
  u ← pair_of a.0
  v ← pair_of b.0
  w ← pair_of c.0
  x ← pair_of d.0
  y ← pair_of e.0
  z ← pair_of e.1
  Some (mac_number (u ∷ v ∷ w ∷ []) (x ∷ y ∷ z ∷ []))

-- a printed address: four numbers without leading zeros
unfoldable pub address_text : ℕ → List ℕ
address_text a =
    decimal (a / 2 ^ 24 % 256) ++ 46 ∷ (decimal (a / 2 ^ 16 % 256) ++ 46 ∷ (decimal (a / 2 ^ 8 % 256) ++ 46 ∷ decimal (a % 256)))

unfoldable pub prefix_text : Prefix → List ℕ
prefix_text p = address_text p.bits ++ 47 ∷ decimal p.len

-- a hexadecimal digit in lower case
abbrev pub hex_digit : ℕ → ℕ
hex_digit n = if nat_lt n 10 then 48 + n else 87 + n

abbrev pub pair_text : ℕ → List ℕ
pair_text n = hex_digit (n / 16 % 16) ∷ hex_digit (n % 16) ∷ []

-- three pairs of digits, joined by colons
unfoldable pub three_text : ℕ → ℕ → ℕ → List ℕ
three_text a b c = pair_text a ++ 58 ∷ (pair_text b ++ 58 ∷ pair_text c)

-- a printed MAC: twelve digits in lower case
unfoldable pub mac_text : ℕ → List ℕ
mac_text m = three_text (m / 2 ^ 40) (m / 2 ^ 32) (m / 2 ^ 24) ++ 58 ∷ three_text (m / 2 ^ 16) (m / 2 ^ 8) m

-- each printed value is read back to itself
abbrev pub AddressesAreReadBack : Type 0
AddressesAreReadBack = (a : ℕ) → a < 2 ^ 32 → address_of (address_text a) ≡ Some a

abbrev pub PrefixesAreReadBack : Type 0
PrefixesAreReadBack = (p : Prefix) → p.bits < 2 ^ 32 → p.len ≤ 32 → prefix_of (prefix_text p) ≡ Some (p.bits, p.len)

abbrev pub MacsAreReadBack : Type 0
MacsAreReadBack = (m : ℕ) → m < 2 ^ 48 → mac_of (mac_text m) ≡ Some m
