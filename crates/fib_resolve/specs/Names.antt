-- The names of interfaces, as bytes.
use Rattle.std.specs.Prelude.{ℕ, ◌==◌, ◌||◌, ◌&&◌, List, Bool, not, length, nat_le, slice_index, codes}
use Rattle.std.specs.List.{list_all}
use Rattle.std.specs.Str.{bytes_eq}

abbrev pub is_letter : ℕ → Bool
is_letter b = (nat_le 65 b && nat_le b 90) || (nat_le 97 b && nat_le b 122)

-- a letter, a digit, or one of - . / : _
abbrev pub is_name_byte : ℕ → Bool
is_name_byte b = is_letter b || (nat_le 45 b && nat_le b 58) || b == 95

-- the words of paths, and that of deletions
abbrev pub is_reserved : List ℕ → Bool
is_reserved text =
    bytes_eq text (codes "drop") || bytes_eq text (codes "local") || bytes_eq text (codes "via")
    || bytes_eq text (codes "weight") || bytes_eq text (codes "preference") || bytes_eq text (codes "del")
    || bytes_eq text (codes "resolve-via-host") || bytes_eq text (codes "resolve-via-attached")

-- 1 to 31 of these characters, the first a letter, and no reserved word
abbrev pub is_name : List ℕ → Bool
is_name text = is_letter (slice_index text 0) && (nat_le (length text) 31 && (list_all is_name_byte text && not (is_reserved text)))
