-- The words of cells as numbers: tag * 2 ^ 56 + value.
use Rattle.std.specs.Prelude.{◌≡◌, ℕ, ◌+◌, ◌*◌, ◌/◌, ◌%◌, ◌^◌, ◌<◌, ◌==◌, Bool, true, false, if◌then◌else◌}
use Rattle.fib_core.specs.declared.word.Word.{Word}
use Rattle.fib_core.specs.declared.word.Word.TheVariants as words

abbrev pub tag_of : Word → ℕ
tag_of words.Drop = 0
tag_of words.Receive = 1
tag_of (words.Glean i) = 2
tag_of (words.ToPly o) = 3
tag_of (words.ToBalance o) = 4
tag_of (words.ToAdjacency o) = 5
tag_of (words.Plain n) = 6

abbrev pub value_of : Word → ℕ
value_of words.Drop = 0
value_of words.Receive = 0
value_of (words.Glean i) = i
value_of (words.ToPly o) = o
value_of (words.ToBalance o) = o
value_of (words.ToAdjacency o) = o
value_of (words.Plain n) = n

unfoldable pub encoded : Word → ℕ
encoded w = tag_of w * 2 ^ 56 + value_of w

abbrev pub word_of : ℕ → ℕ → Word
word_of tag value =
    if tag == 0 then words.Drop else
    if tag == 1 then words.Receive else
    if tag == 2 then words.Glean value else
    if tag == 3 then words.ToPly value else
    if tag == 4 then words.ToBalance value else
    if tag == 5 then words.ToAdjacency value else
    words.Plain value

unfoldable pub decoded : ℕ → Word
decoded n = word_of (n / 2 ^ 56) (n % 2 ^ 56)

-- the value has its room: numbers of interfaces and objects are of 32 bits
abbrev pub IsRoomy : Word → Type 0
IsRoomy words.Drop = Unit {0}
IsRoomy words.Receive = Unit {0}
IsRoomy (words.Glean i) = i < 2 ^ 32
IsRoomy (words.ToPly o) = o < 2 ^ 32
IsRoomy (words.ToBalance o) = o < 2 ^ 32
IsRoomy (words.ToAdjacency o) = o < 2 ^ 32
IsRoomy (words.Plain n) = n < 2 ^ 56

-- the number is that of a word
abbrev pub IsWord : ℕ → Type 0
IsWord n = (w : Word) × IsRoomy w × (n ≡ encoded w)

-- an edge, and where it leads
abbrev pub is_edge : Word → Bool
is_edge words.Drop = false
is_edge words.Receive = false
is_edge (words.Glean i) = false
is_edge (words.ToPly o) = true
is_edge (words.ToBalance o) = true
is_edge (words.ToAdjacency o) = true
is_edge (words.Plain n) = false

unfoldable pub goes : ℕ → Bool
goes n = is_edge (decoded n)

unfoldable pub target : ℕ → ℕ
target n = value_of (decoded n)
