-- Where a walk stands, which cell it asks next, and where the word that it finds there brings it.
use Rattle.std.specs.Prelude.{◌≡◌, ℕ, zero, suc, ◌+◌, ◌*◌, ◌/◌, ◌%◌, ◌^◌, ◌<◌, List, [], ◌∷◌, length, slice_index, Option, Some, None, nat_lt, if◌then◌else◌}
use Rattle.fib_addr.specs.Prefixes.{nibble}
use Rattle.fib_resolve.specs.declared.types.End.{End}
use Rattle.fib_resolve.specs.declared.types.End.TheVariants as answers
use Rattle.fib_core.specs.declared.word.Word.{Word}
use Rattle.fib_core.specs.declared.word.Word.TheVariants as words
use Rattle.fib_core.specs.Words.{decoded, value_of}

-- the word in the cell s of the object o
abbrev pub word_at : List ℕ → ℕ → ℕ → Word
word_at cells o s = decoded (slice_index cells (16 * o + s))

-- an address and a hash
abbrev pub IsFlow : ℕ → ℕ → Type 0
IsFlow a h = (a < 2 ^ 32) × (h < 2 ^ 32)

-- a ply at a depth, a balance after so many others, an adjacency of which these words were read, or the end
pub data Place : Type 0 where
  ply : ℕ → ℕ → Place
  balance : ℕ → ℕ → Place
  adjacency : ℕ → List Word → Place
  ended : End → Place

-- the object where it stands
abbrev pub object_of : Place → ℕ
object_of (ply o d) = o
object_of (balance o n) = o
object_of (adjacency o ws) = o
object_of (ended e) = 0

abbrev pub root : Place
root = ply 0 0

-- the hash after so many balances: each takes half of it
abbrev pub halved : ℕ → ℕ → ℕ
halved h zero = h
halved h (suc n) = halved h n / 2

-- the cell that it loads next
abbrev pub asked : ℕ → ℕ → Place → ℕ
asked a h (ply o d) = 16 * o + nibble a d
asked a h (balance o n) = 16 * o + halved h n % 16
asked a h (adjacency o read) = 16 * o + length read
asked a h (ended e) = 0

-- 0 is no MAC, and any other number the MAC below it
abbrev pub mac_in : ℕ → Option ℕ
mac_in zero = None
mac_in (suc mac) = Some mac

-- the end that an adjacency's three words say
abbrev pub hop_of : Word → Word → Word → End
hop_of interface hop mac = answers.Hop (value_of interface) (value_of hop) (mac_in (value_of mac))

-- there are plies at the depths 0 to 7
abbrev pub deeper : ℕ → ℕ → Place
deeper d o = if nat_lt d 7 then ply o (suc d) else ended answers.Drop

abbrev pub from_ply : ℕ → Word → Place
from_ply d (words.ToPly o) = deeper d o
from_ply d (words.ToBalance o) = balance o 0
from_ply d words.Drop = ended answers.Drop
from_ply d words.Receive = ended answers.Drop
from_ply d (words.Glean i) = ended answers.Drop
from_ply d (words.ToAdjacency o) = ended answers.Drop
from_ply d (words.Plain n) = ended answers.Drop

abbrev pub from_balance : ℕ → Word → Place
from_balance n words.Drop = ended answers.Drop
from_balance n words.Receive = ended answers.Receive
from_balance n (words.Glean i) = ended (answers.Glean i)
from_balance n (words.ToBalance o) = balance o (suc n)
from_balance n (words.ToAdjacency o) = adjacency o []
from_balance n (words.ToPly o) = ended answers.Drop
from_balance n (words.Plain m) = ended answers.Drop

abbrev pub from_adjacency : ℕ → List Word → Word → Place
from_adjacency o [] w = adjacency o (w ∷ [])
from_adjacency o (interface ∷ []) w = adjacency o (interface ∷ w ∷ [])
from_adjacency o (interface ∷ hop ∷ more) w = ended (hop_of interface hop w)

-- where the word in the asked cell brings it
abbrev pub next : Place → Word → Place
next (ply o d) w = from_ply d w
next (balance o n) w = from_balance n w
next (adjacency o read) w = from_adjacency o read w
next (ended e) w = ended e

-- the end that the adjacency says
abbrev pub adjacency_end : List ℕ → ℕ → End
adjacency_end cells o = hop_of (word_at cells o 0) (word_at cells o 1) (word_at cells o 2)

-- one step over the cells as they are: an adjacency is read whole
abbrev pub stepped : List ℕ → ℕ → ℕ → Place → Place
stepped cells a h (ply o d) = from_ply d (word_at cells o (nibble a d))
stepped cells a h (balance o n) = from_balance n (word_at cells o (halved h n % 16))
stepped cells a h (adjacency o read) = ended (adjacency_end cells o)
stepped cells a h (ended e) = ended e

abbrev pub after : List ℕ → ℕ → ℕ → ℕ → Place → Place
after cells a h zero p = p
after cells a h (suc n) p = after cells a h n (stepped cells a h p)

abbrev pub end_at : Place → End
end_at (ply o d) = answers.Drop
end_at (balance o n) = answers.Drop
end_at (adjacency o read) = answers.Drop
end_at (ended e) = e

-- the walk of an address and a hash: more edges than there are objects end it in Drop
unfoldable pub walk : List ℕ → ℕ → ℕ → End
walk cells a h = end_at (after cells a h (length cells / 16 + 1) root)

-- from this place the walk ends so, over the cells as they are
abbrev pub Arrives : List ℕ → ℕ → ℕ → Place → End → Type 0
Arrives cells a h p e = (n : ℕ) × (after cells a h n p ≡ ended e)

-- the words that were read of an adjacency, two at most, are its words
abbrev pub HoldsWords : List ℕ → ℕ → List Word → Type 0
HoldsWords cells o [] = Unit {0}
HoldsWords cells o (interface ∷ []) = word_at cells o 0 ≡ interface
HoldsWords cells o (interface ∷ hop ∷ []) = (word_at cells o 0 ≡ interface) × (word_at cells o 1 ≡ hop)
HoldsWords cells o (interface ∷ hop ∷ mac ∷ more) = ⊥

abbrev pub ReadsWhole : List ℕ → Place → Type 0
ReadsWhole cells (adjacency o read) = HoldsWords cells o read
ReadsWhole cells (ply o d) = Unit {0}
ReadsWhole cells (balance o n) = Unit {0}
ReadsWhole cells (ended e) = Unit {0}

-- the end that the walk has, or will have by the adjacency on which it stands, is such a one
abbrev pub Heads : (End → Type 0) → List ℕ → Place → Type 0
Heads P cells (ended e) = P e
Heads P cells (adjacency o read) = P (adjacency_end cells o)
Heads P cells (ply o d) = Unit {0}
Heads P cells (balance o n) = Unit {0}

-- where the word is an end, or leads to an adjacency, that end is such a one
abbrev pub EndsIn : (End → Type 0) → List ℕ → Word → Type 0
EndsIn P cells words.Receive = P answers.Receive
EndsIn P cells (words.Glean i) = P (answers.Glean i)
EndsIn P cells (words.ToAdjacency o) = P (adjacency_end cells o)
EndsIn P cells words.Drop = Unit {0}
EndsIn P cells (words.ToPly o) = Unit {0}
EndsIn P cells (words.ToBalance o) = Unit {0}
EndsIn P cells (words.Plain n) = Unit {0}
