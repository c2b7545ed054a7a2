-- What the seats of the counters know, and the rule of their words: 770, of which 0 counts drops, 1 what is received, 2 + i gleans of interface i,
-- 258 + i hops over it with a MAC, and 514 + i those without.
use Rattle.std.specs.Prelude.{◌≡◌, ℕ, suc, ◌+◌, ◌<◌, Bool, true, false, List, [], ◌∷◌, ◌++◌, Option, Some, None, length, slice_index}
use Rattle.std.specs.Prelude.{slice_index_or, slice_set, eqb}
use Rattle.fib_resolve.specs.declared.types.End.{End}
use Rattle.fib_resolve.specs.declared.types.End.TheVariants as ends
use Rattle.fib_core_lawful.specs.Claims.{times}

-- the word that counts hops of an interface: with a MAC, or without
abbrev pub hop_word : ℕ → Option ℕ → ℕ
hop_word i (Some mac) = 258 + i
hop_word i None = 514 + i

-- the word that counts an end
abbrev pub word_of : End → ℕ
word_of ends.Drop = 0
word_of ends.Receive = 1
word_of (ends.Glean i) = 2 + i
word_of (ends.Hop i a mac) = hop_word i mac

-- the keeper's view: which numbers are out; the words that came home, one for each addition; how many seats were made, and how many came home
pub record Keep : Type 0 where
  pub out : List Bool
  pub tally : List ℕ
  pub made : ℕ
  pub came : ℕ

-- a seat's view: its number, and the words that it added to, in order
pub record Tally : Type 0 where
  pub number : ℕ
  pub words : List ℕ

pub data View : Type 0 where
  keeper : Keep → View
  seat : Tally → View
  spent : View

-- the words that a view has
abbrev pub counted : View → List ℕ
counted (keeper k) = k.tally
counted (seat t) = t.words
counted spent = []

abbrev pub times_in : ℕ → View → ℕ
times_in w v = times w (counted v)

-- over all views
abbrev pub total : {V : Type 0} → (V → ℕ) → List V → ℕ
total f [] = 0
total f (v ∷ vs) = f v + total f vs

abbrev pub one_if : Bool → ℕ
one_if true = 1
one_if false = 0

-- the keeper
abbrev pub keeps : View → ℕ
keeps (keeper k) = 1
keeps (seat t) = 0
keeps spent = 0

-- a seat of that number
abbrev pub sits : ℕ → View → ℕ
sits n (keeper k) = 0
sits n (seat t) = one_if (eqb t.number n)
sits n spent = 0

-- the keeper has that number out
abbrev pub outs_at : ℕ → View → ℕ
outs_at n (keeper k) = one_if (slice_index_or k.out n false)
outs_at n (seat t) = 0
outs_at n spent = 0

-- Each word is the sum of its counts in all views. There is one keeper. Each number that is out is that of one seat, and each other is that of none.
pub record IsCounted (words : List ℕ) (views : List View) : Type 0 where
  pub size : length words ≡ 770
  pub each : (w : ℕ) → w < 770 → slice_index words w ≡ total (times_in w) views
  pub one : total keeps views ≡ 1
  pub seats : (n : ℕ) → total (sits n) views ≡ total (outs_at n) views

-- how many numbers are out
abbrev pub outs : List Bool → ℕ
outs [] = 0
outs (b ∷ bs) = one_if b + outs bs

-- the least number that isn't out
abbrev pub free_in : List Bool → ℕ
free_in [] = 0
free_in (true ∷ bs) = suc (free_in bs)
free_in (false ∷ bs) = 0

abbrev pub no_number : List Bool
no_number = false ∷ false ∷ false ∷ false ∷ false ∷ false ∷ false ∷ false ∷ []

-- the keeper at first
abbrev pub first_keep : Keep
first_keep = record { out = no_number; tally = []; made = 0; came = 0 }

-- one more addition
abbrev pub added : Tally → ℕ → Tally
added t w = record t { words = t.words ++ w ∷ [] }

-- a seat leaves
abbrev pub sent : Keep → Keep
sent k = record k { out = slice_set k.out (free_in k.out) true; made = k.made + 1 }

abbrev pub new_tally : Keep → Tally
new_tally k = record { number = free_in k.out; words = [] }

-- a seat comes home
abbrev pub taken_home : Keep → Tally → Keep
taken_home k t = record {
  out = slice_set k.out t.number false;
  tally = k.tally ++ t.words;
  made = k.made;
  came = k.came + 1;
}
