-- What speaks of all views at once. Claims are drawn once: the claim word counts them, and each number below it stands in one view alone.
use Rattle.std.specs.Prelude.{◌≡◌, ℕ, ◌+◌, ◌*◌, ◌<◌, ◌^◌, Bool, true, false, List, [], ◌∷◌, length, slice_index, slice_index_or, nat_lt, eqb, if◌then◌else◌}
use Rattle.fib_core_lawful.specs.Layout.{claim_word}
use Rattle.fib_core_lawful.specs.State.{View, control, worker, note, spent}

-- the claims that a view has
abbrev pub claims_in : View → List ℕ
claims_in (control c) = c.gathered
claims_in (worker w) = w.claims
claims_in (note n) = []
claims_in spent = []

-- how often the number stands there
abbrev pub times : ℕ → List ℕ → ℕ
times n [] = 0
times n (x ∷ xs) = (if eqb x n then 1 else 0) + times n xs

abbrev pub times_in : ℕ → View → ℕ
times_in n v = times n (claims_in v)

abbrev pub count_in : View → ℕ
count_in v = length (claims_in v)

-- over all views
abbrev pub total : (View → ℕ) → List View → ℕ
total f [] = 0
total f (v ∷ vs) = f v + total f vs

-- as many as the claim word says, and each number below it once
pub record IsClaimed (words : List ℕ) (views : List View) : Type 0 where
  pub all : slice_index words claim_word ≡ total count_in views
  pub each : (n : ℕ) → total (times_in n) views ≡ (if nat_lt n (slice_index words claim_word) then 1 else 0)

abbrev pub one_if : Bool → ℕ
one_if true = 1
one_if false = 0

abbrev pub sits : ℕ → View → ℕ
sits n (worker w) = one_if (eqb w.number n)
sits n (control c) = 0
sits n (note v) = 0
sits n spent = 0

-- each number that is out has one worker's seat, and each other none
abbrev pub IsSeats : List View → List Bool → Type 0
IsSeats views out = (n : ℕ) → total (sits n) views ≡ one_if (slice_index_or out n false)

-- how many numbers are out
abbrev pub outs : List Bool → ℕ
outs [] = 0
outs (b ∷ bs) = one_if b + outs bs

-- the claims brought home, with all that the seats that are out may still draw
abbrev pub IsSpare : List ℕ → List Bool → Type 0
IsSpare gathered out = length gathered + outs out * 2 ^ 32 < 2 ^ 60 + 2 ^ 35
