-- The marks of a retired edge: what looks at each worker's pass word have found since the edge was retired.
--
-- A worker's pass word is odd while a pass of it runs, and grows by one as each pass starts and stops. So a pass that may still stand on the
-- edge is over once a look finds the word even, or another word than the first look found.
use Rattle.std.specs.Prelude.{◌≡◌, ◌≢◌, ℕ, ◌%◌, ◌⊎◌, Bool, true, false, cond, eqb, List, [], ◌∷◌, Contains, fold, replicate, slice_index_or, slice_set}
use Rattle.std.specs.List.{list_all}

-- of one worker: no look yet; the first look found this odd word, and no look another one; no pass of it that began before is left
pub data Mark : Type 0 where
  unseen : Mark
  first : ℕ → Mark
  passed : Mark

-- no pass runs
abbrev pub is_even : ℕ → Bool
is_even w = eqb (w % 2) 0

-- how a mark goes on at a look that finds w
abbrev pub next_mark : ℕ → Mark → Mark
next_mark w unseen = cond (is_even w) passed (first w)
next_mark w (first v) = cond (eqb v w) (first v) passed
next_mark w passed = passed

abbrev pub is_passed : Mark → Bool
is_passed unseen = false
is_passed (first w) = false
is_passed passed = true

-- the marks of an edge that is just retired, one a worker
abbrev pub fresh : ℕ → List Mark
fresh workers = replicate workers unseen

-- worker n's mark
abbrev pub mark_at : List Mark → ℕ → Mark
mark_at marks n = slice_index_or marks n passed

-- the marks after a look at worker n's word that finds w
abbrev pub looked : ℕ → ℕ → List Mark → List Mark
looked n w marks = slice_set marks n (next_mark w (mark_at marks n))

-- passed for every worker
abbrev pub all_passed : List Mark → Bool
all_passed marks = list_all is_passed marks

-- the mark after looks that found these words since the edge was retired
abbrev pub mark_after : List ℕ → Mark
mark_after words = fold (λ m w. next_mark w m) unseen words

-- no pass that ran as the edge was retired runs still: a word was even, or another one than the first
abbrev pub IsOver : List ℕ → Type 0
IsOver [] = ⊥
IsOver (w ∷ ws) = (is_even w ≡ true) ⊎ ((v : ℕ) × Contains ws v × (v ≢ w))
