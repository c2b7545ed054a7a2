-- A retired edge from a ply to another outlives no edge into its own ply: retirements leave in their order, so where the ply's own edge was
-- retired later, it is there longer.
use Rattle.std.specs.Prelude.{◌≡◌, ◌≢◌, ◌⊎◌, ℕ, false, List, [], ◌∷◌}
use Rattle.std.specs.List.{AllByRecursion}
use Rattle.fib_core.specs.declared.word.Word.TheVariants as words
use Rattle.fib_union.specs.Unions.{owner}
use Rattle.fib_union.specs.Marks.{is_even, Mark, unseen, first, passed}
use Rattle.fib_core.specs.Words.{decoded}
use Rattle.fib_core_steady.specs.Names.{LeadsNow}
use Rattle.fib_core.specs.Union.{Retired, Union}

-- the newest first: each edge to a ply that was retired from another object than the root has an edge into its object that P has or that was
-- retired later
abbrev pub AreBacked : (ℕ → Type 0) → List Retired → Type 0
AreBacked P [] = Unit {0}
AreBacked P (r ∷ rs) =
    ((c : ℕ) → decoded r.word ≡ words.ToPly c → owner r.cell ≢ 0 → P (owner r.cell))
    × AreBacked (λ y. P y ⊎ (decoded r.word ≡ words.ToPly y)) rs

abbrev pub IsBacked : Union → Type 0
IsBacked u = AreBacked (LeadsNow u.cells) u.retired

-- these are the newest of those
abbrev pub AreNewest : List Retired → List Retired → Type 0
AreNewest [] rs = Unit {0}
AreNewest (q ∷ qs) [] = ⊥
AreNewest (q ∷ qs) (r ∷ rs) = (q.cell ≡ r.cell) × (q.word ≡ r.word) × AreNewest qs rs

-- the mark of an older retirement is ahead of a newer one's
abbrev pub IsAhead : Mark → Mark → Type 0
IsAhead passed k = Unit {0}
IsAhead unseen unseen = Unit {0}
IsAhead (first v) unseen = Unit {0}
IsAhead (first v) (first w) = v ≡ w
IsAhead unseen (first w) = ⊥
IsAhead unseen passed = ⊥
IsAhead (first v) passed = ⊥

-- a first word is odd
abbrev pub IsFit : Mark → Type 0
IsFit (first v) = is_even v ≡ false
IsFit unseen = Unit {0}
IsFit passed = Unit {0}

-- marks of an older and a newer retirement, worker by worker
abbrev pub AreAhead : List Mark → List Mark → Type 0
AreAhead [] [] = Unit {0}
AreAhead [] (k ∷ ks) = ⊥
AreAhead (m ∷ ms) [] = ⊥
AreAhead (m ∷ ms) (k ∷ ks) = IsAhead m k × AreAhead ms ks

-- the newest first: each one's marks are fit, and those of the next older one are ahead of them
abbrev pub AreOrdered : List Retired → Type 0
AreOrdered [] = Unit {0}
AreOrdered (r ∷ []) = AllByRecursion IsFit r.marks
AreOrdered (r ∷ q ∷ rs) = AllByRecursion IsFit r.marks × AreAhead q.marks r.marks × AreOrdered (q ∷ rs)
