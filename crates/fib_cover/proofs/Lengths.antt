-- Marks of the lengths that members may have.
use Rattle.std.proofs.Common.{arith, ◌≡◌, ◌⊎◌, ◌<◌, ℕ, Bool, true, false, List, length, inl, inr, sym, ◌∙◌}
use Rattle.std.specs.Prelude.{Contains, slice_index_or, slice_set}
use Rattle.std.proofs.lemmas.Bool.{cases_lt, false≢true}
use Rattle.std.proofs.lemmas.List.{get_or-set_same, get_or-set_other}
use Rattle.fib_addr.specs.Prefixes.{Prefix, masked}
use Rattle.fib_cover.specs.inner.Lengths.{AreMarked}

-- no member has a length that isn't marked
pub unmarked : (marks : List Bool) (members : List Prefix) (a len : ℕ) → AreMarked marks members → slice_index_or marks len false ≡ false → Contains members (masked a len) → ⊥
unmarked marks members a len all none c = absurd (false≢true (sym none ∙ all (masked a len) c))

-- a length more is marked
mark_stays : (marks : List Bool) (k n : ℕ) → k < length marks → slice_index_or marks n false ≡ true → slice_index_or (slice_set marks k true) n false ≡ true
mark_stays marks k n inside at = elim (cases_lt n k) [
  | inl lt ↦ get_or-set_other marks k n true false (λ e. omega (arith, e, lt)) ∙ at
  | inr ge ↦ elim (cases_lt k n) [
    | inl lt ↦ get_or-set_other marks k n true false (λ e. omega (arith, e, lt)) ∙ at
    | inr le ↦ (let same : n ≡ k = omega (arith, ge, le) in rw same (get_or-set_same marks k true false inside))
  ]
]

pub marked_with : (marks : List Bool) (old new : List Prefix) (p : Prefix) → p.len < length marks
    → ((q : Prefix) → Contains new q → Contains old q ⊎ (q ≡ p)) → AreMarked marks old → AreMarked (slice_set marks p.len true) new
marked_with marks old new p inside there all q c = elim (there q c) [
  | inl was ↦ mark_stays marks p.len q.len inside (all q was)
  | inr same ↦ rw same (get_or-set_same marks p.len true false inside)
]
