-- Deferred buckets: those that drop, since the edge that they want closed a cycle as it was put.
use Rattle.std.specs.Prelude.{◌≡◌, ℕ, zero, suc, ◌+◌, Bool, false, ◌&&◌, ◌==◌, ◌<◌, List, [], ◌∷◌, Option, Some, None, if◌then◌else◌}
use Rattle.std.specs.List.{AllByRecursion}
use Rattle.fib_addr.specs.Prefixes.{Prefix, same_prefix}
use Rattle.fib_core.specs.declared.word.Word.{Word}
use Rattle.fib_stack_ledger.specs.declared.late.Late.{Late}

-- deferred buckets, and for how many more there is room at least
pub record Deferred : Type 0 where
  pub members : List Late
  pub spare : ℕ

abbrev pub is_at : Late → Prefix → ℕ → Bool
is_at x e k = same_prefix x.entry e && (x.slot == k)

-- the word that the prefix's bucket wants, where it is deferred
abbrev pub late_at : List Late → Prefix → ℕ → Option Word
late_at [] e k = None
late_at (x ∷ xs) e k = if is_at x e k then Some x.word else late_at xs e k

-- no bucket stands twice
abbrev pub AreApart : List Late → Type 0
AreApart [] = Unit {0}
AreApart (x ∷ xs) = AllByRecursion (λ y. is_at y x.entry x.slot ≡ false) xs × AreApart xs

abbrev pub AreSlots : List Late → Type 0
AreSlots xs = AllByRecursion (λ x. x.slot < 16) xs

abbrev pub one_late : Option Word → ℕ
one_late None = 0
one_late (Some w) = 1

-- how many of the prefix's first buckets are deferred
abbrev pub late_count : (ℕ → Option Word) → ℕ → ℕ
late_count late zero = 0
late_count late (suc n) = one_late (late n) + late_count late n
