-- Elements that pass a test, and what is made of them.
use Rattle.std.proofs.Common.{◌≡◌, ◌≢◌, ◌≤◌, ℕ, Bool, List, [], ◌∷◌, length, map, take, inl, inr, refl, sym, ◌∙◌, ap}
use Rattle.std.specs.Prelude.{Contains, filter, flat_map}
use Rattle.std.specs.List.{AllByRecursion}
use Rattle.fib_base_list.proofs.Lists.{either, Contains-nil}
use Rattle.fib_cover.proofs.Sets.{take_whole}
use Rattle.fib_reach.specs.Walks.{AllDiffer}
use Rattle.fib_resolve_changes.proofs.Edits.{in_cases}
use Rattle.fib_follow_told.proofs.Gathering.{head_differs}
use Rattle.fib_resolve_changes.proofs.SamePairs.{map_in}
use Rattle.fib_follow_plan.specs.Made.{only}

-- what is made of those that pass, one after the other
pub picked : {X Y : Type 0} (test : X → Bool) (f : X → Y) (xs : List X) → flat_map (λ x. only (test x) (f x)) xs ≡ map f (filter test xs)
picked test f [] = refl
picked test f (x ∷ xs) = elim (either (test x)) [
  | inl is ↦ rw is (ap (λ l. f x ∷ l) (picked test f xs))
  | inr isnt ↦ rw isnt (picked test f xs)
]

mapped_each : {X Y : Type 0} (P : Y → Type 0) (f : X → Y) (test : X → Bool) (xs : List X) → AllByRecursion P (map f xs)
    → AllByRecursion P (map f (filter test xs))
mapped_each P f test [] all = tt
mapped_each P f test (x ∷ xs) all = elim (either (test x)) [
  | inl is ↦ rw is (all.0, mapped_each P f test xs all.1)
  | inr isnt ↦ rw isnt (mapped_each P f test xs all.1)
]

pub picked_differ : {X Y : Type 0} (f : X → Y) (test : X → Bool) (xs : List X) → AllDiffer (map f xs) → AllDiffer (map f (filter test xs))
picked_differ f test [] d = tt
picked_differ f test (x ∷ xs) d = elim (either (test x)) [
  | inl is ↦ rw is (mapped_each (λ y. f x ≢ y) f test xs d.0, picked_differ f test xs d.1)
  | inr isnt ↦ rw isnt (picked_differ f test xs d.1)
]

-- of those that differ by f, two that are the same by it are one
pub one_of : {X Y : Type 0} (f : X → Y) (xs : List X) → AllDiffer (map f xs) → (x y : X) → Contains xs x → Contains xs y → f x ≡ f y → x ≡ y
one_of f [] d x y c k same = absurd (Contains-nil x c)
one_of f (z ∷ zs) d x y c k same = elim (in_cases z x zs c) [
  | inl a ↦ elim (in_cases z y zs k) [
    | inl b ↦ sym a ∙ b
    | inr later ↦ absurd (head_differs (f z) (map f zs) d.0 (f y) (map_in f zs y later) (ap f a ∙ same))
  ]
  | inr early ↦ elim (in_cases z y zs k) [
    | inl b ↦ absurd (head_differs (f z) (map f zs) d.0 (f x) (map_in f zs x early) (ap f b ∙ sym same))
    | inr later ↦ one_of f zs d.1 x y early later same
  ]
]

-- the same of as many as there are
pub picked_all : {X Y : Type 0} (test : X → Bool) (f : X → Y) (xs ys : List X) (k : ℕ) → length xs ≤ k → xs ≡ ys → (out : List Y)
    → out ≡ flat_map (λ x. only (test x) (f x)) (take k xs) → out ≡ map f (filter test ys)
picked_all test f xs ys k whole same out is =
    is ∙ (ap (flat_map (λ x. only (test x) (f x))) (take_whole xs k whole ∙ same) ∙ picked test f ys)
