-- The first elements of a list, and the next.
use Rattle.std.proofs.Common.{arith, ◌≡◌, ℕ, zero, suc, ◌+◌, List, [], ◌∷◌, ◌++◌, take, map, Some, ◌∙◌, ap, slice_get}
use Rattle.std.specs.Prelude.{Contains, flat_map}
use Rattle.std.proofs.lemmas.Grind.{flat_map-append}
use Rattle.std.proofs.lemmas.List.{take_more, map-append}
use Rattle.std.proofs.lemmas.Option.{slice_get_within, get_or_from_slice_get}
use Rattle.std.proofs.lemmas.List.{append-nil}
use Rattle.fib_base_list.proofs.Lists.{Contains-nil}

pub take_at : {X : Type 0} (xs : List X) (n : ℕ) (x : X) → slice_get xs n ≡ Some x → take (n + 1) xs ≡ take n xs ++ x ∷ []
take_at {X} xs n x at = take_more xs n x (slice_get_within xs n x at) ∙ ap (λ (y : X). take n xs ++ y ∷ []) (get_or_from_slice_get xs n x x at)

pub place_in : {X : Type 0} (xs : List X) (x : X) → Contains xs x → (k : ℕ) × (slice_get xs k ≡ Some x)
place_in [] x c = absurd (Contains-nil x c)
place_in (y ∷ ys) x (zero, lt, is) = (0, ap Some is)
place_in (y ∷ ys) x (suc k, lt, is) = let r = place_in ys x (k, omega (arith, lt), is) in (suc r.0, r.1)

-- what one more gives
pub flat_at : {X Y : Type 0} (f : X → List Y) (xs : List X) (n : ℕ) (x : X) → slice_get xs n ≡ Some x → flat_map f (take (n + 1) xs) ≡ flat_map f (take n xs) ++ f x
flat_at {X} {Y} f xs n x at = ap (flat_map f) (take_at xs n x at) ∙ flat_map-append f (take n xs) (x ∷ []) ∙ ap (λ (l : List Y). flat_map f (take n xs) ++ l) (append-nil (f x))

pub map_at : {X Y : Type 0} (f : X → Y) (xs : List X) (n : ℕ) (x : X) → slice_get xs n ≡ Some x → map f (take (n + 1) xs) ≡ map f (take n xs) ++ f x ∷ []
map_at f xs n x at = ap (map f) (take_at xs n x at) ∙ map-append f (take n xs) (x ∷ [])
