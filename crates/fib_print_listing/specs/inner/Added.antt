-- A map to which pairs of a key and a value were added in turn. No contract of a public call rests on this.
use Rattle.std.specs.Prelude.{◌≡◌, Bool, ◌⊎◌, List, Option, Some, Contains}
use Rattle.std.specs.Map.{lookup}

-- the value under the first key that is that one
abbrev pub under : {X K V : Type 0} → (X → X → Bool) → (K → X) → X → List (K × V) → Option V
under same at x es = lookup (λ k. same x (at k)) es

-- a value stands under the key
abbrev pub Has : {X K V : Type 0} → (X → X → Bool) → (K → X) → X → List (K × V) → Type 0
Has {X} {K} {V} same at x es = (v : V) × (under same at x es ≡ Some v)

-- what is found was added or was there, and nothing went
pub record Adds {X K V : Type 0} (same : X → X → Bool) (at : K → X) (news : List (X × V)) (old new : List (K × V)) : Type 0 where
  pub real : (x : X) (v : V) → under same at x new ≡ Some v → Contains news (x, v) ⊎ (under same at x old ≡ Some v)
  pub found : (x : X) (v : V) → Contains news (x, v) → Has same at x new
  pub stays : (x : X) → Has same at x old → Has same at x new
