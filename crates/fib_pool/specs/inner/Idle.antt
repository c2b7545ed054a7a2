-- How the fields of a pool fit together: the free objects stand in a list, each once. No contract of a public call rests on this.
use Rattle.std.specs.Prelude.{◌≡◌, ◌≢◌, ℕ, ◌<◌, ◌≤◌, List, Option, None, length, slice_index}
use Rattle.fib_pool.specs.declared.object.Object.{Object}
use Rattle.fib_pool.specs.Objects.{at, free_in}

pub record IsPool (objects : List (Option Object)) (idle : List ℕ) (room : ℕ) : Type 0 where
  pub few : length objects < 4294967296
  pub roomy : length objects ≤ room
  pub counted : length idle ≡ free_in objects
  pub free : (i : ℕ) → i < length idle → (slice_index idle i < length objects) × (at objects (slice_index idle i) ≡ None)
  pub apart : (i j : ℕ) → i < j → j < length idle → slice_index idle i ≢ slice_index idle j
