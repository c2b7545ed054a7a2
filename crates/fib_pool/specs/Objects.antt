-- Objects by number: which are taken, as what, and how often each is counted.
--
-- An object is free, or live (counted at least once), or dying (taken and counted no more, until it is given back).
use Rattle.std.specs.Prelude.{◌≡◌, ℕ, ◌<◌, Bool, true, false, List, Option, Some, None, length, replicate, count_by, slice_index_or, slice_set}
use Rattle.fib_pool.specs.declared.object.Kind.{Kind}
use Rattle.fib_pool.specs.declared.object.Kind.TheVariants as kinds
use Rattle.fib_pool.specs.declared.object.Object.{Object}

-- what an object is, or nothing where it is free or no object
abbrev pub at : List (Option Object) → ℕ → Option Object
at objects o = slice_index_or objects o None

abbrev pub count_in : Option Object → ℕ
count_in None = 0
count_in (Some x) = x.count

-- how often it is counted; 0 where it is free
abbrev pub count_of : List (Option Object) → ℕ → ℕ
count_of objects o = count_in (at objects o)

-- it is counted at least once
abbrev pub IsLive : List (Option Object) → ℕ → Type 0
IsLive objects o = 0 < count_of objects o

-- it is taken, and counted no more
abbrev pub IsDying : List (Option Object) → ℕ → Type 0
IsDying objects o = (kind : Kind) × (at objects o ≡ Some (record { kind = kind; count = 0 }))

abbrev pub is_free : Option Object → Bool
is_free None = true
is_free (Some x) = false

-- how many objects are free
unfoldable pub free_in : List (Option Object) → ℕ
free_in objects = count_by is_free objects

abbrev pub recount : ℕ → Option Object → Option Object
recount n None = None
recount n (Some x) = Some (record { kind = x.kind; count = n })

-- the objects, with another count of one that is taken
abbrev pub with_count : List (Option Object) → ℕ → ℕ → List (Option Object)
with_count objects o n = slice_set objects o (recount n (at objects o))

-- just taken
abbrev pub as_new : Kind → Option Object
as_new kind = Some (record { kind = kind; count = 1 })

-- o was free, and is taken as this kind; all else stays
pub record TookObject (old new : List (Option Object)) (o : ℕ) (kind : Kind) : Type 0 where
  pub inside : o < length old
  pub free : at old o ≡ None
  pub taken : new ≡ slice_set old o (as_new kind)

-- object 0 is the root's ply, and all others are free
abbrev pub fresh_objects : ℕ → List (Option Object)
fresh_objects n = slice_set (replicate n None) 0 (as_new kinds.Ply)
