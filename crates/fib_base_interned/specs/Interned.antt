-- Interned contents: equal contents are kept once, each under a number of its own with a count of its users.
--
-- What is kept is seen as a list, in the order of places.
use Rattle.std.specs.Prelude.{◌≡◌, ◌≢◌, ◌<◌, ◌+◌, ◌-◌, ◌==◌, ℕ, Bool, true, false, List, [], ◌∷◌, Option, Some, None, IsSome, find, length, Contains, slice_get}
use Rattle.std.specs.Prelude.{if◌then◌else◌}

-- a content that is kept
pub record Kept (T : Type 0) : Type 0 where
  pub id : ℕ
  pub content : T
  pub users : ℕ

-- what is kept under that number
abbrev pub kept_of : {T : Type 0} → List (Kept T) → ℕ → Option (Kept T)
kept_of rows id = find (λ k. k.id == id) rows

abbrev pub users_in : {T : Type 0} → Option (Kept T) → ℕ
users_in None = 0
users_in (Some k) = k.users

-- how many use what is kept under that number; 0 where nothing is
abbrev pub users_of : {T : Type 0} → List (Kept T) → ℕ → ℕ
users_of rows id = users_in (kept_of rows id)

-- each content that is kept has a user, and at two places there are two numbers and two contents
pub record AreInterned {T : Type 0} (rows : List (Kept T)) : Type 0 where
  pub used : (k : Kept T) → Contains rows k → 0 < k.users
  pub numbers_apart : (i j : ℕ) (k l : Kept T) → slice_get rows i ≡ Some k → slice_get rows j ≡ Some l → k.id ≡ l.id → i ≡ j
  pub contents_apart : (i j : ℕ) (k l : Kept T) → slice_get rows i ≡ Some k → slice_get rows j ≡ Some l → k.content ≡ l.content → i ≡ j

-- a content that passes the test is kept under that number
abbrev pub IsFound : {T : Type 0} → (T → Bool) → List (Kept T) → ℕ → Type 0
IsFound {T} test rows id = (k : Kept T) × (kept_of rows id ≡ Some k) × (test k.content ≡ true)

-- no content that is kept passes the test
abbrev pub IsAbsent : {T : Type 0} → (T → Bool) → List (Kept T) → Type 0
IsAbsent {T} test rows = (k : Kept T) → Contains rows k → test k.content ≡ false

-- the content is kept under that number, with one user more than before; all else stays
pub record Takes {T : Type 0} (old new : List (Kept T)) (content : T) (id : ℕ) : Type 0 where
  pub was : (k : Kept T) → kept_of old id ≡ Some k → k.content ≡ content
  pub taken : kept_of new id ≡ Some (record { id = id; content = content; users = users_of old id + 1 })
  pub others : (other : ℕ) → other ≢ id → kept_of new other ≡ kept_of old other

-- with one user less; forgotten where that was the last
abbrev pub lowered : {T : Type 0} → Option (Kept T) → Option (Kept T)
lowered None = None
lowered (Some k) = if k.users == 1 then None else Some (record { id = k.id; content = k.content; users = k.users - 1 })

-- what is kept under that number lost a user, and is forgotten where that was the last; all else stays
pub record Gives {T : Type 0} (old new : List (Kept T)) (id : ℕ) : Type 0 where
  pub given : kept_of new id ≡ lowered (kept_of old id)
  pub others : (other : ℕ) → other ≢ id → kept_of new other ≡ kept_of old other

abbrev pub without_user : {T : Type 0} → Kept T → List (Kept T) → List (Kept T)
without_user k rest = if k.users == 1 then rest else record { id = k.id; content = k.content; users = k.users - 1 } ∷ rest

-- one user less of what is kept under that number, where it stands; forgotten where that was the last
abbrev pub untaken : {T : Type 0} → ℕ → List (Kept T) → List (Kept T)
untaken id [] = []
untaken id (k ∷ rest) = if k.id == id then without_user k rest else k ∷ untaken id rest

-- where what is kept under that number has one user, it stands last
abbrev pub IsLastToGo : {T : Type 0} → List (Kept T) → ℕ → Type 0
IsLastToGo {T} rows id = (k : Kept T) → kept_of rows id ≡ Some k → k.users ≡ 1 → slice_get rows (length rows - 1) ≡ Some k

-- what was taken under that number can be taken back, and then all is as it was
pub record TakesBack {T : Type 0} (old new : List (Kept T)) (id : ℕ) : Type 0 where
  pub there : IsSome (kept_of new id)
  pub last : IsLastToGo new id
  pub back : untaken id new ≡ old
