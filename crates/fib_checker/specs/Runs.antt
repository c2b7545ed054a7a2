-- What a run does, by the file that the words name and what the shelf tells of it.
use Rattle.std.specs.Prelude.{◌≡◌, ℕ, [], ◌∷◌, List, Option, Some, None, if◌then◌else◌}
use Rattle.fib_run.specs.Files.{Holds, IsCommands, IsLong, is_too_long}
use Rattle.fib_checker.specs.Output.{check_output}

-- The output is that of the file, which holds what the shelf tells.
abbrev pub ChecksOf : Holds → Option (List ℕ) → List ℕ → Type 0
ChecksOf holds None out = ⊥
ChecksOf holds (Some name) out = (file : List ℕ) × IsCommands (holds name) file × (out ≡ check_output file)

-- The file is too long.
abbrev pub MayBeLong : Holds → Option (List ℕ) → Type 0
MayBeLong holds None = ⊥
MayBeLong holds (Some name) = IsLong (holds name)

-- The shelf tells that the file has these bytes.
abbrev pub IsHeld : Holds → Option (List ℕ) → List ℕ → Type 0
IsHeld holds None file = Unit {0}
IsHeld holds (Some name) file = holds name ≡ Some file

-- the status that is due by the words and by the bytes of the file
abbrev pub due : Option (List ℕ) → List ℕ → ℕ
due None file = 1
due (Some name) file = if is_too_long file then 7 else 0

-- the statuses that a run may end with
abbrev pub statuses : Option (List ℕ) → List ℕ
statuses None = 1 ∷ []
statuses (Some name) = 0 ∷ 2 ∷ 4 ∷ 6 ∷ 7 ∷ []
