-- The words of the command line.
use Rattle.std.specs.Prelude.{ℕ, ◌==◌, Bool, false, List, [], ◌∷◌, Option, Some, None, if◌then◌else◌}

abbrev pub starts_with_hyphen : List ℕ → Bool
starts_with_hyphen [] = false
starts_with_hyphen (b ∷ bs) = b == 45

-- one word that doesn't begin with a hyphen: the name of the command file
abbrev pub file_named : List (List ℕ) → Option (List ℕ)
file_named [] = None
file_named (word ∷ []) = if starts_with_hyphen word then None else Some word
file_named (word ∷ more ∷ words) = None
