-- What stays of a text to which something was appended. No contract of a public call rests on this.
use Rattle.std.specs.Prelude.{◌≡◌, ℕ, List, length, take}

-- the new text begins with the old one
abbrev pub HasKept : List ℕ → List ℕ → Type 0
HasKept old new = take (length old) new ≡ old
