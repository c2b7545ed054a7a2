-- Steps that are taken one after the other: what they ask of a state, and what they make of it.
use Rattle.std.specs.Prelude.{◌≡◌, List, [], ◌∷◌}

-- each step makes a state of the one that those before it leave
abbrev pub AreTaken : {S W : Type 0} → (S → W → W → Type 0) → List S → W → W → Type 0
AreTaken makes [] old new = new ≡ old
AreTaken {S} {W} makes (s ∷ steps) old new = (mid : W) × makes s old mid × AreTaken makes steps mid new

-- each step fits the state that those before it leave
abbrev pub Fit : {S W : Type 0} → (S → W → Type 0) → (S → W → W → Type 0) → List S → W → Type 0
Fit fits makes [] state = Unit {0}
Fit {S} {W} fits makes (s ∷ steps) state = fits s state × ((next : W) → makes s state next → Fit fits makes steps next)
