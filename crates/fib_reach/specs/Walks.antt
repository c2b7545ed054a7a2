-- Walks along the edges of a relation, and cycles. A relation says by its type which edges are there.
use Rattle.std.specs.Prelude.{◌≡◌, ◌≢◌, ℕ, zero, suc, ◌⊎◌, List, [], ◌∷◌, Contains}
use Rattle.std.specs.List.{AllByRecursion}

-- n edges lead from one node to the other
abbrev pub Walk : {A : Type 0} → (A → A → Type 0) → ℕ → A → A → Type 0
Walk E zero from to = from ≡ to
Walk {A} E (suc n) from to = (mid : A) × E from mid × Walk E n mid to

-- a walk of one or more edges
abbrev pub Reaches : {A : Type 0} → (A → A → Type 0) → A → A → Type 0
Reaches E from to = (n : ℕ) × Walk E (suc n) from to

-- a walk of any number of edges
abbrev pub Leads : {A : Type 0} → (A → A → Type 0) → A → A → Type 0
Leads E from to = (n : ℕ) × Walk E n from to

-- no node reaches itself
abbrev pub IsAcyclic : {A : Type 0} → (A → A → Type 0) → Type 0
IsAcyclic {A} E = (x : A) → Reaches E x x → ⊥

-- some node reaches itself
abbrev pub HasCycle : {A : Type 0} → (A → A → Type 0) → Type 0
HasCycle {A} E = (x : A) × Reaches E x x

-- the relation and one edge more
abbrev pub Plus : {A : Type 0} → (A → A → Type 0) → A → A → A → A → Type 0
Plus E a b x y = E x y ⊎ ((x ≡ a) × (y ≡ b))

-- each edge of the first is one of the second
abbrev pub IsPart : {A : Type 0} → (A → A → Type 0) → (A → A → Type 0) → Type 0
IsPart {A} E F = (x y : A) → E x y → F x y

-- the edges to the next nodes of each node
abbrev pub Next : {A : Type 0} → (A → List A) → A → A → Type 0
Next next x y = Contains (next x) y

-- the edges that a list of pairs gives
abbrev pub Among : {A : Type 0} → List (A × A) → A → A → Type 0
Among edges x y = Contains edges (x, y)

-- the nodes of a walk in order, with both ends
abbrev pub visited : {A : Type 0} (E : A → A → Type 0) (n : ℕ) (from to : A) → Walk E n from to → List A
visited E zero from to w = from ∷ []
visited E (suc n) from to w = from ∷ visited E n w.0 to w.2

-- no node stands twice
abbrev pub AllDiffer : {A : Type 0} → List A → Type 0
AllDiffer [] = Unit {0}
AllDiffer (x ∷ xs) = AllByRecursion (λ y. x ≢ y) xs × AllDiffer xs
