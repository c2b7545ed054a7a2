-- Sets of prefixes that grow. No contract of a public call rests on this.
use Rattle.std.specs.Prelude.{◌≡◌, ◌⊎◌, ◌↔◌, Bool, true, List, Contains}
use Rattle.std.specs.List.{list_any}
use Rattle.fib_addr.specs.Prefixes.{Prefix}

-- exactly those that pass come
abbrev pub Adds : (Prefix → Bool) → List Prefix → List Prefix → Type 0
Adds test old new = (q : Prefix) → Contains new q ↔ Contains old q ⊎ (test q ≡ true)

-- exactly those that pass for one of the list come
abbrev pub AddsEach : {X : Type 0} → (X → Prefix → Bool) → List X → List Prefix → List Prefix → Type 0
AddsEach test xs old new = Adds (λ q. list_any (λ x. test x q) xs) old new

abbrev pub AddsMore : List Prefix → List Prefix → Type 0
AddsMore old new = (q : Prefix) → Contains old q → Contains new q
