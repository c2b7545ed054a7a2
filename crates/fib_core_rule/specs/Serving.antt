-- Steady traffic through what is cleared: an entry of all versions need not be reached, so only a hold tells that its balance may not be cleared.
use Rattle.std.specs.Prelude.{◌≡◌, ℕ, Some}
use Rattle.fib_addr.specs.Prefixes.{Prefix}
use Rattle.fib_core_lawful.specs.State.{Control, stored_union}
use Rattle.fib_core_steady.specs.Aims.{IsLasting}
use Rattle.fib_core_steady.specs.Names.{Names}
use Rattle.fib_core_steady.specs.Promise.{IsPromised}
use Rattle.fib_core_rule.specs.Steady.{versions, IsBegun}

-- an object into which nothing leads may be cleared: for some names the promise holds, and it is the balance of no entry of all versions
abbrev pub MayClear : Control → ℕ → Type 0
MayClear c o =
    IsBegun c.log
    → (n : Names) × IsPromised (versions c.log) n c.union × ((e : Prefix) → IsLasting (versions c.log) e → n.balance e ≡ Some o → ⊥)

-- what each call that stores or clears asks and keeps: for some names the promise holds, and the balance of each entry of all versions is held
abbrev pub HoldsPromise : Control → (ℕ → Type 0) → Type 0
HoldsPromise c Held =
    IsBegun c.log
    → (n : Names) × IsPromised (versions c.log) n c.union
    × ((e : Prefix) (o : ℕ) → IsLasting (versions c.log) e → n.balance e ≡ Some o → Held o)

-- the same, and the promise for the same names after a store of w into the cell k
abbrev pub HoldsPromiseStored : Control → (ℕ → Type 0) → ℕ → ℕ → Type 0
HoldsPromiseStored c Held k w =
    IsBegun c.log
    → (n : Names) × IsPromised (versions c.log) n c.union
    × ((e : Prefix) (o : ℕ) → IsLasting (versions c.log) e → n.balance e ≡ Some o → Held o)
    × IsPromised (versions c.log) n (stored_union c k w)
