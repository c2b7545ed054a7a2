-- One feature of an entry that comes or goes. No contract of a public call rests on this.
use Rattle.std.specs.Prelude.{◌≡◌, ◌⊎◌, ◌↔◌, List}
use Rattle.fib_addr.specs.Prefixes.{Prefix}
use Rattle.fib_follow_features.specs.Holders.{Holders, IsFound}
use Rattle.fib_follow_features.specs.declared.feature.Feature.{Feature}

-- the entry is found by that feature too
abbrev pub Puts : List Holders → List Holders → Feature → Prefix → Type 0
Puts old new f e = (g : Feature) (q : Prefix) → IsFound new g q ↔ IsFound old g q ⊎ ((q ≡ e) × (f ≡ g))

-- it isn't any more
abbrev pub TakesOut : List Holders → List Holders → Feature → Prefix → Type 0
TakesOut old new f e = (g : Feature) (q : Prefix) → IsFound new g q ↔ IsFound old g q × ((q ≡ e) × (f ≡ g) → ⊥)

abbrev pub AreSame : List Holders → List Holders → Type 0
AreSame old new = (g : Feature) (q : Prefix) → IsFound new g q ↔ IsFound old g q
