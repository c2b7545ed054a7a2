-- The second point in the prefix table's own words.
use Rattle.std.proofs.Common.{◌≡◌, ◌<◌, ◌^◌, ◌⊎◌, ⊎_elim, ℕ, List, Option, Some, sym, ap, ◌∙◌}
use Rattle.fib_addr.specs.Prefixes.{Prefix}
use Rattle.fib_resolve.specs.declared.types.Tables.{Tables}
use Rattle.fib_core.specs.declared.word.Word.{Word}
use Rattle.fib_core.specs.declared.word.Word.TheVariants as words
use Rattle.fib_core_steady.specs.Aims.{IsLasting}
use Rattle.fib_core_steady.specs.Names.{Names, IsIn}
use Rattle.fib_core_steady.specs.Promise.{IsRight}
use Rattle.fib_core_promise.specs.Matches.{Promised}
use Rattle.fib_core_promise.proofs.Matches.{best_lasts}
use Rattle.fib_core_steady.proofs.Lists.{some_same}

-- the cell misleads no address of which W says where it is to go
abbrev pub Leads : (ℕ → ℕ → Type 0) → Names → ℕ → ℕ → Word → Type 0
Leads W n x s (words.ToPly c) = Unit {0}
Leads W n x s (words.ToBalance o) = (a p : ℕ) → IsIn n x s a → W a p → o ≡ p
Leads W n x s words.Drop = ⊥
Leads W n x s words.Receive = ⊥
Leads W n x s (words.Glean i) = ⊥
Leads W n x s (words.ToAdjacency y) = ⊥
Leads W n x s (words.Plain m) = ⊥

pub right_by_promise : (J : List Tables) (n : Names) → ((e : Prefix) → IsLasting J e → (o : ℕ) × (n.balance e ≡ Some o)) → (x s : ℕ) (w : Word) → Leads (Promised J n.balance) n x s w → IsRight J n x s w
right_by_promise J n named x s (words.ToPly c) ok = tt
right_by_promise J n named x s (words.ToBalance o) ok = λ a e inside alike. (let p = named e (best_lasts J a e alike) in p.1 ∙ ap Some (sym (ok a p.0 inside (e, alike, p.1))))
right_by_promise J n named x s words.Drop ok = ok
right_by_promise J n named x s words.Receive ok = ok
right_by_promise J n named x s (words.Glean i) ok = ok
right_by_promise J n named x s (words.ToAdjacency y) ok = ok
right_by_promise J n named x s (words.Plain m) ok = ok

pub promise_by_right : (J : List Tables) (n : Names) (x s : ℕ) (w : Word) → IsRight J n x s w → Leads (Promised J n.balance) n x s w
promise_by_right J n x s (words.ToPly c) ok = tt
promise_by_right J n x s (words.ToBalance o) ok = λ a p inside promised. some_same o p (n.balance promised.0) (ok a promised.0 inside promised.1) promised.2
promise_by_right J n x s words.Drop ok = ok
promise_by_right J n x s words.Receive ok = ok
promise_by_right J n x s (words.Glean i) ok = ok
promise_by_right J n x s (words.ToAdjacency y) ok = ok
promise_by_right J n x s (words.Plain m) ok = ok

-- where each address of the cell is answered so before the change or after it, and both answer promised addresses with their balances
pub right_by_answers : (J : List Tables) (n : Names) → ((e : Prefix) → IsLasting J e → (o : ℕ) × (n.balance e ≡ Some o)) → (old new : ℕ → Option ℕ)
    → ((a p : ℕ) → a < 2 ^ 32 → Promised J n.balance a p → (old a ≡ Some p) × (new a ≡ Some p))
    → (x s o : ℕ) → ((a : ℕ) → IsIn n x s a → (old a ≡ Some o) ⊎ (new a ≡ Some o)) → IsRight J n x s (words.ToBalance o)
right_by_answers J n named old new both x s o answered a e inside alike =
    let p = named e (best_lasts J a e alike) in
    let two = both a p.0 inside.0 (e, alike, p.1) in
    p.1 ∙ ap Some (⊎_elim (λ (was : old a ≡ Some o). some_same p.0 o (old a) two.0 was) (λ (is : new a ≡ Some o). some_same p.0 o (new a) two.1 is) (answered a inside))
