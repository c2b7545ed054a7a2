-- Each step of the memory may be made: its table has no rule.
use Rattle.std.proofs.Common.{◌≡◌, ℕ, [], ap}
use mathlib.Core.Option.{none, some}
use Rattle.atomic_table.specs.Table.{State, Me, step, keeps, Allows}
use Rattle.fib_resolve.specs.declared.types.Tables.{Tables}
use Rattle.fib_core_board.specs.Boards.{Board}
use Rattle.fib_core_plainboard.specs.inner.Sits.{Gives, Begins, begun_with}

pub may_happen : (f : Board → ℕ → ℕ → Board) (g : ℕ → ℕ) (slots id : ℕ) (me : Me Tables Board) (a b : ℕ) → me ≡ (me.0, [])
    → Allows (λ (s : State Tables Board). Unit {0}) slots id me 0 g (Gives f (step slots 0 a b none) me)
may_happen f g slots id me a b sat s h homes at fits = (f me.0 a b, keeps, tt, tt, ap (λ l. (f me.0 a b, l)) (ap (λ m. m.1) sat))

pub may_begin : (g : ℕ → ℕ) (slots id : ℕ) (me : Me Tables Board) (next : Tables) → me ≡ (me.0, [])
    → Allows (λ (s : State Tables Board). Unit {0}) slots id me 0 g (Begins (step slots 0 0 0 (some next)) me)
may_begin g slots id me next sat s h homes at fits =
    (begun_with me.0 (some next), keeps, tt, tt, ap (λ l. (begun_with me.0 (some next), l)) (ap (λ m. m.1) sat))
