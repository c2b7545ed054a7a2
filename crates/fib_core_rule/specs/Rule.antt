-- The rule of the shared words: what holds between any two events, whatever the interleaving.
use Rattle.std.specs.Prelude.{ℕ, List}
use Rattle.fib_core_lawful.specs.State.{View}
use Rattle.fib_core_lawful.specs.Frame.{Parts, both}
use Rattle.fib_core_lawful.specs.Lawful.{lawful}
use Rattle.fib_core_lawful.specs.Rule.{Holds}
use Rattle.fib_core_steady.specs.Names.{Names}
use Rattle.fib_core_steady.specs.Rooted.{PliesHang}
use Rattle.fib_core_rule.specs.Steady.{steady}

-- plies hang together
abbrev pub hangs : Parts
hangs = record {
  of_control = λ words c. PliesHang c.workers c.union;
  of_worker = λ words c w. Unit {0};
  of_note = λ words c v. Unit {0};
}

-- all parts, for one choice of names
abbrev pub parts : ℕ → Names → Parts
parts objects n = both (both (lawful objects) (steady n)) hangs

-- the names are whatever serves
pub record IsLawful (objects : ℕ) (words : List ℕ) (views : List View) : Type 0 where
  pub names : Names
  pub holds : Holds (parts objects names) words views
