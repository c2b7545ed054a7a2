-- What the lines of the script ask for.
use Rattle.std.specs.Prelude.{ℕ, ◌≡◌, ◌⊎◌, Option, Some, None}
use Rattle.std.specs.List.{AllByRecursion}
use Rattle.fib_commands.specs.declared.types.Line.{Line}
use Rattle.fib_commands.specs.declared.types.Line.TheVariants as lines
use Rattle.fib_commands.specs.Lines.{line_of}
use Rattle.fib_soak.specs.Scripts.{soak_lines}

-- a change of the tables, or no line of the grammar
abbrev pub IsChangeOrNone : Option Line → Type 0
IsChangeOrNone None = Unit {0}
IsChangeOrNone (Some (lines.Change edit)) = Unit {0}
IsChangeOrNone (Some lines.Nothing) = ⊥
IsChangeOrNone (Some (lines.Lookup a h)) = ⊥
IsChangeOrNone (Some lines.ShowFib) = ⊥
IsChangeOrNone (Some lines.ShowPathLists) = ⊥
IsChangeOrNone (Some lines.ShowAdj) = ⊥
IsChangeOrNone (Some (lines.Forward n)) = ⊥
IsChangeOrNone (Some lines.Begin) = ⊥
IsChangeOrNone (Some lines.Commit) = ⊥

-- the line is read so
pub record MayChange (said : Option Line) : Type 0 where
  pub kind : IsChangeOrNone said

-- the next 500 packets
abbrev pub Asks500 : Option Line → Type 0
Asks500 said = said ≡ Some (lines.Forward 500)

-- each line of a script may change the tables or asks for 500 packets
abbrev pub LinesAreChanges : Type 0
LinesAreChanges = (seed : ℕ) → AllByRecursion (λ line. MayChange (line_of line) ⊎ Asks500 (line_of line)) (soak_lines seed)
