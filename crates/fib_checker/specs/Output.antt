-- What a command file prints: it makes changes, and checks sources on the tables as they are then.
use Rattle.std.specs.Prelude.{ℕ, ◌+◌, ◌++◌, [], ◌∷◌, List, Option, Some, None, codes}
use Rattle.fib_commands.specs.Lines.{line_of}
use Rattle.fib_commands.specs.declared.types.Line.{Line}
use Rattle.fib_commands.specs.declared.types.Line.TheVariants as lines
use Rattle.fib_base_lines.specs.Lines.{lines_of}
use Rattle.fib_print.specs.Lines.{message, refusal_text}
use Rattle.fib_resolve.specs.Edits.{edited}
use Rattle.fib_resolve.specs.Refusals.{refused}
use Rattle.fib_resolve.specs.Tables.{fresh}
use Rattle.fib_resolve.specs.declared.types.Edit.{Edit}
use Rattle.fib_resolve.specs.declared.types.Refusal.{Refusal}
use Rattle.fib_resolve.specs.declared.types.Tables.{Tables}
use Rattle.fib_checker.specs.Checks.{check_of, check_text}

-- the tables after a line, and what it prints
abbrev pub Turn : Type 0
Turn = Tables × List ℕ

-- an edit is made, or refused with its cause
abbrev pub by_refusal : ℕ → Tables → Edit → Option Refusal → Turn
by_refusal n S edit None = (edited S edit, [])
by_refusal n S edit (Some refusal) = (S, message n (refusal_text refusal))

-- the tables may take 8,192 objects
unfoldable pub change_turn : ℕ → Tables → Edit → Turn
change_turn n S edit = by_refusal n S edit (refused S 8192 edit)

-- a line that is none of those of the grammar of changes
abbrev pub check_turn : ℕ → Tables → Option (ℕ × List ℕ) → Turn
check_turn n S None = (S, message n (codes "syntax"))
check_turn n S (Some c) = (S, check_text n S c.0 c.1)

abbrev pub other_turn : ℕ → Tables → Turn
other_turn n S = (S, message n (codes "not checked"))

-- a line by what it says, and by what it checks where it says nothing that is known
abbrev pub line_turn : ℕ → Tables → Option Line → Option (ℕ × List ℕ) → Turn
line_turn n S None check = check_turn n S check
line_turn n S (Some lines.Nothing) check = (S, [])
line_turn n S (Some (lines.Change edit)) check = change_turn n S edit
line_turn n S (Some (lines.Lookup a h)) check = other_turn n S
line_turn n S (Some lines.ShowFib) check = other_turn n S
line_turn n S (Some lines.ShowPathLists) check = other_turn n S
line_turn n S (Some lines.ShowAdj) check = other_turn n S
line_turn n S (Some (lines.Forward k)) check = other_turn n S
line_turn n S (Some lines.Begin) check = other_turn n S
line_turn n S (Some lines.Commit) check = other_turn n S

-- what line n does
unfoldable pub turn_of : ℕ → Tables → List ℕ → Turn
turn_of n S line = line_turn n S (line_of line) (check_of line)

-- what the lines print, where the first of them has that number
unfoldable pub printed : ℕ → Tables → List (List ℕ) → List ℕ
printed n S [] = []
printed n S (line ∷ lines) = (turn_of n S line).1 ++ printed (n + 1) (turn_of n S line).0 lines

-- what a command file prints
unfoldable pub check_output : List ℕ → List ℕ
check_output file = printed 1 fresh (lines_of file)
