-- The parts of a command line that the programs have in common. A word is the list of its bytes.
use Rattle.std.specs.Prelude.{ℕ, ◌%◌, ◌==◌, List, Bool, Option, Some, None, nat_le, if◌then◌else◌, true}
use Rattle.fib_addr.specs.Texts.{◌>>=◌, number_of}
use Rattle.clap.specs.Words.{App, Rule, Text, fault_of, new_app, new_rule}
use Rattle.clap.specs.Simple.{on_top}
use Rattle.clap.specs.Walk.{is_empty}
use Rattle.clap.specs.declared.builder.action.ArgAction.TheVariants.{Set}

-- a command without arguments; it has no flag for help, and none for a version
abbrev pub bare_command : Text → App
bare_command name = on_top (λ s. record s { no_binary_name = true; disable_help_flag = true }) (new_app name)

-- an option that takes one value
abbrev pub option_rule : Text → Rule
option_rule name = record (new_rule name) { long = Some name; action = Some Set }

-- a name that stands by itself, and may be left out
abbrev pub name_rule : Text → Rule
name_rule name = record (new_rule name) { action = Some Set }

-- whether a command takes the words
abbrev pub is_taken_by : App → List Text → Bool
is_taken_by command words = is_empty (fault_of command words)

-- the number of an option, from least to most; the default where the option isn't there
unfoldable pub number_or : ℕ → ℕ → ℕ → Option Text → Option ℕ
number_or default least most None = Some default
number_or default least most (Some text) = do
  n ← number_of 10 most text
  if nat_le least n then Some n else None

-- the number of objects, which is even
unfoldable pub objects_or : Option Text → Option ℕ
objects_or text = do
  n ← number_or 16384 64 131072 text
  if n % 2 == 0 then Some n else None
