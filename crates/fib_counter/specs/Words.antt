-- The command line of the counter: which words are accepted, and what they ask for. A word is the list of its bytes.
use Rattle.std.specs.Prelude.{List, Bool, Option, Some, None, if◌then◌else◌, codes, is_some}
use Rattle.fib_addr.specs.Texts.{◌>>=◌}
use Rattle.clap.specs.Words.{App, Row, Text, first_of, matches_of, with_rule}
use Rattle.fib_core.specs.declared.settings.Settings.{Settings}
use Rattle.fib_words.specs.Parts.{bare_command, is_taken_by, name_rule, number_or, objects_or, option_rule}
use Rattle.fib_words.specs.Words.{Origin, files}
use Rattle.fib_run.specs.Files.{Wanted}
use Rattle.fib_counter.specs.declared.words.Asked.{Asked}

-- two options and two names
unfoldable pub count_command : App
count_command =
    let sized = with_rule (with_rule (bare_command (codes "fib_counter")) (option_rule (codes "workers")))
    (option_rule (codes "objects")) in
    with_rule (with_rule sized (name_rule (codes "commands"))) (name_rule (codes "capture"))

-- the sizes of the run; of the walk no text depends
unfoldable pub settings_of : List Row → Option Settings
settings_of rows = do
  workers ← number_or 4 1 8 (first_of (codes "workers") rows)
  objects ← objects_or (first_of (codes "objects") rows)
  Some (record { workers = workers; objects = objects; walk = 64 })

-- both names must be there
unfoldable pub asked_by : List Row → Wanted
asked_by rows = do
  settings ← settings_of rows
  commands ← first_of (codes "commands") rows
  capture ← first_of (codes "capture") rows
  Some (settings, files commands (Some capture))

-- what the words ask for; nothing where they aren't accepted
unfoldable pub wanted : List Text → Wanted
wanted words = if is_taken_by count_command words then asked_by (matches_of count_command words) else None

-- whether the words are accepted
abbrev pub accepts : List Text → Bool
accepts words = is_some (wanted words)

-- what a value of the program says, in these words
abbrev pub asked_in : Asked → Settings × Origin
asked_in a = (a.settings, files a.commands.now (Some a.capture.now))
