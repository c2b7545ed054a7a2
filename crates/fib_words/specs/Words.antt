-- The command line: which words are accepted, and what they ask for. A word is the list of its bytes.
use Rattle.std.specs.Prelude.{ℕ, ◌≡◌, List, Bool, Option, Some, None, if◌then◌else◌, codes, option_map, is_some}
use Rattle.fib_addr.specs.Texts.{◌>>=◌, number_of}
use Rattle.clap.specs.Words.{App, Row, Text, first_of, matches_of, with_rule}
use Rattle.fib_core.specs.Ranges.{InRange}
use Rattle.fib_core.specs.declared.settings.Settings.{Settings}
use Rattle.fib_words.specs.Parts.{bare_command, is_taken_by, name_rule, number_or, objects_or, option_rule}
use Rattle.fib_words.specs.declared.types.Asked.{Asked}
use Rattle.fib_words.specs.declared.types.Source.{Source}
use Rattle.fib_words.specs.declared.types.Source.TheVariants.{Soak, Files}

-- the command: four options and two names; no flag for help, and none for a version
unfoldable pub fib_command : App
fib_command =
    let sized = with_rule (with_rule (bare_command (codes "fib_tool")) (option_rule (codes "workers"))) (option_rule (codes "objects")) in
    let whole = with_rule (with_rule sized (option_rule (codes "walk"))) (option_rule (codes "soak")) in
    with_rule (with_rule whole (name_rule (codes "commands"))) (name_rule (codes "capture"))

-- whether the command takes the words
abbrev pub is_taken : List Text → Bool
is_taken words = is_taken_by fib_command words

-- the sizes of the run, by the values of the options
unfoldable pub settings_of : List Row → Option Settings
settings_of rows = do
  workers ← number_or 4 1 8 (first_of (codes "workers") rows)
  objects ← objects_or (first_of (codes "objects") rows)
  walk ← number_or 64 0 65535 (first_of (codes "walk") rows)
  Some (record { workers = workers; objects = objects; walk = walk })

-- a seed; or the name of the commands, and that of the capture where it's given
pub data Origin : Type 0 where
  soak : ℕ → Origin
  files : Text → Option Text → Origin

-- either a seed without names, or the commands' name without a seed
abbrev pub source_by : Option ℕ → Option Text → Option Text → Option Origin
source_by (Some seed) None None = Some (soak seed)
source_by None (Some commands) capture = Some (files commands capture)
source_by _ _ _ = None

-- the seed, which may be left out, but is a number where it's there
abbrev pub seed_of : Option Text → Option (Option ℕ)
seed_of None = Some None
seed_of (Some text) = option_map (λ n. Some n) (number_of 10 4294967295 text)

-- where the lines and the packets come from, by the values of --soak and of the names
unfoldable pub source_of : List Row → Option Origin
source_of rows = do
  seed ← seed_of (first_of (codes "soak") rows)
  source_by seed (first_of (codes "commands") rows) (first_of (codes "capture") rows)

-- both together
unfoldable pub asked_by : List Row → Option (Settings × Origin)
asked_by rows = do
  settings ← settings_of rows
  source ← source_of rows
  Some (settings, source)

-- what the words ask for; nothing where they aren't accepted
unfoldable pub asked : List Text → Option (Settings × Origin)
asked words = if is_taken words then asked_by (matches_of fib_command words) else None

-- whether the words are accepted
abbrev pub accepts : List (List ℕ) → Bool
accepts words = is_some (asked words)

-- what a value of the program says, in these words
abbrev pub origin_in : Source → Origin
origin_in (Soak seed) = soak seed
origin_in (Files commands capture) = files commands.now (option_map (λ s. s.now) capture)

abbrev pub asked_in : Asked → Settings × Origin
asked_in a = (a.settings, origin_in a.source)

-- the settings that accepted words ask for lie in their ranges
abbrev pub AcceptedAreInRange : Type 0
AcceptedAreInRange = (words : List (List ℕ)) (s : Settings) (o : Origin) → asked words ≡ Some (s, o) → InRange s
