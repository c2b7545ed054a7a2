-- What clap says of the counter's command, and the ranges of the settings that it gives.
use Rattle.std.proofs.Common.{◌≡◌, ℕ, true, List, Option, Some, None, arith, refl, ap, sym}
use Rattle.std.specs.Prelude.{codes, option_map, is_some, IfSome}
use Rattle.std.proofs.lemmas.Option.{option_and_then_some, same_Some, some_pair_parts}
use Rattle.clap.specs.Words.{Row, first_of}
use Rattle.clap.specs.Faults.{is_simple_and_free}
use Rattle.clap.specs.Simple.{is_simple}
use Rattle.clap.proofs.OnLiterals.{clap_on_literals}
use Rattle.fib_core.specs.Ranges.{InRange}
use Rattle.fib_core.specs.declared.settings.Settings.{Settings}
use Rattle.fib_words.specs.Parts.{number_or, objects_or}
use Rattle.fib_words.specs.Words.{Origin, files}
use Rattle.fib_words.proofs.Ranges.{number_or-within, objects_or-within}
use Rattle.fib_run.specs.Files.{Wanted}
use Rattle.fib_counter.specs.declared.words.Asked.{Asked}
use Rattle.fib_counter.specs.Words.{asked_by, asked_in, count_command, settings_of}

pub count_is_simple_and_free : is_simple_and_free count_command ≡ true
unfolding count_command clap_on_literals
count_is_simple_and_free = refl

pub count_is_simple : is_simple count_command ≡ true
unfolding count_command clap_on_literals
count_is_simple = refl

abbrev sizes : ℕ → ℕ → Settings
sizes workers objects = record { workers = workers; objects = objects; walk = 64 }

settings_in_range : (rows : List Row) (s : Settings) → settings_of rows ≡ Some s → InRange s
unfolding settings_of
settings_in_range rows s e =
    option_and_then_some _ (number_or 4 1 8 (first_of (codes "workers") rows)) s e (λ workers workers_read rest.
    option_and_then_some _ (objects_or (first_of (codes "objects") rows)) s rest (λ objects objects_read last.
    let few = number_or-within 4 1 8 _ workers (omega arith) (omega arith) workers_read in
    let enough = objects_or-within _ objects objects_read in
    rw (← same_Some (sizes workers objects) s last) (record {
      some_worker = few.0;
      few_workers = few.1;
      enough_objects = enough.0;
      objects_fit = enough.1;
      even_objects = enough.2;
      short_walk = omega arith;
    })))

asked_by_in_range : (rows : List Row) (s : Settings) (o : Origin) → asked_by rows ≡ Some (s, o) → InRange s
unfolding asked_by
asked_by_in_range rows s o e =
    option_and_then_some _ (settings_of rows) (s, o) e (λ settings settings_read rest.
    option_and_then_some _ (first_of (codes "commands") rows) (s, o) rest (λ commands _ more.
    option_and_then_some _ (first_of (codes "capture") rows) (s, o) more (λ capture _ last.
    rw (← (some_pair_parts settings s (files commands (Some capture)) o last).0) (settings_in_range rows settings settings_read))))

-- what was found, in the words of the definition
pub is_some-asked_in : (found : Option Asked) (w : Wanted) → option_map asked_in found ≡ w → is_some found ≡ is_some w
is_some-asked_in None w e = ap is_some e
is_some-asked_in (Some a) w e = ap is_some e

pub found_in_range : (found : Option Asked) (rows : List Row) → option_map asked_in found ≡ asked_by rows → IfSome found (λ a. InRange a.settings)
found_in_range None rows e = tt
found_in_range (Some a) rows e = asked_by_in_range rows a.settings (asked_in a).1 (sym e)
