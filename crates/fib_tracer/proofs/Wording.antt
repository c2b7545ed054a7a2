-- The command line.
use Rattle.std.proofs.Common.{◌≡◌, ◌≤◌, ◌%◌, ℕ, List, Option, Some, None, true, Bool, arith, refl, ap, sym, if◌then◌else◌}
use Rattle.std.specs.Prelude.{codes, option_map, is_some, IfSome}
use Rattle.std.proofs.lemmas.Option.{option_and_then_some, some_pair_parts}
use Rattle.clap.specs.Words.{Row, Text, first_of}
use Rattle.clap.specs.Faults.{is_simple_and_free}
use Rattle.clap.specs.Simple.{is_simple}
use Rattle.clap.proofs.OnLiterals.{clap_on_literals}
use Rattle.fib_core.specs.Ranges.{InRange}
use Rattle.fib_core.specs.declared.settings.Settings.{Settings}
use Rattle.fib_words.specs.Parts.{objects_or}
use Rattle.fib_words.specs.Words.{Origin, files}
use Rattle.fib_words.proofs.Ranges.{behind, objects_or-within}
use Rattle.fib_tracer.specs.declared.words.Wanted.{Wanted}
use Rattle.fib_tracer.specs.Words.{sized, trace_command, wanted_by, wanted_in}

-- clap's definitions speak of this command
pub trace_is_simple_and_free : is_simple_and_free trace_command ≡ true
unfolding trace_command clap_on_literals
trace_is_simple_and_free = refl

pub trace_is_simple : is_simple trace_command ≡ true
unfolding trace_command clap_on_literals
trace_is_simple = refl

-- the sizes lie in their ranges
pub sized_in_range : (n : ℕ) → 64 ≤ n → n ≤ 131072 → n % 2 ≡ 0 → InRange (sized n)
sized_in_range n least most even = record {
  some_worker = omega arith;
  few_workers = omega arith;
  enough_objects = least;
  objects_fit = most;
  even_objects = even;
  short_walk = omega arith;
}

wanted_in_range : (rows : List Row) (s : Settings) (o : Origin) → wanted_by rows ≡ Some (s, o) → InRange s
unfolding wanted_by
wanted_in_range rows s o e =
    option_and_then_some _ (objects_or (first_of (codes "objects") rows)) (s, o) e (λ objects objects_read rest.
    option_and_then_some _ (first_of (codes "commands") rows) (s, o) rest (λ commands _ rest.
    option_and_then_some _ (first_of (codes "capture") rows) (s, o) rest (λ capture _ last.
    let within = objects_or-within _ objects objects_read in
    rw (← (some_pair_parts (sized objects) s (files commands (Some capture)) o last).0) (sized_in_range objects within.0 within.1 within.2))))

-- what was found, in the words of the definition
pub is_some-wanted_in : (found : Option Wanted) (o : Option (Settings × Origin)) → option_map wanted_in found ≡ o → is_some found ≡ is_some o
is_some-wanted_in None o e = ap is_some e
is_some-wanted_in (Some w) o e = ap is_some e

pub found_in_range : (found : Option Wanted) (rows : List Row) → option_map wanted_in found ≡ wanted_by rows → IfSome found (λ w. InRange (sized w.objects))
found_in_range None rows e = tt
found_in_range (Some w) rows e = wanted_in_range rows (sized w.objects) (files w.commands.now (Some w.capture.now)) (sym e)
