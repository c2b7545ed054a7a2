use Rattle.std.proofs.Common.{refl, ◌∙◌, ap, map, string_bytes}
use Rattle.clap.specs.Faults.{is_simple_and_free}
use Rattle.clap.specs.Simple.{is_simple, matches_of}
use Rattle.fib_words.specs.Parts.{is_taken_by}
use Rattle.fib_words.proofs.Commands.{read_as_option}
use Rattle.fib_counter.specs.Words.{wanted}
use Rattle.fib_counter.proofs.Commands.{count_is_simple, count_is_simple_and_free, found_in_range, is_some-asked_in}
use Rattle.fib_counter.proofs.words.read_words.Goals as goal

pub returns-in_default : goal.returns-in_default
unfolding wanted
returns-in_default c =
    let told = rw c.in_default.is at c.in_ok-matches.ensures in
    rw (← (told.taken ∙ ap (λ a. is_taken_by a (map string_bytes c.args.words.now)) c.in_ok-count_command.ensures)) (record { value = refl; accepted = refl; ranges = tt })

pub returns : goal.returns
unfolding wanted
returns c =
    let told = rw c.in-Some.is at c.in_ok-matches.ensures in
    let words = map string_bytes c.args.words.now in
    let is = c.in_ok-count_command.ensures in
    let value = read_as_option _ _ _ c.read_matches.ensures in
    rw (c.ok.ensures.value, ← (told.taken ∙ ap (λ a. is_taken_by a words) is), ← (told.matches ∙ ap (λ a. matches_of a words) is)) (record {
      value = value;
      accepted = is_some-asked_in _ _ value;
      ranges = found_in_range _ _ value;
    })

pub matches_in-requires-clause-simple : goal.matches_in-requires-clause-simple
matches_in-requires-clause-simple c = ap is_simple c.in_ok-count_command.ensures ∙ count_is_simple

pub matches_in-requires-clause-free : goal.matches_in-requires-clause-free
matches_in-requires-clause-free c = ap is_simple_and_free c.in_ok-count_command.ensures ∙ count_is_simple_and_free
