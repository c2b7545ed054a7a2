-- The settings of accepted words lie in their ranges.
use Rattle.std.proofs.Common.{◌≡◌, ℕ, ◌≤◌, ◌%◌, ◌==◌, nat_le, Bool, true, false, List, Option, Some, None, arith, ap, sym, if◌then◌else◌}
use Rattle.std.specs.Prelude.{codes, option_map, is_some, IfSome}
use Rattle.std.proofs.lemmas.Bool.Decides.{nat_tests}
use Rattle.std.proofs.lemmas.Option.{cond_some, none-some, option_and_then_some, same_Some, some_pair_parts}
use Rattle.clap.specs.Words.{Row, Text, first_of}
use Rattle.fib_addr.specs.Texts.{number_of}
use Rattle.fib_words.specs.declared.types.Asked.{Asked}
use Rattle.fib_core.specs.declared.settings.Settings.{Settings}
use Rattle.fib_words.specs.Parts.{number_or, objects_or}
use Rattle.fib_words.specs.Words.{asked, asked_by, settings_of, source_of, is_taken, asked_in, origin_in, Origin, AcceptedAreInRange}
use Rattle.fib_core.specs.Ranges.{InRange}

number_of-le : (width greatest : ℕ) (text : Text) (n : ℕ) → number_of width greatest text ≡ Some n → n ≤ greatest
unfolding number_of
number_of-le width greatest text n e = grind (arith, nat_tests)

-- a number that is read lies within its range, if the default does
pub number_or-within : (default least most : ℕ) (text : Option Text) (n : ℕ) → least ≤ default → default ≤ most → number_or default least most text ≡ Some n → (least ≤ n) × (n ≤ most)
unfolding number_or
number_or-within default least most None n low high e = let is = same_Some default n e in (omega (arith, is, low), omega (arith, is, high))
number_or-within default least most (Some text) n low high e =
    option_and_then_some _ (number_of 10 most text) n e (λ m read rest.
    let tested = cond_some (nat_le least m) m n rest in
    let no_less = tested.0 in
    let no_more = number_of-le 10 most text m read in
    (grind (arith, nat_tests), omega (arith, tested.1, no_more)))

-- the number of objects is even, and within its range
pub objects_or-within : (text : Option Text) (n : ℕ) → objects_or text ≡ Some n → (64 ≤ n) × (n ≤ 131072) × (n % 2 ≡ 0)
unfolding objects_or
objects_or-within text n e =
    option_and_then_some _ (number_or 16384 64 131072 text) n e (λ m read rest.
    let tested = cond_some (m % 2 == 0) m n rest in
    let even = tested.0 in
    let within = number_or-within 16384 64 131072 text m (omega arith) (omega arith) read in
    (omega (arith, tested.1, within.0), omega (arith, tested.1, within.1), grind (arith, nat_tests)))

abbrev sizes : ℕ → ℕ → ℕ → Settings
sizes workers objects walk = record { workers = workers; objects = objects; walk = walk }

settings_in_range : (rows : List Row) (s : Settings) → settings_of rows ≡ Some s → InRange s
unfolding settings_of
settings_in_range rows s e =
    let given = λ (id : Text). first_of id rows in
    option_and_then_some _ (number_or 4 1 8 (given (codes "workers"))) s e (λ workers workers_read rest.
    option_and_then_some _ (objects_or (given (codes "objects"))) s rest (λ objects objects_read rest.
    option_and_then_some _ (number_or 64 0 65535 (given (codes "walk"))) s rest (λ walk walk_read last.
    let few = number_or-within 4 1 8 _ workers (omega arith) (omega arith) workers_read in
    let enough = objects_or-within _ objects objects_read in
    let short = number_or-within 64 0 65535 _ walk (omega arith) (omega arith) walk_read in
    rw (← same_Some (sizes workers objects walk) s last) (record {
      some_worker = few.0;
      few_workers = few.1;
      enough_objects = enough.0;
      objects_fit = enough.1;
      even_objects = enough.2;
      short_walk = short.1;
    }))))

asked_by_in_range : (rows : List Row) (s : Settings) (o : Origin) → asked_by rows ≡ Some (s, o) → InRange s
unfolding asked_by
asked_by_in_range rows s o e =
    option_and_then_some _ (settings_of rows) (s, o) e (λ settings settings_read rest.
    option_and_then_some _ (source_of rows) (s, o) rest (λ source _ last.
    rw (← (some_pair_parts settings s source o last).0) (settings_in_range rows settings settings_read)))

-- a test that gives a value passes on what stands behind it
pub behind : {A : Type 0} (b : Bool) (o : Option A) (a : A) → (if b then o else None) ≡ Some a → o ≡ Some a
behind true o a e = e
behind false o a e = absurd (none-some a e)

pub accepted_in_range : AcceptedAreInRange
unfolding asked
accepted_in_range words s o e = asked_by_in_range _ s o (behind (is_taken words) _ (s, o) e)

-- what was found, in the words of the definition
pub is_some-asked_in : (found : Option Asked) (o : Option (Settings × Origin)) → option_map asked_in found ≡ o → is_some found ≡ is_some o
is_some-asked_in None o e = ap is_some e
is_some-asked_in (Some a) o e = ap is_some e

pub found_in_range : (found : Option Asked) (rows : List Row) → option_map asked_in found ≡ asked_by rows → IfSome found (λ a. InRange a.settings)
found_in_range None rows e = tt
found_in_range (Some a) rows e = asked_by_in_range rows a.settings (origin_in a.source) (sym e)
