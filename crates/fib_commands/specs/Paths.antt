-- The grammar of paths.
use Rattle.std.specs.Prelude.{ℕ, ◌||◌, ◌&&◌, ◌∷◌, [], List, Bool, true, false, not, Option, Some, None, zero, suc, is_none, IfSome, ◌<◌}
use Rattle.std.specs.Prelude.{unwrap_or, nat_lt, if◌then◌else◌, slice_index, codes}
use Rattle.std.specs.Str.{bytes_eq}
use Rattle.fib_addr.specs.Texts.{◌>>=◌, address_of, number_of}
use Rattle.fib_base_lines.specs.LineWords.{has_word, next_is}
use Rattle.fib_resolve.specs.declared.types.Need.{Need}
use Rattle.fib_resolve.specs.declared.types.Need.TheVariants as needs
use Rattle.fib_resolve.specs.declared.types.PathSpec.{PathSpec}
use Rattle.fib_resolve.specs.declared.types.SpecKind.{SpecKind}
use Rattle.fib_resolve.specs.declared.types.SpecKind.TheVariants as kinds
use Rattle.fib_commands.specs.declared.options.Options.{Options}
use Rattle.fib_resolve.specs.Names.{is_letter}
use Rattle.fib_commands.specs.Names.{Words, word, keyword, name_of}

abbrev pub no_options : Options
no_options = record { weight = None; preference = None; need = None }

-- a weight that is given is at least 1
abbrev pub IsWeighted : Options → Type 0
IsWeighted given = IfSome given.weight (λ w. 0 < w)

-- a word and its number, from least up to 255
unfoldable pub value_of : List ℕ → ℕ → Words → Option (ℕ × Words)
value_of text least words = do
  rest ← keyword text words
  n ← word rest
  value ← number_of 10 255 n.0
  if nat_lt value least then None else Some (value, n.1)

-- weight W
unfoldable pub with_weight : Options → Words → Option (Options × Words)
with_weight given words = do
  w ← value_of (codes "weight") 1 words
  Some (record given { weight = Some w.0 }, w.1)

-- preference P
unfoldable pub with_preference : Options → Words → Option (Options × Words)
with_preference given words = do
  p ← value_of (codes "preference") 0 words
  Some (record given { preference = Some p.0 }, p.1)

-- resolve-via-host or resolve-via-attached
unfoldable pub with_need : List ℕ → Need → Options → Words → Option (Options × Words)
with_need text need given words = do
  rest ← keyword text words
  Some (record given { need = Some need }, rest)

-- one more option, where one stands there that is not given yet
unfoldable pub option_of : Options → Words → Option (Options × Words)
option_of given words =
    if next_is (codes "weight") words && is_none given.weight then with_weight given words else
    if next_is (codes "preference") words && is_none given.preference then with_preference given words else
    if next_is (codes "resolve-via-host") words && is_none given.need then with_need (codes "resolve-via-host") needs.Host given words else
    if next_is (codes "resolve-via-attached") words && is_none given.need then with_need (codes "resolve-via-attached") needs.Attached given words else
    Some (given, words)

-- each option at most once, in any order
unfoldable pub options_of : Words → Option (Options × Words)
options_of words = do
  a ← option_of no_options words
  b ← option_of a.0 a.1
  option_of b.0 b.1

-- whether the next word goes on with the path, or begins another
unfoldable pub is_path_word : Words → Bool
is_path_word words =
    next_is (codes "via") words || (next_is (codes "weight") words || (next_is (codes "preference") words
    || (next_is (codes "resolve-via-host") words || next_is (codes "resolve-via-attached") words)))

-- a next hop and its interface
unfoldable pub hop_of : ℕ → Words → Option (SpecKind × Words)
hop_of addr words = do
  w ← word words
  name ← name_of w.0
  Some (kinds.Hop addr name, w.1)

-- what stands behind an address: a name, or nothing
unfoldable pub via_of : ℕ → Words → Option (SpecKind × Words)
via_of addr words = if not (has_word words) || is_path_word words then Some (kinds.Recursive addr, words) else hop_of addr words

unfoldable pub attached_of : List ℕ → Words → Option (SpecKind × Words)
attached_of text words = do
  name ← name_of text
  Some (kinds.Attached name, words)

unfoldable pub addressed_of : List ℕ → Words → Option (SpecKind × Words)
addressed_of text words = do
  addr ← address_of text
  via_of addr words

-- where a path leads, by its first word: drop, local, a name, or an address
unfoldable pub led_by : List ℕ → Words → Option (SpecKind × Words)
led_by text words =
    if bytes_eq text (codes "drop") then Some (kinds.Drop, words)
    else (if bytes_eq text (codes "local") then Some (kinds.Local, words)
    else (if is_letter (slice_index text 0) then attached_of text words else addressed_of text words))

unfoldable pub target_of : Words → Option (SpecKind × Words)
target_of words = do
  first ← word words
  led_by first.0 first.1

abbrev pub is_recursive : SpecKind → Bool
is_recursive (kinds.Recursive a) = true
is_recursive kinds.Drop = false
is_recursive kinds.Local = false
is_recursive (kinds.Attached name) = false
is_recursive (kinds.Hop a name) = false

-- a path with its options or their defaults; only a recursive one may have a need
unfoldable pub written_of : SpecKind → Options → Option PathSpec
written_of kind options =
    if is_recursive kind || is_none options.need
    then Some (record { kind = kind; weight = unwrap_or options.weight 1; preference = unwrap_or options.preference 0; need = unwrap_or options.need needs.Any })
    else None

-- via TARGET OPTIONS, and the words after it
unfoldable pub path_of : Words → Option (PathSpec × Words)
path_of words = do
  rest ← keyword (codes "via") words
  target ← target_of rest
  options ← options_of target.1
  path ← written_of target.0 options.0
  Some (path, options.1)

-- paths up to the end of the line; the number bounds how many
unfoldable pub paths_of : ℕ → Words → Option (List PathSpec)
paths_of n [] = Some []
paths_of zero (w ∷ ws) = None
paths_of (suc n) (w ∷ ws) = do
  path ← path_of (w ∷ ws)
  paths ← paths_of n path.1
  Some (path.0 ∷ paths)
