-- Words of a line, and names of interfaces.
use Rattle.std.specs.Prelude.{ℕ, ◌≡◌, ◌∷◌, [], List, Option, Some, None, Result, Ok, Err, if◌then◌else◌}
use Rattle.std.specs.Str.{bytes_eq}
use Rattle.fib_addr.specs.Texts.{◌>>=◌}
use Rattle.fib_resolve.specs.Names.{is_name}
use Rattle.fib_commands.specs.declared.types.LineError.{LineError}
use Rattle.fib_commands.specs.declared.types.LineError.TheVariants as errors

-- A reader answers the value; Syntax exactly where there is none, unless memory ran out.
abbrev pub Lacks : {Y : Type 0} → LineError → Option Y → Type 0
Lacks errors.Memory value = Unit {0}
Lacks errors.Syntax value = value ≡ None

abbrev pub Gives : {X Y : Type 0} → (X → Y) → Result X LineError → Option Y → Type 0
Gives view (Ok x) value = value ≡ Some (view x)
Gives view (Err e) value = Lacks e value

-- the words of a line, or those of them that are left
abbrev pub Words : Type 0
Words = List (List ℕ)

-- the next word, and the words after it
abbrev pub word : Words → Option (List ℕ × Words)
word [] = None
word (w ∷ ws) = Some (w, ws)

-- the words after this one
unfoldable pub keyword : List ℕ → Words → Option Words
keyword text words = do
  next ← word words
  if bytes_eq next.0 text then Some next.1 else None

-- no word is left
abbrev pub finished : Words → Option (Unit {0})
finished [] = Some tt
finished _ = None

-- the name of an interface
unfoldable pub name_of : List ℕ → Option (List ℕ)
name_of text = if is_name text then Some text else None
