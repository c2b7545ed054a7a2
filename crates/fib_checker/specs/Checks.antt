-- A line that checks a source: `check ADDRESS NAME`.
use Rattle.std.specs.Prelude.{ℕ, Bool, ◌++◌, List, Option, Some, None, codes, if◌then◌else◌}
use Rattle.fib_addr.specs.Texts.{◌>>=◌, address_of}
use Rattle.fib_commands.specs.Names.{Words, word, keyword, finished, name_of}
use Rattle.fib_base_lines.specs.LineWords.{words_of}
use Rattle.fib_print.specs.Lines.{message, refusal_text}
use Rattle.fib_resolve.specs.Tables.{interface_named}
use Rattle.fib_resolve.specs.declared.types.Refusal.TheVariants as refusals
use Rattle.fib_resolve.specs.declared.types.Tables.{Tables}
use Rattle.fib_urpf.specs.ReversePath.{loose, strict}

-- the address of the source, and the name of the interface over which it came
unfoldable pub check_in : Words → Option (ℕ × List ℕ)
check_in words = do
  rest ← keyword (codes "check") words
  a ← word rest
  n ← word a.1
  end ← finished n.1
  addr ← address_of a.0
  name ← name_of n.0
  Some (addr, name)

abbrev pub check_of : List ℕ → Option (ℕ × List ℕ)
check_of line = check_in (words_of line)

abbrev pub verdict : Bool → List ℕ
verdict b = if b then codes "pass" else codes "fail"

-- what both checks say
unfoldable pub verdicts : Bool → Bool → List ℕ
verdicts strictly loosely = codes "strict " ++ verdict strictly ++ codes " loose " ++ verdict loosely ++ codes "\n"

-- a check over the interface of that number; without one the line is refused
abbrev pub check_over : ℕ → Tables → ℕ → Option ℕ → List ℕ
check_over n S a None = message n (refusal_text refusals.NoSuchInterface)
check_over n S a (Some i) = verdicts (strict S a i) (loose S a)

-- what line n prints, where it is a check of that source
unfoldable pub check_text : ℕ → Tables → ℕ → List ℕ → List ℕ
check_text n S a name = check_over n S a (interface_named S name)
