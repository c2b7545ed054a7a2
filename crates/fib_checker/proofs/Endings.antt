-- How runs end.
use Rattle.std.proofs.Common.{◌≡◌, ℕ, List, Option, Some, Contains, take, drop, refl, ◌∙◌, ap, lit<, subst, take-append-drop}
use Rattle.fib_base_lines.specs.Lines.{lines_of}
use Rattle.fib_resolve.specs.Tables.{fresh}
use Rattle.fib_rounds.specs.Writes.{AppendsSome, Gains}
use Rattle.fib_run.specs.Files.{Holds, IsCommands}
use Rattle.fib_run.specs.Output.{FirstPart}
use Rattle.fib_checker.specs.Output.{check_output, printed}
use Rattle.fib_checker.specs.Runs.{ChecksOf, statuses}

-- the first bytes of a text are a first part of it
pub first_part : (holds : Holds) (name : List ℕ) (script : List (List ℕ)) (text file : List ℕ) (before after : Option (List ℕ)) → IsCommands (holds name) file
    → text ≡ printed 1 fresh script → script ≡ lines_of file → AppendsSome before after text → Gains (FirstPart (ChecksOf holds (Some name))) before after
unfolding check_output
first_part holds name script text file before after held is lines told =
    (take told.0 text, (drop told.0 text, (file, held, take-append-drop told.0 text ∙ (is ∙ ap (printed 1 fresh) lines))), told.1)

-- where a file is named, a write may fail and memory be wanted
pub write_may_fail : (name : List ℕ) (named : Option (List ℕ)) → Some name ≡ named → Contains (statuses named) 4
write_may_fail name named is = subst (λ (o : Option (List ℕ)). Contains (statuses o) 4) is (2, lit< tt, refl)

pub memory_may_lack : (name : List ℕ) (named : Option (List ℕ)) → Some name ≡ named → Contains (statuses named) 6
memory_may_lack name named is = subst (λ (o : Option (List ℕ)). Contains (statuses o) 6) is (3, lit< tt, refl)
