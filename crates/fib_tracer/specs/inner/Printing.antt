-- What is printed piece by piece.
use Rattle.std.specs.Prelude.{◌≡◌, ℕ, ◌<◌, ◌^◌, ◌++◌, List, Option, length}
use Rattle.fib_resolve.specs.declared.types.Tables.{Tables}
use Rattle.fib_capture.specs.Captures.{Capture}
use Rattle.fib_outside.specs.Outside.{Appends}
use Rattle.fib_rounds.specs.Packets.{last_text}
use Rattle.fib_tracer.specs.declared.log.Traced.{Traced}
use Rattle.fib_tracer.specs.declared.run.Told.{Told}
use Rattle.fib_tracer.specs.Passes.{passes_text}

-- the loads of a flow's pass can be numbered
abbrev pub IsShort : ℕ → ℕ → Traced → Type 0
IsShort a h p = length p.loads < 2 ^ 32

-- the first bytes of a text, all or none or some, were written and taken from it
abbrev pub HasMoved : Option (List ℕ) → Option (List ℕ) → List ℕ → List ℕ → Type 0
HasMoved before after old new = (part : List ℕ) × Appends before after part × (old ≡ part ++ new)

-- all that a run tells, in one text
abbrev pub told_text : Tables → Capture → Told → List ℕ
told_text S packets told = told.text.items ++ (passes_text S 0 packets.packets told.passes.items ++ last_text packets.cut)
