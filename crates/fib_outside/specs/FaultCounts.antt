-- Counts of faults.
use Rattle.std.specs.Prelude.{ℕ, ◌+◌, ◌-◌, ◌^◌, nat_lt, if◌then◌else◌}
use Rattle.fib_outside.specs.declared.part.Part.{Part}
use Rattle.fib_outside.specs.declared.part.Part.TheVariants.{Commands, Capture}

-- one more; a count stands still at the end of 64 bits
abbrev pub raised : ℕ → ℕ
raised n = if nat_lt n (2 ^ 64 - 1) then n + 1 else n

-- how often the file of each part has failed
pub record FaultCounts : Type 0 where
  pub commands : ℕ
  pub capture : ℕ

abbrev pub no_faults : FaultCounts
no_faults = record { commands = 0; capture = 0 }

abbrev pub count_of : FaultCounts → Part → ℕ
count_of counts Commands = counts.commands
count_of counts Capture = counts.capture

-- one more for this part, and as many as before for the other
abbrev pub raised_for : FaultCounts → Part → FaultCounts
raised_for counts Commands = record { commands = raised counts.commands; capture = counts.capture }
raised_for counts Capture = record { commands = counts.commands; capture = raised counts.capture }
