-- The texts of refused lines.
use Rattle.std.specs.Prelude.{ℕ, ◌++◌, List, codes, decimal}
use Rattle.fib_resolve.specs.declared.types.Refusal.{Refusal}
use Rattle.fib_resolve.specs.declared.types.Refusal.TheVariants as refusals
use Rattle.fib_print.specs.declared.lines.BatchFault.{BatchFault}
use Rattle.fib_print.specs.declared.lines.BatchFault.TheVariants as faults

-- line N: TEXT
unfoldable pub message : ℕ → List ℕ → List ℕ
message n text = codes "line " ++ decimal n ++ codes ": " ++ text ++ codes "\n"

abbrev pub refusal_text : Refusal → List ℕ
refusal_text refusals.NoSuchInterface = codes "no such interface"
refusal_text refusals.InterfaceExists = codes "interface exists"
refusal_text refusals.TooManyInterfaces = codes "too many interfaces"
refusal_text refusals.AddressThere = codes "address is there"
refusal_text refusals.NoSuchAddress = codes "no such address"
refusal_text refusals.ConnectedElsewhere = codes "connected on another interface"
refusal_text refusals.NoSuchNeighbor = codes "no such neighbor"
refusal_text refusals.MixedPaths = codes "mixed paths"
refusal_text refusals.TooManyPaths = codes "too many paths"
refusal_text refusals.NoSuchRoute = codes "no such route"
refusal_text refusals.NoSuchPath = codes "no such path"
refusal_text refusals.TooLarge = codes "too large"

abbrev pub batch_text : BatchFault → List ℕ
batch_text faults.InBatch = codes "in a batch"
batch_text faults.NoBatch = codes "no batch"
batch_text faults.Spoiled = codes "batch spoiled"
batch_text faults.NotCommitted = codes "batch not committed"
