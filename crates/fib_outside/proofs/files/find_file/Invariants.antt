use Rattle.std.proofs.Common.{◌≡◌, drop}
use Rattle.fib_outside.specs.Memory.{files_in, file_of}
use Rattle.fib_outside.proofs.files.find_file.Given as goal

abbrev pub invariant-loop-place : goal.invariant-loop-place
invariant-loop-place l = file_of (files_in (drop l.place l.files)) l.name ≡ file_of (files_in l.files) l.name
