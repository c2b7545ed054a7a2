-- Files and streams in memory.
use Rattle.std.specs.Prelude.{ℕ, ◌+◌, ◌==◌, ◌||◌, ◌&&◌, ◌++◌, List, [], ◌∷◌, Bool, Option, Some, None, nat_lt, is_none, length, drop}
use Rattle.std.specs.Prelude.{if◌then◌else◌, unwrap_or, option_map, slice_get, Vec, String, string_bytes, map}
use Rattle.std.specs.List.{list_any}
use Rattle.std.specs.Str.{bytes_eq}
use Rattle.std.specs.declared.alloc.Global.{Global}
use Rattle.fib_outside.specs.declared.part.Part.{Part}
use Rattle.fib_outside.specs.FaultCounts.{FaultCounts, no_faults, raised, raised_for}

-- a file: its name and its bytes
abbrev pub File : Type 0
File = List ℕ × List ℕ

-- files as vectors, by their names and bytes
abbrev pub files_in : List (String Global × Vec ℕ Global) → List File
files_in files = map (λ file. (string_bytes file.0, file.1.items)) files

-- the bytes of the first file of that name
abbrev pub file_of : List File → List ℕ → Option (List ℕ)
file_of [] name = None
file_of (file ∷ files) name = if bytes_eq file.0 name then Some file.1 else file_of files name

-- the bytes of the file at a place, from an offset on; none where there is no file
abbrev pub left_at : List File → ℕ → ℕ → List ℕ
left_at files place at = drop at (unwrap_or (option_map (λ file. file.1) (slice_get files place)) [])

-- whether this number is among those
abbrev pub is_listed : List ℕ → ℕ → Bool
is_listed numbers n = list_any (λ x. x == n) numbers

-- files that are held, and what is left of the open one
pub record Held : Type 0 where
  pub files : List File
  pub left : List ℕ

-- a shelf without faults: the part that is open, and what is left of its file
pub record Honest : Type 0 where
  pub files : List File
  pub fetched : Option Part
  pub left : List ℕ

-- a shelf in memory: the numbers of the fetches that fail, and of the reads that do, each with that of its fetch; the fetches so far, the number of the
-- last one, the reads since then, the part of the last fetch where it was Ok, and what is left of its file
pub record Shelf : Type 0 where
  pub files : List File
  pub failing : List ℕ
  pub failing_reads : List (ℕ × ℕ)
  pub fetches : ℕ
  pub last : ℕ
  pub reads : ℕ
  pub fetched : Option Part
  pub left : List ℕ
  pub faults : FaultCounts

abbrev pub new_shelf : List File → List ℕ → List (ℕ × ℕ) → Shelf
new_shelf files failing failing_reads =
    record { files = files; failing = failing; failing_reads = failing_reads; fetches = 0; last = 0; reads = 0; fetched = None; left = []; faults = no_faults }

-- a fetch fails where its number is listed or no file has the name
abbrev pub fetch_fails : Shelf → List ℕ → Bool
fetch_fails shelf name = is_listed shelf.failing shelf.fetches || is_none (file_of shelf.files name)

-- a fetch counts, and reads are counted from there on
abbrev pub counted : Shelf → Shelf
counted shelf = record shelf { fetches = raised shelf.fetches; last = shelf.fetches; reads = 0 }

-- after a fetch that failed, nothing is open
abbrev pub after_refusal : Shelf → Part → Shelf
after_refusal shelf part = record (counted shelf) { fetched = None; left = []; faults = raised_for shelf.faults part }

abbrev pub after_fetch : Shelf → Part → List ℕ → Shelf
after_fetch shelf part name = record (counted shelf) { fetched = Some part; left = unwrap_or (file_of shelf.files name) [] }

-- a read fails where its number is listed with that of the last fetch
abbrev pub is_read_listed : List (ℕ × ℕ) → ℕ → ℕ → Bool
is_read_listed reads fetch read = list_any (λ r. (r.0 == fetch) && (r.1 == read)) reads

abbrev pub read_fails : Shelf → Bool
read_fails shelf = is_read_listed shelf.failing_reads shelf.last shelf.reads

-- after a read that took so many bytes
abbrev pub after_read : Shelf → ℕ → Shelf
after_read shelf n = record shelf { reads = raised shelf.reads; left = drop n shelf.left }

-- a fault of the part that is open
abbrev pub raised_open : FaultCounts → Option Part → FaultCounts
raised_open counts None = counts
raised_open counts (Some part) = raised_for counts part

-- after a read that failed, which took none
abbrev pub after_read_fault : Shelf → Shelf
after_read_fault shelf = record shelf { reads = raised shelf.reads; faults = raised_open shelf.faults shelf.fetched }

-- a stream in memory: for how many bytes it has room in all, the numbers of the writes that fail, and the writes so far
pub record Stream : Type 0 where
  pub written : List ℕ
  pub room : ℕ
  pub failing : List ℕ
  pub writes : ℕ
  pub faults : ℕ

-- a write fails where its number is listed or the piece is longer than the room left
abbrev pub write_fails : Stream → List ℕ → Bool
write_fails stream bytes = is_listed stream.failing stream.writes || nat_lt stream.room (length stream.written + length bytes)

abbrev pub after_fault : Stream → Stream
after_fault stream = record stream { writes = raised stream.writes; faults = raised stream.faults }

abbrev pub after_write : Stream → List ℕ → Stream
after_write stream bytes = record stream { writes = raised stream.writes; written = stream.written ++ bytes }
