-- What is known of prefixes: whether each forwarded at its last turn, and the adjacency records that it uses, with their objects.
use Rattle.std.specs.Prelude.{ℕ, Bool, false, cond, ◌+◌, ◌==◌, ◌&&◌, List, [], ◌∷◌, length, sum_by, Option, Some, None}
use Rattle.std.specs.Map.{lookup}
use Rattle.fib_addr.specs.Prefixes.{Prefix, same_prefix}
use Rattle.fib_resolve.specs.Touched.{same_mac}
use Rattle.fib_pool.specs.declared.object.AdjacencyRecord.{AdjacencyRecord}
use Rattle.fib_stack_ledger.specs.declared.ledger.Known.{Known}
use Rattle.fib_stack_ledger.specs.declared.ledger.Use.{Use}

-- prefixes with what is known of them, each once, and for how many more there is room
pub record Book : Type 0 where
  pub rows : List (Prefix × Known)
  pub spare : ℕ

abbrev pub known_of : List (Prefix × Known) → Prefix → Option Known
known_of rows e = lookup (same_prefix e) rows

abbrev pub forwarded_by : Option Known → Bool
forwarded_by None = false
forwarded_by (Some k) = k.forwarded

abbrev pub used_by : Option Known → List Use
used_by None = []
used_by (Some k) = k.uses

-- whether the prefix forwarded at its own last turn, and what it uses
abbrev pub was_in : List (Prefix × Known) → Prefix → Bool
was_in rows e = forwarded_by (known_of rows e)

abbrev pub uses_in : List (Prefix × Known) → Prefix → List Use
uses_in rows e = used_by (known_of rows e)

abbrev pub same_record : AdjacencyRecord → AdjacencyRecord → Bool
same_record r q = (r.interface == q.interface) && ((r.next_hop == q.next_hop) && same_mac r.mac q.mac)

abbrev pub record_used : Use → AdjacencyRecord
record_used u = record { interface = u.interface; next_hop = u.next_hop; mac = u.mac }

-- how often the record stands in the list
abbrev pub times : AdjacencyRecord → List Use → ℕ
times m [] = 0
times m (u ∷ us) = cond (same_record m (record_used u)) 1 0 + times m us

-- how often it stands in all lists
abbrev pub total : List (Prefix × Known) → AdjacencyRecord → ℕ
total rows m = sum_by (λ r. times m r.1.uses) rows

-- how many uses there are
abbrev pub count : List (Prefix × Known) → ℕ
count rows = sum_by (λ r. length r.1.uses) rows
