-- The plan of what entries become: what was made anew comes, goes or gets its pairs, and the rows that are written get their marks and ranks.
use Rattle.std.specs.Prelude.{ℕ, ◌&&◌, not, Bool, false, List, [], ◌∷◌, map, filter, Option, Some, None, if◌then◌else◌}
use Rattle.std.specs.Set.{is_member}
use Rattle.fib_addr.specs.Prefixes.{Prefix, same_prefix}
use Rattle.fib_resolve.specs.declared.pairs.Pair.{Pair}
use Rattle.fib_entries_rows.specs.Known.{row_of}
use Rattle.fib_entries_rows.specs.Rows.{Row}
use Rattle.fib_follow_view.specs.Views.{Seen, anew_prefix}
use Rattle.fib_follow_view.specs.inner.Told.{are_some, is_row}
use Rattle.fib_follow_view.specs.declared.view.Anew.{Anew}
use Rattle.fib_follow_part.specs.Parts.{Part, rank_after}
use Rattle.fib_follow_told.specs.declared.body.Body.{Body}
use Rattle.fib_follow_told.specs.declared.edges.Edges.{Edges}
use Rattle.fib_follow_write.specs.declared.plan.Edge.{Edge}
use Rattle.fib_follow_write.specs.declared.plan.Listed.{Listed}
use Rattle.fib_follow_write.specs.declared.plan.Marks.{Marks}
use Rattle.fib_follow_write.specs.declared.plan.Paired.{Paired}
use Rattle.fib_follow_write.specs.declared.writing.Plan.{Plan}

-- that one, where it passes
abbrev pub only : {X : Type 0} → Bool → X → List X
only b x = if b then x ∷ [] else []

-- the prefix is an entry after the change
abbrev pub has_pairs : Anew → Bool
has_pairs x = are_some x.pairs

abbrev pub goes : Anew → Bool
goes x = not (has_pairs x)

-- and it was none before
abbrev pub comes : List Row → Anew → Bool
comes rows x = has_pairs x && not (is_row (row_of rows x.prefix))

abbrev pub listed_of : Pair → Listed
listed_of y = record { source = y.source; paths = y.paths }

-- the entry with its pairs
abbrev pub paired_of : Anew → Paired
paired_of x = record { prefix = x.prefix; pairs = map listed_of x.pairs }

-- the marks of the body, and the rank after the change
abbrev pub marks_of : Seen → Part → List ℕ → Body → Marks
marks_of v p ranks b = record { prefix = b.prefix; looped = b.looped; met = b.met; marked = b.marked; rank = rank_after v p ranks b.prefix }

abbrev pub leads_in : Option Row → Prefix → Bool
leads_in None e = false
leads_in (Some r) e = is_member same_prefix r.dependants e

-- the edge isn't there yet
abbrev pub is_fresh : List Row → Prefix × Prefix → Bool
is_fresh rows d = not (leads_in (row_of rows d.1) d.0)

abbrev pub edge_of : Prefix × Prefix → Edge
edge_of d = record { from = d.0; to = d.1 }

-- the plan of what was made anew, of these bodies, of these ranks of the part's members, and of these edges
abbrev pub plan_of : Seen → Part → List ℕ → List Body → Edges → Plan
plan_of v p ranks bodies x =
    record {
      came = map anew_prefix (filter (comes v.before.rows) v.changed);
      paired = map paired_of (filter has_pairs v.changed);
      marks = map (marks_of v p ranks) bodies;
      gone = map anew_prefix (filter goes v.changed);
      edges_in = map edge_of (filter (is_fresh v.before.rows) x.come);
      edges_out = map edge_of x.go;
    }
