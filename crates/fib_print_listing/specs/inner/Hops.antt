-- The Hop ends of marked paths, with their MACs. No contract of a public call rests on this.
use Rattle.std.specs.Prelude.{ℕ, ◌++◌, List, [], ◌∷◌, Option, codes, flat_map, map}
use Rattle.fib_addr.specs.Prefixes.{Prefix}
use Rattle.fib_resolve.specs.Aims.{marked_list}
use Rattle.fib_resolve.specs.Sizes.{same_adjacency}
use Rattle.fib_resolve.specs.declared.aims.Aim.{Aim}
use Rattle.fib_resolve.specs.declared.aims.Aim.TheVariants as aims
use Rattle.fib_resolve.specs.declared.aims.Marked.{Marked}
use Rattle.fib_resolve.specs.declared.pairs.Adjacency.{Adjacency}
use Rattle.fib_resolve.specs.declared.types.End.{End}
use Rattle.fib_resolve.specs.declared.types.End.TheVariants as answers
use Rattle.fib_resolve.specs.declared.types.Tables.{Tables}
use Rattle.fib_entries_rows.specs.Known.{Known, prefix_of}
use Rattle.fib_print.specs.Ends.{end_text}
use Rattle.fib_print_listing.specs.Order.{IsOrderedBy, adjacency_before}
use Rattle.fib_print_listing.specs.inner.Added.{Adds}

-- a Hop end: where it leads, and the MAC
abbrev pub Hop : Type 0
Hop = Adjacency × Option ℕ

abbrev pub hop_key : Hop → Adjacency
hop_key h = h.0

abbrev pub end_hops : End → List Hop
end_hops answers.Drop = []
end_hops answers.Receive = []
end_hops (answers.Glean i) = []
end_hops (answers.Hop i a mac) = (record { interface = i; next_hop = a }, mac) ∷ []

abbrev pub aim_hops : Aim → List Hop
aim_hops (aims.Ends end) = end_hops end
aim_hops (aims.On t) = []

abbrev pub mark_hops : Marked → List Hop
mark_hops m = aim_hops m.aim

abbrev pub hops_at : Tables → Prefix → List Hop
hops_at S e = flat_map mark_hops (marked_list S e)

-- they were added to a map in turn
abbrev pub AddsHops : List Hop → List Hop → List Hop → Type 0
AddsHops news old new = Adds same_adjacency (λ x. x) news old new

-- a map of the Hop ends of all rows
abbrev pub AreHops : Known → Tables → List Hop → Type 0
AreHops v S es = AddsHops (flat_map (hops_at S) (map prefix_of v.rows)) [] es

abbrev pub AreHopsOrdered : List Hop → Type 0
AreHopsOrdered es = IsOrderedBy adjacency_before (map hop_key es)

-- the line of one
abbrev pub hop_line : Tables → Hop → List ℕ
hop_line S h = end_text S (answers.Hop h.0.interface h.0.next_hop h.1) ++ codes "\n"
