-- Each of the eight edits makes other entries of the affected prefixes alone.
use Rattle.std.proofs.Common.{false, List}
use Rattle.fib_resolve.specs.Pairs.{base_pairs}
use Rattle.fib_resolve.specs.Tables.{IsSound}
use Rattle.fib_resolve.specs.Edits.{edited, with_neighbors, with_interfaces, neighbor_at, address_at, source_of, paths_with}
use Rattle.fib_resolve.specs.declared.types.Interface.{Interface}
use Rattle.fib_resolve.specs.declared.types.Neighbor.{Neighbor}
use Rattle.fib_resolve.specs.declared.types.Tables.{Tables}
use Rattle.fib_resolve.specs.declared.types.Edit.{Edit}
use Rattle.fib_resolve.specs.declared.types.Edit.TheVariants as edits
use Rattle.fib_resolve_changes.specs.Sources.{BaseCaught, HopsCaught, NeighborsCaught, ArePrefixes}
use Rattle.fib_resolve_changes.specs.Causes.{IsCaught}
use Rattle.fib_resolve_changes.specs.Affected.{own_of, hops_of, near_of, affected_by}
use Rattle.fib_resolve_changes.proofs.Covers.{affected_catch}
use Rattle.fib_resolve_changes.proofs.Edits.{routes_base, routes_hops, set_agrees, deleted_agrees, set_near, deleted_near}
use Rattle.fib_resolve_changes.proofs.Addresses.{addresses_base, pushed_agree, filtered_agree}

no_base_interfaces : (S : Tables) (is : List Interface) → BaseCaught S (with_interfaces S is) (λ q. false)
unfolding base_pairs
no_base_interfaces S is x quiet = (λ c. c, λ c. c)

no_base_neighbors : (S : Tables) (ns : List Neighbor) → BaseCaught S (with_neighbors S ns) (λ q. false)
unfolding base_pairs
no_base_neighbors S ns x quiet = (λ c. c, λ c. c)

based : (S : Tables) (e : Edit) → BaseCaught S (edited S e) (own_of S e)
unfolding edited
based S (edits.CreateInterface name) = no_base_interfaces S _
based S (edits.SetState name up) = no_base_interfaces S _
based S (edits.AddAddress name addr len) = addresses_base S (address_at S name addr len) _ (pushed_agree (address_at S name addr len) S.addresses)
based S (edits.DelAddress name addr len) = addresses_base S (address_at S name addr len) _ (filtered_agree (address_at S name addr len) S.addresses)
based S (edits.SetNeighbor name addr mac) = no_base_neighbors S _
based S (edits.DelNeighbor name addr) = no_base_neighbors S _
based S (edits.AddRoute prefix api specs) = routes_base S _ prefix (source_of api) (set_agrees (record { prefix = prefix; source = source_of api; paths = paths_with S prefix api specs }) S.routes)
based S (edits.DelRoute prefix api specs) = routes_base S _ prefix (source_of api) (deleted_agrees S prefix (source_of api) specs)

hopping : (S : Tables) (e : Edit) → HopsCaught S (edited S e) (hops_of S e)
unfolding edited
hopping S (edits.CreateInterface name) a quiet = (λ c. c, λ c. c)
hopping S (edits.SetState name up) a quiet = (λ c. c, λ c. c)
hopping S (edits.AddAddress name addr len) a quiet = (λ c. c, λ c. c)
hopping S (edits.DelAddress name addr len) a quiet = (λ c. c, λ c. c)
hopping S (edits.SetNeighbor name addr mac) a quiet = (λ c. c, λ c. c)
hopping S (edits.DelNeighbor name addr) a quiet = (λ c. c, λ c. c)
hopping S (edits.AddRoute prefix api specs) a quiet = routes_hops S _ prefix (source_of api) (set_agrees (record { prefix = prefix; source = source_of api; paths = paths_with S prefix api specs }) S.routes) a quiet
hopping S (edits.DelRoute prefix api specs) a quiet = routes_hops S _ prefix (source_of api) (deleted_agrees S prefix (source_of api) specs) a quiet

nearing : (S : Tables) (e : Edit) → NeighborsCaught S (edited S e) (near_of S e)
unfolding edited
nearing S (edits.CreateInterface name) a i quiet = (λ c. c, λ c. c)
nearing S (edits.SetState name up) a i quiet = (λ c. c, λ c. c)
nearing S (edits.AddAddress name addr len) a i quiet = (λ c. c, λ c. c)
nearing S (edits.DelAddress name addr len) a i quiet = (λ c. c, λ c. c)
nearing S (edits.SetNeighbor name addr mac) a i quiet = set_near S (neighbor_at S name addr mac) a i quiet
nearing S (edits.DelNeighbor name addr) a i quiet = deleted_near S (neighbor_at S name addr 0) a i quiet
nearing S (edits.AddRoute prefix api specs) a i quiet = (λ c. c, λ c. c)
nearing S (edits.DelRoute prefix api specs) a i quiet = (λ c. c, λ c. c)

-- an edit makes other entries of the affected prefixes alone
pub edit_caught : (S : Tables) (e : Edit) → IsSound S → IsSound (edited S e) → ArePrefixes (edited S e) → IsCaught S (edited S e) (affected_by S e)
edit_caught S e before after good = affected_catch S (edited S e) (own_of S e) (hops_of S e) (near_of S e) before after good (based S e) (hopping S e) (nearing S e)
