-- The tables after an edit, and after several.
use Rattle.std.specs.Prelude.{ℕ, Bool, false, not, List, [], ◌∷◌, ◌++◌, map, filter, fold, unwrap_or, if◌then◌else◌}
use Rattle.std.specs.List.{list_any}
use Rattle.fib_addr.specs.Prefixes.{Prefix}
use Rattle.fib_resolve.specs.Keys.{key_of, key_lt, same_key}
use Rattle.fib_resolve.specs.Tables.{has_name, interface_named, same_address, same_neighbor, is_route}
use Rattle.fib_resolve.specs.declared.types.Interface.{Interface}
use Rattle.fib_resolve.specs.declared.types.Address.{Address}
use Rattle.fib_resolve.specs.declared.types.Neighbor.{Neighbor}
use Rattle.fib_resolve.specs.declared.types.Path.{Path}
use Rattle.fib_resolve.specs.declared.types.PathKind.{PathKind}
use Rattle.fib_resolve.specs.declared.types.PathKind.TheVariants as kinds
use Rattle.fib_resolve.specs.declared.types.PathSpec.{PathSpec}
use Rattle.fib_resolve.specs.declared.types.SpecKind.{SpecKind}
use Rattle.fib_resolve.specs.declared.types.SpecKind.TheVariants as written
use Rattle.fib_resolve.specs.declared.types.FibSource.{FibSource}
use Rattle.fib_resolve.specs.declared.types.FibSource.TheVariants as sources
use Rattle.fib_resolve.specs.declared.types.Route.{Route}
use Rattle.fib_resolve.specs.declared.types.Tables.{Tables}
use Rattle.fib_resolve.specs.declared.types.Edit.{Edit}
use Rattle.fib_resolve.specs.declared.types.Edit.TheVariants as edits

-- the number of the interface with that name, where there is one
abbrev pub number_of : Tables → List ℕ → ℕ
number_of S name = unwrap_or (interface_named S name) 0

abbrev pub with_state : List ℕ → Bool → Interface → Interface
with_state name up i = if has_name name i then record { name = i.name; up = up } else i

-- in place of the neighbor with that interface and address, or at the end
abbrev pub set_neighbor : Neighbor → List Neighbor → List Neighbor
set_neighbor n [] = n ∷ []
set_neighbor n (m ∷ ms) = if same_neighbor m n then n ∷ ms else m ∷ set_neighbor n ms

-- in place of the path with that key, or where its key stands in order
abbrev pub set_path : Path → List Path → List Path
set_path p [] = p ∷ []
set_path p (q ∷ qs) =
    if key_lt (key_of q) (key_of p) then q ∷ set_path p qs else
    if same_key (key_of q) (key_of p) then p ∷ qs else
    p ∷ q ∷ qs

abbrev pub set_paths : List Path → List Path → List Path
set_paths old ps = fold (λ list p. set_path p list) old ps

abbrev pub kind_of : Tables → SpecKind → PathKind
kind_of S written.Drop = kinds.Drop
kind_of S written.Local = kinds.Local
kind_of S (written.Attached name) = kinds.Attached (number_of S name)
kind_of S (written.Hop a name) = kinds.Hop a (number_of S name)
kind_of S (written.Recursive a) = kinds.Recursive a

-- the path that is written so
abbrev pub path_of : Tables → PathSpec → Path
path_of S spec = record { kind = kind_of S spec.kind; need = spec.need; weight = spec.weight; preference = spec.preference }

abbrev pub source_of : Bool → FibSource
source_of api = if api then sources.Api else sources.Cli

abbrev pub paths_at : Prefix → FibSource → List Route → List Path
paths_at prefix source [] = []
paths_at prefix source (r ∷ rs) = if is_route prefix source r then r.paths else paths_at prefix source rs

-- in place of the route of that prefix and source, or at the end
abbrev pub set_route : Route → List Route → List Route
set_route new [] = new ∷ []
set_route new (r ∷ rs) = if is_route new.prefix new.source r then new ∷ rs else r ∷ set_route new rs

abbrev pub without_route : Prefix → FibSource → List Route → List Route
without_route prefix source routes = filter (λ r. not (is_route prefix source r)) routes

abbrev pub lacks_key : List Path → Path → Bool
lacks_key ps p = not (list_any (λ q. same_key (key_of q) (key_of p)) ps)

-- what is left of the list without the keys of the others
abbrev pub without_paths : List Path → List Path → List Path
without_paths old ps = filter (lacks_key ps) old

-- the route goes with its last path
abbrev pub route_left : Prefix → FibSource → List Path → List Route → List Route
route_left prefix source [] routes = without_route prefix source routes
route_left prefix source (p ∷ ps) routes = set_route (record { prefix = prefix; source = source; paths = p ∷ ps }) routes

-- without paths the whole route goes
abbrev pub routes_without : Tables → Prefix → FibSource → List PathSpec → List Route
routes_without S prefix source [] = without_route prefix source S.routes
routes_without S prefix source (spec ∷ specs) =
    route_left prefix source (without_paths (paths_at prefix source S.routes) (map (path_of S) (spec ∷ specs))) S.routes

abbrev pub with_interfaces : Tables → List Interface → Tables
with_interfaces S interfaces = record { interfaces = interfaces; addresses = S.addresses; neighbors = S.neighbors; routes = S.routes }

abbrev pub with_addresses : Tables → List Address → Tables
with_addresses S addresses = record { interfaces = S.interfaces; addresses = addresses; neighbors = S.neighbors; routes = S.routes }

abbrev pub with_neighbors : Tables → List Neighbor → Tables
with_neighbors S neighbors = record { interfaces = S.interfaces; addresses = S.addresses; neighbors = neighbors; routes = S.routes }

abbrev pub with_routes : Tables → List Route → Tables
with_routes S routes = record { interfaces = S.interfaces; addresses = S.addresses; neighbors = S.neighbors; routes = routes }

abbrev pub address_at : Tables → List ℕ → ℕ → ℕ → Address
address_at S name addr len = record { interface = number_of S name; addr = addr; len = len }

abbrev pub neighbor_at : Tables → List ℕ → ℕ → ℕ → Neighbor
neighbor_at S name addr mac = record { interface = number_of S name; addr = addr; mac = mac }

-- the list of that prefix and source after these paths are set in turn
abbrev pub paths_with : Tables → Prefix → Bool → List PathSpec → List Path
paths_with S prefix api specs = set_paths (paths_at prefix (source_of api) S.routes) (map (path_of S) specs)

unfoldable pub edited : Tables → Edit → Tables
edited S (edits.CreateInterface name) = with_interfaces S (S.interfaces ++ record { name = name; up = false } ∷ [])
edited S (edits.SetState name up) = with_interfaces S (map (with_state name up) S.interfaces)
edited S (edits.AddAddress name addr len) = with_addresses S (S.addresses ++ address_at S name addr len ∷ [])
edited S (edits.DelAddress name addr len) = with_addresses S (filter (λ a. not (same_address a (address_at S name addr len))) S.addresses)
edited S (edits.SetNeighbor name addr mac) = with_neighbors S (set_neighbor (neighbor_at S name addr mac) S.neighbors)
edited S (edits.DelNeighbor name addr) = with_neighbors S (filter (λ n. not (same_neighbor n (neighbor_at S name addr 0))) S.neighbors)
edited S (edits.AddRoute prefix api specs) =
    with_routes S (set_route (record { prefix = prefix; source = source_of api; paths = paths_with S prefix api specs }) S.routes)
edited S (edits.DelRoute prefix api specs) = with_routes S (routes_without S prefix (source_of api) specs)
