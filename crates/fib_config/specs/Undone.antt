-- What taking an edit back gives.
use Rattle.std.specs.Prelude.{◌≡◌, ℕ, suc, ◌-◌, Bool, ◌&&◌, nat_le, nat_lt, List, [], ◌∷◌, length, take, slice_set, cond, if◌then◌else◌}
use Rattle.std.specs.List.{insert}
use Rattle.fib_resolve.specs.Edits.{with_interfaces, with_addresses, with_neighbors, with_routes}
use Rattle.fib_resolve.specs.declared.types.Neighbor.{Neighbor}
use Rattle.fib_resolve.specs.declared.types.Route.{Route}
use Rattle.fib_resolve.specs.declared.types.Tables.{Tables}
use Rattle.fib_config.specs.declared.undo.Undo.{Undo}
use Rattle.fib_config.specs.declared.undo.Undo.TheVariants as undos

-- the place of the first that passes, or else the length
abbrev pub place_of : {X : Type 0} → (X → Bool) → List X → ℕ
place_of test [] = 0
place_of test (x ∷ xs) = cond (test x) 0 (suc (place_of test xs))

-- the list with one item more at that place, where there is such a place and the items are fewer than there is room for
abbrev pub put_back : {X : Type 0} → ℕ → X → ℕ → List X → List X
put_back place old room xs = if nat_le place (length xs) && nat_lt (length xs) room then insert xs place old else xs

-- the tables with the part that the edit changed as it was
unfoldable pub undone : Undo → Tables → Tables
undone (undos.Interfaces old) S = with_interfaces S old
undone (undos.Addresses old) S = with_addresses S old
undone (undos.Neighbors old) S = with_neighbors S old
undone undos.NeighborAdded S = with_neighbors S (take (length S.neighbors - 1) S.neighbors)
undone (undos.NeighborSet place old) S = with_neighbors S (slice_set S.neighbors place old)
undone (undos.NeighborGone place old spare key) S = with_neighbors S (put_back place old spare S.neighbors)
undone (undos.Routes old) S = with_routes S old
undone undos.RouteAdded S = with_routes S (take (length S.routes - 1) S.routes)
undone (undos.RouteSet place old) S = with_routes S (slice_set S.routes place old)
undone (undos.RouteGone place old spare key) S = with_routes S (put_back place old spare S.routes)

-- the tables with several edits taken back, the last one first
unfoldable pub undone_all : List Undo → Tables → Tables
undone_all [] S = S
undone_all (u ∷ us) S = undone u (undone_all us S)

-- taking it back from these routes gives those
abbrev pub IsBackOf : Undo → List Route → List Route → Type 0
IsBackOf (undos.RouteSet place old) new routes = slice_set new place old ≡ routes
IsBackOf undos.RouteAdded new routes = take (length new - 1) new ≡ routes
IsBackOf (undos.Routes old) new routes = old ≡ routes
IsBackOf (undos.RouteGone place old spare key) new routes = put_back place old spare new ≡ routes
IsBackOf (undos.Interfaces old) new routes = ⊥
IsBackOf (undos.Addresses old) new routes = ⊥
IsBackOf (undos.Neighbors old) new routes = ⊥
IsBackOf undos.NeighborAdded new routes = ⊥
IsBackOf (undos.NeighborSet place old) new routes = ⊥
IsBackOf (undos.NeighborGone place old spare key) new routes = ⊥

-- the same of neighbors
abbrev pub IsNeighborBackOf : Undo → List Neighbor → List Neighbor → Type 0
IsNeighborBackOf (undos.NeighborSet place old) new neighbors = slice_set new place old ≡ neighbors
IsNeighborBackOf undos.NeighborAdded new neighbors = take (length new - 1) new ≡ neighbors
IsNeighborBackOf (undos.Neighbors old) new neighbors = old ≡ neighbors
IsNeighborBackOf (undos.NeighborGone place old spare key) new neighbors = put_back place old spare new ≡ neighbors
IsNeighborBackOf (undos.Interfaces old) new neighbors = ⊥
IsNeighborBackOf (undos.Addresses old) new neighbors = ⊥
IsNeighborBackOf (undos.Routes old) new neighbors = ⊥
IsNeighborBackOf undos.RouteAdded new neighbors = ⊥
IsNeighborBackOf (undos.RouteSet place old) new neighbors = ⊥
IsNeighborBackOf (undos.RouteGone place old spare key) new neighbors = ⊥
