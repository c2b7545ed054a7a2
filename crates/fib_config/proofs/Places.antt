-- A route put in its place, and taken back.
use Rattle.std.proofs.Common.{arith, ◌≡◌, Bool, ℕ, zero, suc, ◌-◌, ◌≤◌, ◌<◌, List, [], ◌∷◌, ◌++◌, length, take, inl, inr, refl, sym, ap, ◌∙◌, true, false}
use Rattle.std.specs.Prelude.{Some, None, find, option_map, slice_set, slice_index_or, nat_lt}
use Rattle.std.specs.List.{list_any, insert, remove}
use Rattle.std.proofs.lemmas.Bool.{lt-ltb, le-ltb, le-leb}
use Rattle.fib_addr.specs.Prefixes.{Prefix}
use Rattle.fib_resolve.specs.declared.types.FibSource.{FibSource}
use Rattle.fib_base_list.proofs.Lists.{either}
use Rattle.fib_resolve.specs.Tables.{is_route, same_neighbor}
use Rattle.fib_resolve.specs.Edits.{set_route, set_neighbor, paths_at}
use Rattle.fib_resolve.specs.Resolution.{mac_of}
use Rattle.fib_resolve.specs.declared.types.Neighbor.{Neighbor}
use Rattle.fib_resolve.specs.declared.types.Route.{Route}
use Rattle.fib_resolve.specs.declared.types.Tables.{Tables}
use Rattle.fib_resolve.specs.Edits.{with_neighbors, with_routes}
use Rattle.std.proofs.lemmas.List.{length-append}
use Rattle.std.proofs.lemmas.List.Edits.{length-remove}
use Rattle.std.proofs.Math.Seq.{take-append_seam}
use Rattle.fib_config.specs.declared.undo.Undo.{Undo}
use Rattle.fib_config.specs.declared.undo.Undo.TheVariants as undos
use Rattle.fib_config.specs.Undone.{place_of, put_back, undone, IsBackOf, IsNeighborBackOf}
use Rattle.fib_config.specs.inner.Digest.{is_neighbor}

pub route_set : (new : Route) (rs : List Route) → place_of (is_route new.prefix new.source) rs < length rs → slice_set rs (place_of (is_route new.prefix new.source) rs) new ≡ set_route new rs
route_set new [] l = absurd (omega (arith, l))
route_set new (r ∷ rs) l =
    elim (either (is_route new.prefix new.source r)) [
      | inl is ↦ rw is refl
      | inr isnt ↦ rw isnt (ap (λ (xs : List Route). r ∷ xs) (route_set new rs (omega (arith, (rw isnt at l)))))
    ]

pub route_end : (new : Route) (rs : List Route) → length rs ≤ place_of (is_route new.prefix new.source) rs → rs ++ new ∷ [] ≡ set_route new rs
route_end new [] l = refl
route_end new (r ∷ rs) l =
    elim (either (is_route new.prefix new.source r)) [
      | inl is ↦ absurd (let k = rw is at l in omega (arith, k))
      | inr isnt ↦ rw isnt (ap (λ (xs : List Route). r ∷ xs) (route_end new rs (omega (arith, (rw isnt at l)))))
    ]

-- the paths at the place are those of the route
pub paths_there : (prefix : Prefix) (source : FibSource) (rs : List Route) (r : Route) → place_of (is_route prefix source) rs < length rs → r ≡ slice_index_or rs (place_of (is_route prefix source) rs) r
    → r.paths ≡ paths_at prefix source rs
paths_there prefix source [] r l e = absurd (omega (arith, l))
paths_there prefix source (q ∷ rs) r l e =
    elim (either (is_route prefix source q)) [
      | inl is ↦ rw is (ap (λ (x : Route). x.paths) (rw is at e))
      | inr isnt ↦ rw isnt (paths_there prefix source rs r (omega (arith, (rw isnt at l))) (rw isnt at e))
    ]

pub paths_nowhere : (prefix : Prefix) (source : FibSource) (rs : List Route) → length rs ≤ place_of (is_route prefix source) rs → [] ≡ paths_at prefix source rs
paths_nowhere prefix source [] l = refl
paths_nowhere prefix source (q ∷ rs) l =
    elim (either (is_route prefix source q)) [
      | inl is ↦ absurd (let k = rw is at l in omega (arith, k))
      | inr isnt ↦ rw isnt (paths_nowhere prefix source rs (omega (arith, (rw isnt at l))))
    ]

-- the MAC at the place is that of the neighbor
pub mac_there : (S : Tables) (interface addr : ℕ) (n : Neighbor) → place_of (is_neighbor interface addr) S.neighbors < length S.neighbors
    → n ≡ slice_index_or S.neighbors (place_of (is_neighbor interface addr) S.neighbors) n → Some n.mac ≡ mac_of S interface addr
mac_there S interface addr n l e = ap (option_map (λ m. m.mac)) (by S.neighbors l e)
  where
    by : (ns : List Neighbor) → place_of (is_neighbor interface addr) ns < length ns → n ≡ slice_index_or ns (place_of (is_neighbor interface addr) ns) n
        → Some n ≡ find (is_neighbor interface addr) ns
    by [] l e = absurd (omega (arith, l))
    by (m ∷ ms) l e =
        elim (either (is_neighbor interface addr m)) [
          | inl is ↦ rw is (ap Some (rw is at e))
          | inr isnt ↦ rw isnt (by ms (omega (arith, (rw isnt at l))) (rw isnt at e))
        ]

pub mac_nowhere : (S : Tables) (interface addr : ℕ) → length S.neighbors ≤ place_of (is_neighbor interface addr) S.neighbors → None ≡ mac_of S interface addr
mac_nowhere S interface addr l = ap (option_map (λ m. m.mac)) (by S.neighbors l)
  where
    by : (ns : List Neighbor) → length ns ≤ place_of (is_neighbor interface addr) ns → None ≡ find (is_neighbor interface addr) ns
    by [] l = refl
    by (m ∷ ms) l =
        elim (either (is_neighbor interface addr m)) [
          | inl is ↦ absurd (let k = rw is at l in omega (arith, k))
          | inr isnt ↦ rw isnt (by ms (omega (arith, (rw isnt at l))))
        ]

-- there is one exactly where its place is within the list
within : {X : Type 0} (is : X → Bool) (xs : List X) → list_any is xs ≡ true → place_of is xs < length xs
within is [] some = absurd (cc)
within is (x ∷ xs) some =
    elim (either (is x)) [ inl here ↦ rw here (omega arith) | inr later ↦ rw later (let less = within is xs (rw later at some) in omega (arith, less)) ]

beyond : {X : Type 0} (is : X → Bool) (xs : List X) → list_any is xs ≡ false → length xs ≤ place_of is xs
beyond is [] none = omega arith
beyond is (x ∷ xs) none =
    elim (either (is x)) [ inl here ↦ absurd (let bad = rw here at none in cc) | inr later ↦ rw later (let more = beyond is xs (rw later at none) in omega (arith, more)) ]

there : {X : Type 0} (is : X → Bool) (xs : List X) → nat_lt (place_of is xs) (length xs) ≡ list_any is xs
there is xs =
    elim (either (list_any is xs)) [
      | inl some ↦ lt-ltb (place_of is xs) (length xs) (within is xs some) ∙ sym some
      | inr none ↦ le-ltb (place_of is xs) (length xs) (beyond is xs none) ∙ sym none
    ]

pub route_there : (prefix : Prefix) (source : FibSource) (rs : List Route) → nat_lt (place_of (is_route prefix source) rs) (length rs) ≡ list_any (is_route prefix source) rs
route_there prefix source rs = there (is_route prefix source) rs

pub neighbor_there : (interface addr : ℕ) (ns : List Neighbor) → nat_lt (place_of (is_neighbor interface addr) ns) (length ns)
    ≡ list_any (λ m. same_neighbor m (record { interface = interface; addr = addr; mac = 0 })) ns
neighbor_there interface addr ns = there (is_neighbor interface addr) ns

pub neighbor_set : (new : Neighbor) (ns : List Neighbor) → place_of (is_neighbor new.interface new.addr) ns < length ns
    → slice_set ns (place_of (is_neighbor new.interface new.addr) ns) new ≡ set_neighbor new ns
neighbor_set new [] l = absurd (omega (arith, l))
neighbor_set new (n ∷ ns) l =
    elim (either (is_neighbor new.interface new.addr n)) [
      | inl is ↦ rw is refl
      | inr isnt ↦ rw isnt (ap (λ (xs : List Neighbor). n ∷ xs) (neighbor_set new ns (omega (arith, (rw isnt at l)))))
    ]

pub neighbor_end : (new : Neighbor) (ns : List Neighbor) → length ns ≤ place_of (is_neighbor new.interface new.addr) ns → ns ++ new ∷ [] ≡ set_neighbor new ns
neighbor_end new [] l = refl
neighbor_end new (n ∷ ns) l =
    elim (either (is_neighbor new.interface new.addr n)) [
      | inl is ↦ absurd (let k = rw is at l in omega (arith, k))
      | inr isnt ↦ rw isnt (ap (λ (xs : List Neighbor). n ∷ xs) (neighbor_end new ns (omega (arith, (rw isnt at l)))))
    ]

-- what stood at the place stands there again
pub set_back : {X : Type 0} (xs : List X) (i : ℕ) (x old : X) → i < length xs → old ≡ slice_index_or xs i old → slice_set (slice_set xs i x) i old ≡ xs
set_back [] i x old l e = absurd (omega (arith, l))
set_back (y ∷ ys) zero x old l e = ap (λ z. z ∷ ys) e
set_back {X} (y ∷ ys) (suc i) x old l e = ap (λ (zs : List X). y ∷ zs) (set_back ys i x old (omega (arith, l)) e)

pub end_back : {X : Type 0} (xs : List X) (x : X) → take (length (xs ++ x ∷ []) - 1) (xs ++ x ∷ []) ≡ xs
end_back xs x =
    let e : length (xs ++ x ∷ []) - 1 ≡ length xs = omega (arith, length-append xs (x ∷ [])) in
    rw e (take-append_seam xs (x ∷ []))

-- what went from the place stands there again
there_again : {X : Type 0} (xs : List X) (i : ℕ) (old : X) → i < length xs → old ≡ slice_index_or xs i old → insert (remove xs i) i old ≡ xs
there_again [] i old l e = absurd (omega (arith, l))
there_again (x ∷ xs) zero old l e = ap (λ z. z ∷ xs) e
there_again {X} (x ∷ xs) (suc i) old l e = ap (λ (zs : List X). x ∷ zs) (there_again xs i old (omega (arith, l)) e)

-- and there is room for it where there is room for all that there were
pub gone_back : {X : Type 0} (rs : List X) (i room : ℕ) (old : X) → i < length rs → old ≡ slice_index_or rs i old → room ≡ length rs → put_back i old room (remove rs i) ≡ rs
gone_back rs i room old l e is =
    let less = length-remove rs i l in
    rw (le-leb i (length (remove rs i)) (omega (arith, l, less)), lt-ltb (length (remove rs i)) room (omega (arith, less, is))) (there_again rs i old l e)

-- routes taken back in the tables
pub back_undone : (u : Undo) (S : Tables) (new : List Route) → IsBackOf u new S.routes → undone u (with_routes S new) ≡ S
unfolding undone
back_undone (undos.Interfaces old) S new h = absurd h
back_undone (undos.Addresses old) S new h = absurd h
back_undone (undos.Neighbors old) S new h = absurd h
back_undone undos.NeighborAdded S new h = absurd h
back_undone (undos.NeighborSet place old) S new h = absurd h
back_undone (undos.NeighborGone place old spare key) S new h = absurd h
back_undone (undos.Routes old) S new h = ap (with_routes S) h
back_undone undos.RouteAdded S new h = ap (with_routes S) h
back_undone (undos.RouteSet place old) S new h = ap (with_routes S) h
back_undone (undos.RouteGone place old spare key) S new h = ap (with_routes S) h

-- neighbors taken back in the tables
pub neighbor_back_undone : (u : Undo) (S : Tables) (new : List Neighbor) → IsNeighborBackOf u new S.neighbors → undone u (with_neighbors S new) ≡ S
unfolding undone
neighbor_back_undone (undos.Interfaces old) S new h = absurd h
neighbor_back_undone (undos.Addresses old) S new h = absurd h
neighbor_back_undone (undos.Neighbors old) S new h = ap (with_neighbors S) h
neighbor_back_undone undos.NeighborAdded S new h = ap (with_neighbors S) h
neighbor_back_undone (undos.NeighborSet place old) S new h = ap (with_neighbors S) h
neighbor_back_undone (undos.NeighborGone place old spare key) S new h = ap (with_neighbors S) h
neighbor_back_undone (undos.Routes old) S new h = absurd h
neighbor_back_undone undos.RouteAdded S new h = absurd h
neighbor_back_undone (undos.RouteSet place old) S new h = absurd h
neighbor_back_undone (undos.RouteGone place old spare key) S new h = absurd h
