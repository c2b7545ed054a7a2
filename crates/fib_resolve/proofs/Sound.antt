-- Edits that aren't refused keep tables well formed.
use Rattle.std.proofs.Common.{arith, ◌≡◌, ℕ, ◌≤◌, ◌<◌, Bool, true, false, not, cond, ◌&&◌, zero, suc, List, [], ◌∷◌, ◌++◌, map, length, None, ◌⊎◌, inl, inr, refl, sym, ◌∙◌, ap, subst, length-append}
use Rattle.std.specs.Prelude.{All, Contains, filter, nat_lt, nat_le}
use Rattle.std.specs.List.{AllByRecursion, IsDistinct, list_any}
use Rattle.std.specs.Cmp.{IsEquivalence}
use Rattle.std.proofs.lemmas.Bool.{false≢true, leb-false, ltb-true, ltb-false, lt-ltb}
use Rattle.std.proofs.lemmas.Bool.Decides.{nat_tests}
use Rattle.std.proofs.lemmas.Cmp.{nat_eq_equiv, on_equiv, and_equiv}
use Rattle.std.proofs.lemmas.List.{length-map}
use Rattle.std.proofs.lemmas.List.Elements.{Contains-append_cases, All-contains, All-from_recursion, recursion_from_All, All-contains_itself}
use Rattle.std.proofs.lemmas.List.Quantifiers.{position-Some}
use Rattle.std.proofs.lemmas.List.Sums.{length-filter, count_by-le-length}
use Rattle.fib_base_list.proofs.Lists.{either, each-weaker, each-filter, each-append}
use Rattle.fib_addr.specs.Prefixes.{Prefix}
use Rattle.fib_addr.proofs.PrefixLaws.{same_prefix_equiv}
use Rattle.fib_resolve.specs.Keys.{is_drop_or_local, source_rank}
use Rattle.fib_resolve.specs.Tables.{fresh, has_name, interface_named, same_name, same_address, same_neighbor, is_route, same_route, connects_elsewhere, is_mixed, IsInRange, NeedsLittle, IsSoundPath, IsSoundList, IsSoundRoute, IsSoundAddress, IsSound}
use Rattle.fib_resolve.specs.Edits.{edited, number_of, with_state, set_neighbor, kind_of, path_of, source_of, paths_at, set_route, without_route, lacks_key, without_paths, route_left, paths_with, address_at, neighbor_at, with_addresses, with_neighbors, with_routes}
use Rattle.fib_resolve.specs.Refusals.{when, first_reason, reasons, refused, unknown, names_unknown, some_unknown, has_address, connected_elsewhere}
use Rattle.fib_resolve.specs.Reachable.{IsWritten, IsWrittenPath, WritesNeed, NoneRefused, IsReachable, edited_all, most_objects}
use Rattle.fib_resolve.specs.declared.types.Interface.{Interface}
use Rattle.fib_resolve.specs.declared.types.Address.{Address}
use Rattle.fib_resolve.specs.declared.types.Neighbor.{Neighbor}
use Rattle.fib_resolve.specs.declared.types.Path.{Path}
use Rattle.fib_resolve.specs.declared.types.PathKind.{PathKind}
use Rattle.fib_resolve.specs.declared.types.PathKind.TheVariants as kinds
use Rattle.fib_resolve.specs.declared.types.PathSpec.{PathSpec}
use Rattle.fib_resolve.specs.declared.types.SpecKind.{SpecKind}
use Rattle.fib_resolve.specs.declared.types.SpecKind.TheVariants as written
use Rattle.fib_resolve.specs.declared.types.Need.{Need}
use Rattle.fib_resolve.specs.declared.types.FibSource.{FibSource}
use Rattle.fib_resolve.specs.declared.types.FibSource.TheVariants as sources
use Rattle.fib_resolve.specs.declared.types.Route.{Route}
use Rattle.fib_resolve.specs.declared.types.Refusal.TheVariants as refusals
use Rattle.fib_resolve.specs.declared.types.Tables.{Tables}
use Rattle.fib_resolve.specs.declared.types.Edit.{Edit}
use Rattle.fib_resolve.specs.declared.types.Edit.TheVariants as edits
use Rattle.fib_base_list.proofs.Booleans.{or_cases, and_both, or_right}
use Rattle.fib_resolve.proofs.Apart.{put, each-fails, apart-push, apart-filter, apart-map, each-put, apart-put, each-without_place, some_place}
use Rattle.fib_resolve.proofs.KeyOrder.{each-set_paths, sorted-set_paths, sorted-filter, length-set_paths}
use Rattle.fib_resolve.proofs.Refused.{none_own, first_none}

each-kept : {X : Type 0} (P : X → Type 0) (test : X → Bool) (xs : List X) → AllByRecursion P xs → AllByRecursion P (filter test xs)
each-kept P test xs h = each-weaker (λ x. P x × (test x ≡ true)) P (λ x k. k.0) (filter test xs) (each-filter P test xs h)

Contains-kept : {X : Type 0} (test : X → Bool) (xs : List X) (x : X) → Contains (filter test xs) x → Contains xs x
Contains-kept test xs x h =
    All-contains (Contains xs) (filter test xs) x (All-from_recursion (Contains xs) (filter test xs) (each-kept (Contains xs) test xs (recursion_from_All (Contains xs) xs (All-contains_itself xs)))) h

-- tables in which the number of interfaces only grows
path_grows : (m n : ℕ) → m ≤ n → (kind : PathKind) → IsInRange m kind → IsInRange n kind
path_grows m n le (kinds.Attached i) h = omega (arith, le, h)
path_grows m n le (kinds.Hop a i) h = omega (arith, le, h)
path_grows m n le kinds.Drop h = tt
path_grows m n le kinds.Local h = tt
path_grows m n le (kinds.Recursive a) h = tt
path_grows m n le kinds.Cover h = tt

list_grows : (m n : ℕ) → m ≤ n → (ps : List Path) → IsSoundList m ps → IsSoundList n ps
list_grows m n le ps h = record {
  few = h.few;
  sorted = h.sorted;
  unmixed = h.unmixed;
  each = each-weaker (IsSoundPath m) (IsSoundPath n) (λ p k. record { weighted = k.weighted; in_range = path_grows m n le p.kind k.in_range; written = k.written; needs_little = k.needs_little }) ps h.each;
}

routes_grow : (m n : ℕ) → m ≤ n → (rs : List Route) → AllByRecursion (IsSoundRoute m) rs → AllByRecursion (IsSoundRoute n) rs
routes_grow m n le = each-weaker (IsSoundRoute m) (IsSoundRoute n) (λ r k. record { written = k.written; some = k.some; list = list_grows m n le r.paths k.list })

addresses_grow : (m n : ℕ) → m ≤ n → (xs : List Address) → AllByRecursion (IsSoundAddress m) xs → AllByRecursion (IsSoundAddress n) xs
addresses_grow m n le = each-weaker (IsSoundAddress m) (IsSoundAddress n) (λ a k. record { short = k.short; in_range = omega (arith, k.in_range, le) })

neighbors_grow : (m n : ℕ) → m ≤ n → (xs : List Neighbor) → AllByRecursion (λ x. x.interface < m) xs → AllByRecursion (λ x. x.interface < n) xs
neighbors_grow m n le = each-weaker (λ x. x.interface < m) (λ x. x.interface < n) (λ x k. omega (arith, k, le))

grown : (S T : Tables) → IsSound S → length S.interfaces ≤ length T.interfaces → length T.interfaces ≤ 256 → IsDistinct same_name T.interfaces → T.addresses ≡ S.addresses → T.neighbors ≡ S.neighbors → T.routes ≡ S.routes → IsSound T
grown S T h le few apart a b c = record {
  few_interfaces = few;
  names_apart = apart;
  addresses = rw a (addresses_grow (length S.interfaces) (length T.interfaces) le S.addresses h.addresses);
  addresses_apart = rw a h.addresses_apart;
  connected_once = rw a h.connected_once;
  neighbors = rw b (neighbors_grow (length S.interfaces) (length T.interfaces) le S.neighbors h.neighbors);
  neighbors_apart = rw b h.neighbors_apart;
  routes = rw c (routes_grow (length S.interfaces) (length T.interfaces) le S.routes h.routes);
  routes_apart = rw c h.routes_apart;
}

-- a name that is there
known : (S : Tables) (name : List ℕ) → unknown S name ≡ false → number_of S name < length S.interfaces
known S name h =
    let place = some_place (interface_named S name) h in
    rw place.1 (position-Some (has_name name) S.interfaces place.0 (record { name = []; up = false }) place.1).0

sound_create : (S : Tables) (name : List ℕ) → IsSound S → unknown S name ≡ true → nat_le 256 (length S.interfaces) ≡ false → IsSound (edited S (edits.CreateInterface name))
unfolding edited
sound_create S name h new few =
    grown S _ h (omega (arith, length-append S.interfaces (record { name = name; up = false } ∷ [])))
    (omega (arith, length-append S.interfaces (record { name = name; up = false } ∷ []), leb-false 256 (length S.interfaces) few))
    (apart-push same_name S.interfaces (record { name = name; up = false }) h.names_apart (each-without_place (has_name name) S.interfaces new)) refl refl refl

state_name : (name : List ℕ) (up : Bool) (i : Interface) → (with_state name up i).name ≡ i.name
state_name name up i = elim (either (has_name name i)) [ inl is ↦ rw is refl | inr isnt ↦ rw isnt refl ]

sound_state : (S : Tables) (name : List ℕ) (up : Bool) → IsSound S → IsSound (edited S (edits.SetState name up))
unfolding edited
sound_state S name up h =
    let same : length (map (with_state name up) S.interfaces) ≡ length S.interfaces = length-map S.interfaces (with_state name up) in
    grown S _ h (omega (arith, same)) (omega (arith, same, h.few_interfaces))
    (apart-map same_name (with_state name up) (λ x y. rw (state_name name up x, state_name name up y) refl) S.interfaces h.names_apart) refl refl refl

addresses_sound : (S : Tables) (xs : List Address) → IsSound S → AllByRecursion (IsSoundAddress (length S.interfaces)) xs → IsDistinct same_address xs → ((a b : Address) → Contains xs a → Contains xs b → connects_elsewhere a b ≡ false) → IsSound (with_addresses S xs)
addresses_sound S xs h each apart once = record {
  few_interfaces = h.few_interfaces;
  names_apart = h.names_apart;
  addresses = each;
  addresses_apart = apart;
  connected_once = once;
  neighbors = h.neighbors;
  neighbors_apart = h.neighbors_apart;
  routes = h.routes;
  routes_apart = h.routes_apart;
}

neighbors_sound : (S : Tables) (xs : List Neighbor) → IsSound S → AllByRecursion (λ x. x.interface < length S.interfaces) xs → IsDistinct same_neighbor xs → IsSound (with_neighbors S xs)
neighbors_sound S xs h each apart = record {
  few_interfaces = h.few_interfaces;
  names_apart = h.names_apart;
  addresses = h.addresses;
  addresses_apart = h.addresses_apart;
  connected_once = h.connected_once;
  neighbors = each;
  neighbors_apart = apart;
  routes = h.routes;
  routes_apart = h.routes_apart;
}

routes_sound : (S : Tables) (xs : List Route) → IsSound S → AllByRecursion (IsSoundRoute (length S.interfaces)) xs → IsDistinct same_route xs → IsSound (with_routes S xs)
routes_sound S xs h each apart = record {
  few_interfaces = h.few_interfaces;
  names_apart = h.names_apart;
  addresses = h.addresses;
  addresses_apart = h.addresses_apart;
  connected_once = h.connected_once;
  neighbors = h.neighbors;
  neighbors_apart = h.neighbors_apart;
  routes = each;
  routes_apart = apart;
}

-- one prefix, two interfaces, either way round
connects_back : (a b : Address) → connects_elsewhere a b ≡ true → connects_elsewhere b a ≡ true
connects_back a b h = grind (arith, nat_tests)

itself : (a : Address) → connects_elsewhere a a ≡ false
itself a = grind (arith, nat_tests)

short_back : (a b : Address) → connects_elsewhere a b ≡ true → nat_lt a.len 32 ≡ true
short_back a b h = grind (arith, nat_tests)

not_elsewhere : (S : Tables) (new a : Address) → connected_elsewhere S new ≡ false → Contains S.addresses a → connects_elsewhere new a ≡ false
not_elsewhere S new a h c =
    elim (either (connects_elsewhere new a)) [
      | inl is ↦ (let fails : nat_lt new.len 32 && list_any (connects_elsewhere new) S.addresses ≡ false = h in
          let none : AllByRecursion (λ b. connects_elsewhere new b ≡ false) S.addresses = each-fails (connects_elsewhere new) S.addresses (rw (short_back new a is) at fails) in
          All-contains (λ b. connects_elsewhere new b ≡ false) S.addresses a (All-from_recursion (λ b. connects_elsewhere new b ≡ false) S.addresses none) c)
      | inr isnt ↦ isnt
    ]

other_way : (a b : Address) → connects_elsewhere a b ≡ false → connects_elsewhere b a ≡ false
other_way a b h =
    elim (either (connects_elsewhere b a)) [ inl is ↦ absurd (false≢true (sym h ∙ connects_back b a is)) | inr isnt ↦ isnt ]

only_one : {X : Type 0} (x y : X) → Contains (x ∷ []) y → x ≡ y
only_one x y (zero, lt, is) = is
only_one x y (suc k, lt, is) = absurd (omega (arith, lt))

once_more : (S : Tables) (new : Address) → IsSound S → connected_elsewhere S new ≡ false → (a b : Address) → Contains (S.addresses ++ new ∷ []) a → Contains (S.addresses ++ new ∷ []) b → connects_elsewhere a b ≡ false
once_more S new h none a b c d =
    elim (Contains-append_cases S.addresses (new ∷ []) a c) [
      | inl old_a ↦ elim (Contains-append_cases S.addresses (new ∷ []) b d) [
        | inl old_b ↦ h.connected_once a b old_a old_b
        | inr new_b ↦ rw (← only_one new b new_b) (other_way new a (not_elsewhere S new a none old_a))
      ]
      | inr new_a ↦ elim (Contains-append_cases S.addresses (new ∷ []) b d) [
        | inl old_b ↦ rw (← only_one new a new_a) (not_elsewhere S new b none old_b)
        | inr new_b ↦ rw (← only_one new a new_a, ← only_one new b new_b) (itself new)
      ]
    ]

sound_address : (S : Tables) (name : List ℕ) (addr len : ℕ) → IsSound S → len ≤ 32 → unknown S name ≡ false → has_address S (address_at S name addr len) ≡ false → connected_elsewhere S (address_at S name addr len) ≡ false → IsSound (edited S (edits.AddAddress name addr len))
unfolding edited
sound_address S name addr len h short there new once =
    let a = address_at S name addr len in
    addresses_sound S (S.addresses ++ a ∷ []) h
    (each-append (IsSoundAddress (length S.interfaces)) S.addresses (a ∷ []) h.addresses (record { short = short; in_range = known S name there }, tt))
    (apart-push same_address S.addresses a h.addresses_apart (each-fails (λ b. same_address b a) S.addresses new))
    (once_more S a h once)

sound_no_address : (S : Tables) (name : List ℕ) (addr len : ℕ) → IsSound S → IsSound (edited S (edits.DelAddress name addr len))
unfolding edited
sound_no_address S name addr len h =
    let test : Address → Bool = λ a. not (same_address a (address_at S name addr len)) in
    addresses_sound S (filter test S.addresses) h (each-kept (IsSoundAddress (length S.interfaces)) test S.addresses h.addresses) (apart-filter same_address test S.addresses h.addresses_apart)
    (λ a b c d. h.connected_once a b (Contains-kept test S.addresses a c) (Contains-kept test S.addresses b d))

same_neighbor_equiv : IsEquivalence same_neighbor
same_neighbor_equiv = and_equiv (on_equiv (λ (n : Neighbor). n.interface) nat_eq_equiv) (on_equiv (λ (n : Neighbor). n.addr) nat_eq_equiv)

set_neighbor-put : (n : Neighbor) (ms : List Neighbor) → set_neighbor n ms ≡ put (λ m. same_neighbor m n) n ms
set_neighbor-put n [] = refl
set_neighbor-put n (m ∷ ms) = ap (λ (xs : List Neighbor). cond (same_neighbor m n) (n ∷ ms) (m ∷ xs)) (set_neighbor-put n ms)

sound_neighbor : (S : Tables) (name : List ℕ) (addr mac : ℕ) → IsSound S → unknown S name ≡ false → IsSound (edited S (edits.SetNeighbor name addr mac))
unfolding edited
sound_neighbor S name addr mac h there =
    let n = neighbor_at S name addr mac in
    rw (set_neighbor-put n S.neighbors)
    (neighbors_sound S (put (λ m. same_neighbor m n) n S.neighbors) h
    (each-put (λ x. x.interface < length S.interfaces) (λ m. same_neighbor m n) n S.neighbors (known S name there) h.neighbors)
    (apart-put same_neighbor same_neighbor_equiv (λ m. same_neighbor m n) n (λ x. refl) S.neighbors h.neighbors_apart))

sound_no_neighbor : (S : Tables) (name : List ℕ) (addr : ℕ) → IsSound S → IsSound (edited S (edits.DelNeighbor name addr))
unfolding edited
sound_no_neighbor S name addr h =
    let test : Neighbor → Bool = λ n. not (same_neighbor n (neighbor_at S name addr 0)) in
    neighbors_sound S (filter test S.neighbors) h (each-kept (λ x. x.interface < length S.interfaces) test S.neighbors h.neighbors) (apart-filter same_neighbor test S.neighbors h.neighbors_apart)

same_route_equiv : IsEquivalence same_route
same_route_equiv = and_equiv (on_equiv (λ (r : Route). r.prefix) same_prefix_equiv) (on_equiv (λ (r : Route). source_rank r.source) nat_eq_equiv)

set_route-put : (new : Route) (rs : List Route) → set_route new rs ≡ put (is_route new.prefix new.source) new rs
set_route-put new [] = refl
set_route-put new (r ∷ rs) = ap (λ (xs : List Route). cond (is_route new.prefix new.source r) (new ∷ rs) (r ∷ xs)) (set_route-put new rs)

sound_set : (S : Tables) (new : Route) → IsSound S → IsSoundRoute (length S.interfaces) new → IsSound (with_routes S (set_route new S.routes))
sound_set S new h good =
    let test = is_route new.prefix new.source in
    rw (set_route-put new S.routes)
    (routes_sound S (put test new S.routes) h
    (each-put (IsSoundRoute (length S.interfaces)) test new S.routes good h.routes)
    (apart-put same_route same_route_equiv test new (λ x. refl) S.routes h.routes_apart))

sound_without : (S : Tables) (prefix : Prefix) (source : FibSource) → IsSound S → IsSound (with_routes S (without_route prefix source S.routes))
sound_without S prefix source h =
    let test : Route → Bool = λ r. not (is_route prefix source r) in
    routes_sound S (filter test S.routes) h (each-kept (IsSoundRoute (length S.interfaces)) test S.routes h.routes) (apart-filter same_route test S.routes h.routes_apart)

sound_none : (n : ℕ) → IsSoundList n []
sound_none n = record { few = omega arith; sorted = tt; unmixed = refl; each = tt }

-- the list of a prefix and source, or none
sound_at : (n : ℕ) (prefix : Prefix) (source : FibSource) (rs : List Route) → AllByRecursion (IsSoundRoute n) rs → IsSoundList n (paths_at prefix source rs)
sound_at n prefix source [] h = sound_none n
sound_at n prefix source (r ∷ rs) h =
    elim (either (is_route prefix source r)) [ inl is ↦ rw is h.0.list | inr isnt ↦ rw isnt (sound_at n prefix source rs h.1) ]

kind_in_range : (S : Tables) (kind : SpecKind) → names_unknown S kind ≡ false → IsInRange (length S.interfaces) (kind_of S kind)
kind_in_range S written.Drop h = tt
kind_in_range S written.Local h = tt
kind_in_range S (written.Attached name) h = known S name h
kind_in_range S (written.Hop a name) h = known S name h
kind_in_range S (written.Recursive a) h = tt

kind_written : (S : Tables) (kind : SpecKind) → kind_of S kind ≡ kinds.Cover → ⊥
kind_written S written.Drop h = cc
kind_written S written.Local h = cc
kind_written S (written.Attached name) h = cc
kind_written S (written.Hop a name) h = cc
kind_written S (written.Recursive a) h = cc

kind_needs : (S : Tables) (need : Need) (kind : SpecKind) → WritesNeed need kind → NeedsLittle need (kind_of S kind)
kind_needs S need written.Drop h = h
kind_needs S need written.Local h = h
kind_needs S need (written.Attached name) h = h
kind_needs S need (written.Hop a name) h = h
kind_needs S need (written.Recursive a) h = tt

sound_specs : (S : Tables) (specs : List PathSpec) → AllByRecursion IsWrittenPath specs → AllByRecursion (λ spec. names_unknown S spec.kind ≡ false) specs → AllByRecursion (IsSoundPath (length S.interfaces)) (map (path_of S) specs)
sound_specs S [] h k = tt
sound_specs S (spec ∷ specs) h k =
    (record { weighted = h.0.weighted; in_range = kind_in_range S spec.kind k.0; written = kind_written S spec.kind; needs_little = kind_needs S spec.need spec.kind h.0.need }, sound_specs S specs h.1 k.1)

source_written : (api : Bool) → (source_of api ≡ sources.Api) ⊎ (source_of api ≡ sources.Cli)
source_written true = inl refl
source_written false = inr refl

map-length : (S : Tables) (specs : List PathSpec) → length (map (path_of S) specs) ≡ length specs
map-length S [] = refl
map-length S (spec ∷ specs) = ap suc (map-length S specs)

sound_add : (S : Tables) (prefix : Prefix) (api : Bool) (specs : List PathSpec) → IsSound S → 0 < length specs → AllByRecursion IsWrittenPath specs → some_unknown S specs ≡ false → is_mixed (paths_with S prefix api specs) ≡ false → nat_lt 16 (length (paths_with S prefix api specs)) ≡ false → IsSound (edited S (edits.AddRoute prefix api specs))
unfolding edited
sound_add S prefix api specs h some good there unmixed few =
    let n = length S.interfaces in
    let old = sound_at n prefix (source_of api) S.routes h.routes in
    let new = map (path_of S) specs in
    sound_set S (record { prefix = prefix; source = source_of api; paths = paths_with S prefix api specs }) h (record {
      written = source_written api;
      some = length-set_paths (paths_at prefix (source_of api) S.routes) new (omega (arith, some, map-length S specs));
      list = record {
        few = ltb-false 16 (length (paths_with S prefix api specs)) few;
        sorted = sorted-set_paths (paths_at prefix (source_of api) S.routes) new old.sorted;
        unmixed = unmixed;
        each = each-set_paths (IsSoundPath n) (paths_at prefix (source_of api) S.routes) new (sound_specs S specs good (each-fails (λ spec. names_unknown S spec.kind) specs there)) old.each;
      };
    })

fewer : (test : Path → Bool) (ps : List Path) → length (filter test ps) ≤ length ps
fewer test ps = omega (arith, length-filter test ps, count_by-le-length test ps)

abbrev is_small : Path → Bool
is_small p = is_drop_or_local p.kind

any_kept : (test : Path → Bool) (ps : List Path) → list_any is_small (filter test ps) ≡ true → list_any is_small ps ≡ true
any_kept test [] h = h
any_kept test (p ∷ ps) h =
    elim (either (test p)) [
      | inl passes ↦ elim (or_cases (is_small p) (list_any is_small (filter test ps)) (rw passes at h)) [
        | inl small ↦ rw small refl
        | inr more ↦ or_right (is_small p) _ (any_kept test ps more)
      ]
      | inr fails ↦ or_right (is_small p) _ (any_kept test ps (rw fails at h))
    ]

unmixed_kept : (test : Path → Bool) (ps : List Path) → is_mixed ps ≡ false → is_mixed (filter test ps) ≡ false
unmixed_kept test ps h =
    elim (either (is_mixed (filter test ps))) [
      | inl is ↦ (let both = and_both (nat_lt 1 (length (filter test ps))) (list_any is_small (filter test ps)) is in
          let many : nat_lt 1 (length ps) ≡ true = lt-ltb 1 (length ps) (omega (arith, ltb-true 1 (length (filter test ps)) both.0, fewer test ps)) in
          absurd (false≢true (sym h ∙ rw (many, any_kept test ps both.1) refl)))
      | inr isnt ↦ isnt
    ]

sound_kept : (n : ℕ) (test : Path → Bool) (ps : List Path) → IsSoundList n ps → IsSoundList n (filter test ps)
sound_kept n test ps h = record {
  few = omega (arith, fewer test ps, h.few);
  sorted = sorted-filter test ps h.sorted;
  unmixed = unmixed_kept test ps h.unmixed;
  each = each-kept (IsSoundPath n) test ps h.each;
}

sound_left : (S : Tables) (prefix : Prefix) (api : Bool) (ps : List Path) → IsSound S → IsSoundList (length S.interfaces) ps → IsSound (with_routes S (route_left prefix (source_of api) ps S.routes))
sound_left S prefix api [] h good = sound_without S prefix (source_of api) h
sound_left S prefix api (p ∷ ps) h good =
    sound_set S (record { prefix = prefix; source = source_of api; paths = p ∷ ps }) h (record { written = source_written api; some = omega arith; list = good })

sound_delete : (S : Tables) (prefix : Prefix) (api : Bool) (specs : List PathSpec) → IsSound S → IsSound (edited S (edits.DelRoute prefix api specs))
unfolding edited
sound_delete S prefix api [] h = sound_without S prefix (source_of api) h
sound_delete S prefix api (spec ∷ specs) h =
    let n = length S.interfaces in
    let old = sound_at n prefix (source_of api) S.routes h.routes in
    let gone = map (path_of S) (spec ∷ specs) in
    sound_left S prefix api (without_paths (paths_at prefix (source_of api) S.routes) gone) h (sound_kept n (lacks_key gone) (paths_at prefix (source_of api) S.routes) old)

not_false : (b : Bool) → not b ≡ false → b ≡ true
not_false true h = refl
not_false false h = absurd (false≢true (sym h))

own_reasons : (S : Tables) (e : Edit) → IsSound S → IsWritten e → first_reason (reasons S e) ≡ None → IsSound (edited S e)
own_reasons S (edits.CreateInterface name) h w n =
    let a = first_none (not (unknown S name)) refusals.InterfaceExists (when (nat_le 256 (length S.interfaces)) refusals.TooManyInterfaces ∷ []) n in
    let b = first_none (nat_le 256 (length S.interfaces)) refusals.TooManyInterfaces [] a.1 in
    sound_create S name h (not_false _ a.0) b.0
own_reasons S (edits.SetState name up) h w n = sound_state S name up h
own_reasons S (edits.AddAddress name addr len) h w n =
    let a = first_none (unknown S name) refusals.NoSuchInterface (when (has_address S (address_at S name addr len)) refusals.AddressThere ∷ when (connected_elsewhere S (address_at S name addr len)) refusals.ConnectedElsewhere ∷ []) n in
    let b = first_none (has_address S (address_at S name addr len)) refusals.AddressThere (when (connected_elsewhere S (address_at S name addr len)) refusals.ConnectedElsewhere ∷ []) a.1 in
    let c = first_none (connected_elsewhere S (address_at S name addr len)) refusals.ConnectedElsewhere [] b.1 in
    sound_address S name addr len h w a.0 b.0 c.0
own_reasons S (edits.DelAddress name addr len) h w n = sound_no_address S name addr len h
own_reasons S (edits.SetNeighbor name addr mac) h w n = sound_neighbor S name addr mac h (first_none (unknown S name) refusals.NoSuchInterface [] n).0
own_reasons S (edits.DelNeighbor name addr) h w n = sound_no_neighbor S name addr h
own_reasons S (edits.AddRoute prefix api specs) h w n =
    let a = first_none (some_unknown S specs) refusals.NoSuchInterface (when (is_mixed (paths_with S prefix api specs)) refusals.MixedPaths ∷ when (nat_lt 16 (length (paths_with S prefix api specs))) refusals.TooManyPaths ∷ []) n in
    let b = first_none (is_mixed (paths_with S prefix api specs)) refusals.MixedPaths (when (nat_lt 16 (length (paths_with S prefix api specs))) refusals.TooManyPaths ∷ []) a.1 in
    let c = first_none (nat_lt 16 (length (paths_with S prefix api specs))) refusals.TooManyPaths [] b.1 in
    sound_add S prefix api specs h w.0 w.1 a.0 b.0 c.0
own_reasons S (edits.DelRoute prefix api specs) h w n = sound_delete S prefix api specs h

-- an edit as written that isn't refused keeps tables well formed
pub sound_edit : (S : Tables) (room : ℕ) (e : Edit) → IsSound S → IsWritten e → refused S room e ≡ None → IsSound (edited S e)
sound_edit S room e h w n = own_reasons S e h w (none_own S room e n)

pub sound_fresh : IsSound fresh
unfolding IsDistinct
sound_fresh = record {
  few_interfaces = omega arith;
  names_apart = tt;
  addresses = tt;
  addresses_apart = tt;
  connected_once = λ a b c d. absurd (omega (arith, c.1));
  neighbors = tt;
  neighbors_apart = tt;
  routes = tt;
  routes_apart = tt;
}

sound_all : (S : Tables) (es : List Edit) → IsSound S → NoneRefused S es → IsSound (edited_all S es)
sound_all S [] h k = h
sound_all S (e ∷ es) h k = sound_all (edited S e) es (sound_edit S most_objects e h k.0 k.1) k.2

pub reachable_sound : (S : Tables) → IsReachable S → IsSound S
reachable_sound S h = subst IsSound h.2 (sound_all fresh h.0 sound_fresh h.1)

-- every address of sound tables has a length of at most 32
pub short_addresses : (S : Tables) → IsSound S → All (λ a. a.len ≤ 32) S.addresses
short_addresses S h =
    All-from_recursion (λ a. a.len ≤ 32) S.addresses (each-weaker (IsSoundAddress (length S.interfaces)) (λ a. a.len ≤ 32) (λ a k. k.short) S.addresses h.addresses)
