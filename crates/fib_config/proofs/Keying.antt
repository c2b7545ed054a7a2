-- Places found by keys.
use Rattle.std.proofs.Common.{arith, ◌≡◌, ℕ, zero, suc, ◌-◌, ◌<◌, ◌≤◌, Bool, true, false, cond, not, ◌&&◌, ◌==◌, List, [], ◌∷◌, ◌++◌, length, map, take, Option, Some, None, inl, inr, refl, sym, ◌∙◌, ap}
use Rattle.std.specs.Prelude.{position, nat_lt, filter, slice_set, slice_index_or}
use Rattle.std.specs.Cmp.{nat_eq_equiv}
use Rattle.std.specs.List.{insert, remove, position_or_len, AllByRecursion, IsDistinct}
use Rattle.std.proofs.lemmas.Bool.{ltb-false}
use Rattle.std.proofs.lemmas.List.{map-append}
use Rattle.fib_base_keyed.proofs.Keys.{map_out, map_put}
use Rattle.fib_base_list.proofs.Lists.{either}
use Rattle.fib_addr.specs.Prefixes.{Prefix, same_prefix}
use Rattle.std.proofs.lemmas.Bool.Decides.{Decides-eqb}
use Rattle.fib_base_list.proofs.Booleans.{and_both}
use Rattle.fib_addr.proofs.PrefixLaws.{same_prefix-Decides, same_prefix_equiv}
use Rattle.fib_resolve.specs.Keys.{source_rank, same_source}
use Rattle.fib_resolve.specs.Tables.{is_route, same_route, same_neighbor}
use Rattle.fib_resolve.specs.Edits.{without_route}
use Rattle.fib_resolve.specs.declared.types.Route.{Route}
use Rattle.fib_resolve.specs.declared.types.Neighbor.{Neighbor}
use Rattle.fib_resolve.specs.declared.types.FibSource.{FibSource}
use Rattle.fib_config.specs.Undone.{place_of}
use Rattle.fib_config.specs.inner.Digest.{AreKeys, Follows, route_key, neighbor_key, is_neighbor}

-- a place by a test of the keys
module _ {X K : Type 0} (key : X → K) (test : K → Bool) (is : X → Bool) (same : (x : X) → test (key x) ≡ is x) where
  pub by_keys : (xs : List X) → position_or_len test (map key xs) ≡ place_of is xs
  by_keys [] = refl
  by_keys (x ∷ xs) =
      elim (either (is x)) [
        | inl here ↦ rw (same x ∙ here, here) refl
        | inr later ↦ rw (same x ∙ later, later) (omega (arith, by_keys xs))
      ]

-- a key is the route's exactly where the route is the one that is sought
pub route_match : (p : Prefix) (s : FibSource) (n : ℕ) (r : Route) → n ≡ source_rank s → (same_prefix p r.prefix && (n == source_rank r.source)) ≡ is_route p s r
route_match p s n r is = rw (is, same_prefix_equiv.symm p r.prefix, nat_eq_equiv.symm (source_rank s) (source_rank r.source)) refl

pub neighbor_match : (i a : ℕ) (n : Neighbor) → ((i == n.interface) && (a == n.addr)) ≡ is_neighbor i a n
neighbor_match i a n = rw (nat_eq_equiv.symm i n.interface, nat_eq_equiv.symm a n.addr) refl

-- behind each that passes none does
abbrev IsOnly : {X : Type 0} → (X → Bool) → List X → Type 0
IsOnly is [] = Unit {0}
IsOnly is (x ∷ xs) = (is x ≡ true → AllByRecursion (λ y. is y ≡ false) xs) × IsOnly is xs

none_out : {X : Type 0} (is : X → Bool) (xs : List X) → AllByRecursion (λ y. is y ≡ false) xs → filter (λ x. not (is x)) xs ≡ xs
none_out is [] none = refl
none_out {X} is (x ∷ xs) none = rw none.0 (ap (λ (ys : List X). x ∷ ys) (none_out is xs none.1))

-- without the one at its place, where no other passes
one_out : {X : Type 0} (is : X → Bool) (xs : List X) → IsOnly is xs → remove xs (place_of is xs) ≡ filter (λ x. not (is x)) xs
one_out is [] only = refl
one_out {X} is (x ∷ xs) only =
    elim (either (is x)) [
      | inl here ↦ rw here (sym (none_out is xs (only.0 here)))
      | inr later ↦ rw later (ap (λ (ys : List X). x ∷ ys) (one_out is xs only.1))
    ]

module _ {X : Type 0} (same : X → X → Bool) (is : X → Bool) (alike : (x y : X) → is x ≡ true → same x y ≡ false → is y ≡ false) where
  others : (x : X) (ys : List X) → is x ≡ true → AllByRecursion (λ y. same x y ≡ false) ys → AllByRecursion (λ y. is y ≡ false) ys
  others x [] here apart = tt
  others x (y ∷ ys) here apart = (alike x y here apart.0, others x ys here apart.1)

  only_one : (xs : List X) → IsDistinct same xs → IsOnly is xs
  unfolding IsDistinct
  only_one [] apart = tt
  only_one (x ∷ xs) apart = (λ here. others x xs here apart.0, only_one xs apart.1)

module _ {X K : Type 0} (key : X → K) where
  -- one item more, at the end
  pub keys_last : (xs ys : List X) (x : X) (old new : Option (List K)) → ys ≡ xs ++ x ∷ [] → AreKeys key xs old → Follows (λ ks. ks ++ key x ∷ []) old new → AreKeys key ys new
  keys_last xs ys x old None is are by = tt
  keys_last xs ys x None (Some new) is are by = absurd by
  keys_last xs ys x (Some old) (Some new) is are by = by ∙ ap (λ (ks : List K). ks ++ key x ∷ []) are ∙ sym (ap (map key) is ∙ map-append key xs (x ∷ []))

module _ {X K : Type 0} (key : X → K) where
  -- another item of the same key in its place
  keys_set : (is : X → Bool) (new : X) → ((x : X) → is x ≡ true → key x ≡ key new) → (xs : List X) → map key (slice_set xs (place_of is xs) new) ≡ map key xs
  keys_set is new alike [] = refl
  keys_set is new alike (x ∷ xs) =
      elim (either (is x)) [
        | inl here ↦ rw here (ap (λ k. k ∷ map key xs) (sym (alike x here)))
        | inr later ↦ rw later (ap (λ (ks : List K). key x ∷ ks) (keys_set is new alike xs))
      ]

  keys_without : (is : X → Bool) (xs : List X) → IsOnly is xs → remove (map key xs) (place_of is xs) ≡ map key (filter (λ x. not (is x)) xs)
  keys_without is xs only = sym (map_out key xs (place_of is xs)) ∙ ap (map key) (one_out is xs only)

module _ {X K : Type 0} (key : X → K) where
  keep_keys : (xs ys : List X) (keys : Option (List K)) → map key ys ≡ map key xs → AreKeys key xs keys → AreKeys key ys keys
  keep_keys xs ys None same are = tt
  keep_keys xs ys (Some set) same are = are ∙ sym same

  fewer_keys : (xs ys : List X) (k : ℕ) (old new : Option (List K)) → remove (map key xs) k ≡ map key ys → AreKeys key xs old → Follows (λ ks. remove ks k) old new → AreKeys key ys new
  fewer_keys xs ys k old None same are by = tt
  fewer_keys xs ys k None (Some new) same are by = absurd by
  fewer_keys xs ys k (Some old) (Some new) same are by = by ∙ ap (λ (ks : List K). remove ks k) are ∙ same

-- an item put where there is no place changes nothing
pub set_beyond : {X : Type 0} (xs : List X) (k : ℕ) (x : X) → length xs ≤ k → xs ≡ slice_set xs k x
set_beyond [] k x l = refl
set_beyond (y ∷ xs) zero x l = absurd (omega (arith, l))
set_beyond {X} (y ∷ xs) (suc k) x l = ap (λ (ys : List X). y ∷ ys) (set_beyond xs k x (omega (arith, l)))

-- and none goes from there
pub remove_beyond : {X : Type 0} (xs : List X) (k : ℕ) → length xs ≤ k → xs ≡ remove xs k
remove_beyond [] zero l = refl
remove_beyond [] (suc k) l = refl
remove_beyond (x ∷ xs) zero l = absurd (omega (arith, l))
remove_beyond {X} (x ∷ xs) (suc k) l = ap (λ (ys : List X). x ∷ ys) (remove_beyond xs k (omega (arith, l)))

last_out : {X : Type 0} (xs : List X) (k : ℕ) → length xs ≤ suc k → remove xs k ≡ take k xs
last_out [] zero l = refl
last_out [] (suc k) l = refl
last_out (x ∷ []) zero l = refl
last_out (x ∷ y ∷ xs) zero l = absurd (omega (arith, l))
last_out {X} (x ∷ xs) (suc k) l = ap (λ (ys : List X). x ∷ ys) (last_out xs k (omega (arith, l)))

-- another item of the same key in the place of one
keys_at : {X K : Type 0} (key : X → K) (xs : List X) (k : ℕ) (x y : X) → y ≡ slice_index_or xs k y → key y ≡ key x → k < length xs
    → map key (slice_set xs k x) ≡ map key xs
keys_at key [] k x y at same l = refl
keys_at key (z ∷ xs) zero x y at same l = ap (λ c. c ∷ map key xs) (sym same ∙ ap key at)
keys_at {X} {K} key (z ∷ xs) (suc k) x y at same l = ap (λ (ks : List K). key z ∷ ks) (keys_at key xs k x y at same (omega (arith, l)))

module _ {X K : Type 0} (key : X → K) where
  -- the last item goes, and its key
  pub keys_shorter : (xs ys : List X) (old new : Option (List K)) → ys ≡ take (length xs - 1) xs → AreKeys key xs old
      → Follows (λ ks. remove ks (length xs - 1)) old new → AreKeys key ys new
  keys_shorter xs ys old new is are by =
      fewer_keys key xs ys (length xs - 1) old new (sym (map_out key xs (length xs - 1)) ∙ ap (map key) (last_out xs (length xs - 1) (omega arith) ∙ sym is)) are by

module _ {X K : Type 0} (key : X → K) where
  -- an item goes, and its key
  pub keys_removed : (xs ys : List X) (k : ℕ) (old new : Option (List K)) → ys ≡ remove xs k → AreKeys key xs old → Follows (λ ks. remove ks k) old new → AreKeys key ys new
  keys_removed xs ys k old new is are by = fewer_keys key xs ys k old new (sym (map_out key xs k) ∙ ap (map key) (sym is)) are by

  -- an item comes to a place, and its key
  pub keys_put : (xs ys : List X) (k : ℕ) (x : X) (old new : Option (List K)) → ys ≡ insert xs k x → AreKeys key xs old → Follows (λ ks. insert ks k (key x)) old new → AreKeys key ys new
  keys_put xs ys k x old None is are by = tt
  keys_put xs ys k x None (Some new) is are by = absurd by
  keys_put xs ys k x (Some old) (Some new) is are by = by ∙ ap (λ (ks : List K). insert ks k (key x)) are ∙ sym (map_put key xs k x) ∙ ap (map key) (sym is)

-- routes
route_like : (p : Prefix) (s : FibSource) (r : Route) → is_route p s r ≡ true → route_key r ≡ (p, source_rank s)
route_like p s r is =
    let both = and_both (same_prefix r.prefix p) (same_source r.source s) is in
    ap (λ (q : Prefix). (q, source_rank r.source)) ((same_prefix-Decides r.prefix p).0 both.0) ∙ ap (λ (n : ℕ). (p, n)) ((Decides-eqb (source_rank r.source) (source_rank s)).0 both.1)

route_other : (p : Prefix) (s : FibSource) (x y : Route) → is_route p s x ≡ true → same_route x y ≡ false → is_route p s y ≡ false
route_other p s x y is apart =
    let both = and_both (same_prefix x.prefix p) (same_source x.source s) is in
    rw (
      same_prefix_equiv.symm y.prefix p,
      nat_eq_equiv.symm (source_rank y.source) (source_rank s),
      ← same_prefix_equiv.congr x.prefix p y.prefix both.0,
      ← nat_eq_equiv.congr (source_rank x.source) (source_rank s) (source_rank y.source) both.1,
    ) apart

only_route : (p : Prefix) (s : FibSource) (rs : List Route) → IsDistinct same_route rs → IsOnly (is_route p s) rs
only_route p s rs apart = only_one same_route (is_route p s) (route_other p s) rs apart

-- without the route at the place of that prefix and source
pub route_out : (p : Prefix) (s : FibSource) (rs : List Route) → IsDistinct same_route rs → remove rs (place_of (is_route p s) rs) ≡ without_route p s rs
route_out p s rs apart = one_out (is_route p s) rs (only_route p s rs apart)

pub route_keys_set : (new : Route) (rs : List Route) (keys : Option (List (Prefix × ℕ))) → AreKeys route_key rs keys
    → AreKeys route_key (slice_set rs (place_of (is_route new.prefix new.source) rs) new) keys
route_keys_set new rs keys are = keep_keys route_key rs _ keys (keys_set route_key (is_route new.prefix new.source) new (route_like new.prefix new.source) rs) are

pub route_keys_put : (rs : List Route) (k : ℕ) (old new : Route) (keys kept : Option (List (Prefix × ℕ))) → new ≡ slice_index_or rs k new → k < length rs
    → (is_route old.prefix old.source new ≡ true → kept ≡ keys) → (is_route old.prefix old.source new ≡ false → kept ≡ None)
    → AreKeys route_key rs keys → AreKeys route_key (slice_set rs k old) kept
route_keys_put rs k old new keys kept at l right wrong are =
    elim (either (is_route old.prefix old.source new)) [
      | inl is ↦ rw (right is) (keep_keys route_key rs _ keys (keys_at route_key rs k old new at (route_like old.prefix old.source new is) l) are)
      | inr isnt ↦ rw (wrong isnt) tt
    ]

pub route_keys_without : (p : Prefix) (s : FibSource) (rs : List Route) (old new : Option (List (Prefix × ℕ))) → IsDistinct same_route rs → AreKeys route_key rs old
    → Follows (λ ks. remove ks (place_of (is_route p s) rs)) old new → AreKeys route_key (without_route p s rs) new
route_keys_without p s rs old new apart are by =
    fewer_keys route_key rs (without_route p s rs) (place_of (is_route p s) rs) old new
    (keys_without route_key (is_route p s) rs (only_route p s rs apart)) are by

-- neighbors
neighbor_like : (i a : ℕ) (n : Neighbor) → is_neighbor i a n ≡ true → neighbor_key n ≡ (i, a)
neighbor_like i a n is =
    let both = and_both (n.interface == i) (n.addr == a) is in
    ap (λ (k : ℕ). (k, n.addr)) ((Decides-eqb n.interface i).0 both.0) ∙ ap (λ (k : ℕ). (i, k)) ((Decides-eqb n.addr a).0 both.1)

neighbor_other : (i a : ℕ) (x y : Neighbor) → is_neighbor i a x ≡ true → same_neighbor x y ≡ false → is_neighbor i a y ≡ false
neighbor_other i a x y is apart =
    let both = and_both (x.interface == i) (x.addr == a) is in
    rw (
      nat_eq_equiv.symm y.interface i,
      nat_eq_equiv.symm y.addr a,
      ← nat_eq_equiv.congr x.interface i y.interface both.0,
      ← nat_eq_equiv.congr x.addr a y.addr both.1,
    ) apart

-- without the neighbor at the place of that interface and address
pub neighbor_out : (i a : ℕ) (ns : List Neighbor) → IsDistinct same_neighbor ns → remove ns (place_of (is_neighbor i a) ns) ≡ filter (λ n. not (same_neighbor n (record { interface = i; addr = a; mac = 0 }))) ns
neighbor_out i a ns apart = one_out (is_neighbor i a) ns (only_one same_neighbor (is_neighbor i a) (neighbor_other i a) ns apart)

pub neighbor_keys_set : (new : Neighbor) (ns : List Neighbor) (keys : Option (List (ℕ × ℕ))) → AreKeys neighbor_key ns keys
    → AreKeys neighbor_key (slice_set ns (place_of (is_neighbor new.interface new.addr) ns) new) keys
neighbor_keys_set new ns keys are = keep_keys neighbor_key ns _ keys (keys_set neighbor_key (is_neighbor new.interface new.addr) new (neighbor_like new.interface new.addr) ns) are

pub neighbor_keys_put : (ns : List Neighbor) (k : ℕ) (old new : Neighbor) (keys kept : Option (List (ℕ × ℕ))) → new ≡ slice_index_or ns k new → k < length ns
    → (is_neighbor old.interface old.addr new ≡ true → kept ≡ keys) → (is_neighbor old.interface old.addr new ≡ false → kept ≡ None)
    → AreKeys neighbor_key ns keys → AreKeys neighbor_key (slice_set ns k old) kept
neighbor_keys_put ns k old new keys kept at l right wrong are =
    elim (either (is_neighbor old.interface old.addr new)) [
      | inl is ↦ rw (right is) (keep_keys neighbor_key ns _ keys (keys_at neighbor_key ns k old new at (neighbor_like old.interface old.addr new is) l) are)
      | inr isnt ↦ rw (wrong isnt) tt
    ]

pub neighbor_keys_without : (i a : ℕ) (ns : List Neighbor) (old new : Option (List (ℕ × ℕ))) → IsDistinct same_neighbor ns → AreKeys neighbor_key ns old
    → Follows (λ ks. remove ks (place_of (is_neighbor i a) ns)) old new → AreKeys neighbor_key (filter (λ n. not (same_neighbor n (record { interface = i; addr = a; mac = 0 }))) ns) new
neighbor_keys_without i a ns old new apart are by =
    fewer_keys neighbor_key ns _ (place_of (is_neighbor i a) ns) old new
    (keys_without neighbor_key (is_neighbor i a) ns (only_one same_neighbor (is_neighbor i a) (neighbor_other i a) ns apart)) are by
