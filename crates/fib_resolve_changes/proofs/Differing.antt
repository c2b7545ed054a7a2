-- Each edit changes tables at one place.
use Rattle.std.proofs.Common.{arith, ◌≡◌, ℕ, zero, suc, ◌<◌, Bool, true, false, cond, not, ◌&&◌, ◌==◌, List, [], ◌∷◌, ◌++◌, map, filter, length, Option, inl, inr, refl, sym, ◌∙◌, ap, slice_get, ◌↔◌}
use Rattle.std.specs.Prelude.{Contains, find, option_map, nat_lt}
use Rattle.std.specs.List.{AllByRecursion, IsDistinct, position_or_len}
use Rattle.std.proofs.lemmas.Bool.{false≢true, lt-ltb}
use Rattle.std.proofs.lemmas.Bool.Decides.{Decides-eqb}
use Rattle.std.proofs.lemmas.Slice.Eq.{bytes_eq-Decides}
use Rattle.fib_base_list.proofs.Lists.{either}
use Rattle.fib_base_list.proofs.Booleans.{and_both}
use Rattle.fib_addr.specs.Prefixes.{Prefix}
use Rattle.fib_addr.proofs.PrefixLaws.{same_prefix-Decides}
use Rattle.fib_resolve.specs.Keys.{source_rank}
use Rattle.fib_resolve.specs.Forwarding.{up_of, is_up}
use Rattle.fib_resolve.specs.Resolution.{is_neighbor}
use Rattle.fib_resolve.specs.Tables.{has_name, same_name, same_address, same_neighbor, is_route, IsSound}
use Rattle.fib_resolve.specs.Edits.{edited, number_of, with_state, set_neighbor, with_interfaces, address_at, neighbor_at, source_of, paths_with}
use Rattle.fib_resolve.specs.declared.types.Address.{Address}
use Rattle.fib_resolve.specs.declared.types.Edit.{Edit}
use Rattle.fib_resolve.specs.declared.types.Edit.TheVariants as edits
use Rattle.fib_resolve.specs.declared.types.FibSource.{FibSource}
use Rattle.fib_resolve.specs.declared.types.Interface.{Interface}
use Rattle.fib_resolve.specs.declared.types.Neighbor.{Neighbor}
use Rattle.fib_resolve.specs.declared.types.Route.{Route}
use Rattle.fib_resolve.specs.declared.types.Tables.{Tables}
use Rattle.fib_resolve.proofs.OneList.{source_by_rank}
use Rattle.fib_resolve_changes.specs.Differ.{Differ, change_of}
use Rattle.fib_resolve_changes.specs.declared.change.Change.TheVariants as changes
use Rattle.fib_resolve_changes.proofs.Addresses.{is_it, pushed_agree, filtered_agree}
use Rattle.fib_resolve_changes.proofs.Edits.{in_front, set_agrees, deleted_agrees}

itself : {X : Type 0} (x y : X) → y ≡ x → Contains (x ∷ []) y
itself x y e = in_front x y [] (sym e)

-- flags

none_named : (name : List ℕ) (up : Bool) (xs : List Interface) → AllByRecursion (λ x. has_name name x ≡ false) xs → (i : ℕ) → up_of (slice_get xs i) ≡ up_of (slice_get (map (with_state name up) xs) i)
none_named name up [] h i = refl
none_named name up (x ∷ xs) h zero = rw h.0 refl
none_named name up (x ∷ xs) h (suc i) = none_named name up xs h.1 i

others_unnamed : (name : List ℕ) (x : Interface) (xs : List Interface) → has_name name x ≡ true → AllByRecursion (λ y. same_name x y ≡ false) xs → AllByRecursion (λ y. has_name name y ≡ false) xs
others_unnamed name x [] is h = tt
others_unnamed name x (y ∷ ys) is h = (
  elim (either (has_name name y)) [
    | inl named ↦ (let same : x.name ≡ y.name = (bytes_eq-Decides x.name name).0 is ∙ sym ((bytes_eq-Decides y.name name).0 named) in
        absurd (false≢true (sym h.0 ∙ (bytes_eq-Decides x.name y.name).1 same)))
    | inr unnamed ↦ unnamed
  ],
  others_unnamed name x ys is h.1,
)

flag_kept : (name : List ℕ) (up : Bool) (xs : List Interface) → IsDistinct same_name xs → (i : ℕ) → (i < length xs → position_or_len (has_name name) xs ≡ i → ⊥) → up_of (slice_get xs i) ≡ up_of (slice_get (map (with_state name up) xs) i)
unfolding IsDistinct
flag_kept name up [] apart i other = refl
flag_kept name up (x ∷ xs) apart zero other =
    elim (either (has_name name x)) [
      | inl is ↦ absurd (other (omega arith) (rw is refl))
      | inr isnt ↦ rw isnt refl
    ]
flag_kept name up (x ∷ xs) apart (suc i) other =
    elim (either (has_name name x)) [
      | inl is ↦ none_named name up xs (others_unnamed name x xs is apart.0) i
      | inr isnt ↦ flag_kept name up xs apart.1 i (λ lt e. other (omega (arith, lt)) (rw isnt (omega (arith, e))))
    ]

named_there : (name : List ℕ) (xs : List Interface) (n i : ℕ) → n ≡ (cond (nat_lt (position_or_len (has_name name) xs) (length xs)) (position_or_len (has_name name) xs) 0) → i < length xs → position_or_len (has_name name) xs ≡ i → i ≡ n
named_there name xs n i is lt at =
    let found = lt-ltb (position_or_len (has_name name) xs) (length xs) (omega (arith, lt, at)) in
    sym at ∙ sym (is ∙ ap (λ b. cond b (position_or_len (has_name name) xs) 0) found)

number_is : (S : Tables) (name : List ℕ) → number_of S name ≡ cond (nat_lt (position_or_len (has_name name) S.interfaces) (length S.interfaces)) (position_or_len (has_name name) S.interfaces) 0
number_is S name =
    elim (either (nat_lt (position_or_len (has_name name) S.interfaces) (length S.interfaces))) [
      | inl is ↦ rw is refl
      | inr isnt ↦ rw isnt refl
    ]

state_kept : (S : Tables) (name : List ℕ) (up : Bool) → IsSound S → (i : ℕ) → (Contains (changes.Flag (number_of S name) ∷ []) (changes.Flag i) → ⊥) → is_up S i ≡ is_up (with_interfaces S (map (with_state name up) S.interfaces)) i
state_kept S name up sound i other =
    flag_kept name up S.interfaces sound.names_apart i
    (λ lt at. other (itself (changes.Flag (number_of S name)) (changes.Flag i) (ap changes.Flag (named_there name S.interfaces (number_of S name) i (number_is S name) lt at))))

-- a new interface is down
made_down : (name : List ℕ) (xs : List Interface) (i : ℕ) → up_of (slice_get xs i) ≡ up_of (slice_get (xs ++ record { name = name; up = false } ∷ []) i)
made_down name [] zero = refl
made_down name [] (suc i) = refl
made_down name (x ∷ xs) zero = refl
made_down name (x ∷ xs) (suc i) = made_down name xs i

-- neighbors

elsewhere : (n : Neighbor) (i a : ℕ) → (Contains (changes.Neighbor n.interface n.addr ∷ []) (changes.Neighbor i a) → ⊥) → is_neighbor i a n ≡ false
elsewhere n i a other =
    elim (either (is_neighbor i a n)) [
      | inl is ↦ (let both = and_both (n.interface == i) (n.addr == a) is in
          let on : n.interface ≡ i = (Decides-eqb n.interface i).0 both.0 in
          let at : n.addr ≡ a = (Decides-eqb n.addr a).0 both.1 in
          absurd (other (itself (changes.Neighbor n.interface n.addr) (changes.Neighbor i a) (ap (λ j. changes.Neighbor j a) (sym on) ∙ ap (changes.Neighbor n.interface) (sym at)))))
      | inr isnt ↦ isnt
    ]

alike : (m n : Neighbor) (i a : ℕ) → same_neighbor m n ≡ true → is_neighbor i a m ≡ is_neighbor i a n
alike m n i a same =
    let both = and_both (m.interface == n.interface) (m.addr == n.addr) same in
    ap (λ j. (j == i) && (m.addr == a)) ((Decides-eqb m.interface n.interface).0 both.0) ∙ ap (λ b. (n.interface == i) && (b == a)) ((Decides-eqb m.addr n.addr).0 both.1)

mac_in : List Neighbor → ℕ → ℕ → Option ℕ
mac_in ns i a = option_map (λ n. n.mac) (find (is_neighbor i a) ns)

mac_set : (n : Neighbor) (ms : List Neighbor) (i a : ℕ) → is_neighbor i a n ≡ false → mac_in ms i a ≡ mac_in (set_neighbor n ms) i a
unfolding mac_in
mac_set n [] i a off = rw off refl
mac_set n (m ∷ ms) i a off =
    elim (either (same_neighbor m n)) [
      | inl same ↦ rw (same, off, alike m n i a same ∙ off) refl
      | inr differs ↦ rw differs (elim (either (is_neighbor i a m)) [
        | inl is ↦ rw is refl
        | inr isnt ↦ rw isnt (mac_set n ms i a off)
      ])
    ]

mac_left : (n : Neighbor) (ms : List Neighbor) (i a : ℕ) → is_neighbor i a n ≡ false → mac_in ms i a ≡ mac_in (filter (λ m. not (same_neighbor m n)) ms) i a
unfolding mac_in
mac_left n [] i a off = refl
mac_left n (m ∷ ms) i a off =
    elim (either (same_neighbor m n)) [
      | inl same ↦ rw (same, alike m n i a same ∙ off) (mac_left n ms i a off)
      | inr differs ↦ rw differs (elim (either (is_neighbor i a m)) [
        | inl is ↦ rw is refl
        | inr isnt ↦ rw isnt (mac_left n ms i a off)
      ])
    ]

-- addresses and routes

address_off : (a b : Address) → (Contains (changes.Address a ∷ []) (changes.Address b) → ⊥) → same_address b a ≡ false
address_off a b other =
    elim (either (same_address b a)) [
      | inl is ↦ absurd (other (itself (changes.Address a) (changes.Address b) (ap changes.Address (is_it b a is))))
      | inr isnt ↦ isnt
    ]

route_off : (prefix : Prefix) (source : FibSource) (r : Route) → (Contains (changes.Route prefix source ∷ []) (changes.Route r.prefix r.source) → ⊥) → is_route prefix source r ≡ false
route_off prefix source r other =
    elim (either (is_route prefix source r)) [
      | inl is ↦ (let both = and_both _ _ is in
          let at : r.prefix ≡ prefix = (same_prefix-Decides r.prefix prefix).0 both.0 in
          let by : r.source ≡ source = source_by_rank r.source source ((Decides-eqb (source_rank r.source) (source_rank source)).0 both.1) in
          absurd (other (itself (changes.Route prefix source) (changes.Route r.prefix r.source) (ap (λ p. changes.Route p r.source) at ∙ ap (changes.Route prefix) by))))
      | inr isnt ↦ isnt
    ]

same : {X : Type 0} (xs : List X) (x : X) → Contains xs x ↔ Contains xs x
same xs x = (λ c. c, λ c. c)

pub edit_differs : (S : Tables) (e : Edit) → IsSound S → Differ (change_of S e ∷ []) S (edited S e)
unfolding edited mac_in
edit_differs S (edits.CreateInterface name) sound = record {
  flags = λ i other. made_down name S.interfaces i;
  addresses = λ a other. same S.addresses a;
  neighbors = λ i a other. refl;
  routes = λ r other. same S.routes r;
}
edit_differs S (edits.SetState name up) sound = record {
  flags = state_kept S name up sound;
  addresses = λ a other. same S.addresses a;
  neighbors = λ i a other. refl;
  routes = λ r other. same S.routes r;
}
edit_differs S (edits.AddAddress name addr len) sound = record {
  flags = λ i other. refl;
  addresses = λ a other. pushed_agree (address_at S name addr len) S.addresses a (address_off (address_at S name addr len) a other);
  neighbors = λ i a other. refl;
  routes = λ r other. same S.routes r;
}
edit_differs S (edits.DelAddress name addr len) sound = record {
  flags = λ i other. refl;
  addresses = λ a other. filtered_agree (address_at S name addr len) S.addresses a (address_off (address_at S name addr len) a other);
  neighbors = λ i a other. refl;
  routes = λ r other. same S.routes r;
}
edit_differs S (edits.SetNeighbor name addr mac) sound = record {
  flags = λ i other. refl;
  addresses = λ a other. same S.addresses a;
  neighbors = λ i a other. mac_set (neighbor_at S name addr mac) S.neighbors i a (elsewhere (neighbor_at S name addr mac) i a other);
  routes = λ r other. same S.routes r;
}
edit_differs S (edits.DelNeighbor name addr) sound = record {
  flags = λ i other. refl;
  addresses = λ a other. same S.addresses a;
  neighbors = λ i a other. mac_left (neighbor_at S name addr 0) S.neighbors i a (elsewhere (neighbor_at S name addr 0) i a other);
  routes = λ r other. same S.routes r;
}
edit_differs S (edits.AddRoute prefix api specs) sound = record {
  flags = λ i other. refl;
  addresses = λ a other. same S.addresses a;
  neighbors = λ i a other. refl;
  routes = λ r other. set_agrees (record { prefix = prefix; source = source_of api; paths = paths_with S prefix api specs }) S.routes r (route_off prefix (source_of api) r other);
}
edit_differs S (edits.DelRoute prefix api specs) sound = record {
  flags = λ i other. refl;
  addresses = λ a other. same S.addresses a;
  neighbors = λ i a other. refl;
  routes = λ r other. deleted_agrees S prefix (source_of api) specs r (route_off prefix (source_of api) r other);
}
