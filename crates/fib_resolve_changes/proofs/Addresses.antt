-- An address changes base pairs of its own prefixes alone.
use Rattle.std.proofs.Common.{arith, ◌≡◌, ℕ, ◌+◌, ◌-◌, Bool, true, false, cond, not, ◌==◌, List, [], ◌∷◌, ◌++◌, map, filter, inl, inr, refl, sym, ◌∙◌, ap, subst, ◌↔◌}
use Rattle.std.specs.Prelude.{Contains, flat_map, nat_lt, nat_le}
use Rattle.std.proofs.lemmas.Bool.Decides.{Decides-eqb}
use Rattle.std.proofs.lemmas.List.Elements.{Contains-append_left, Contains-append_right, Contains-append_cases}
use Rattle.fib_base_list.proofs.Lists.{either, Contains-flat_map, Contains-nil}
use Rattle.fib_base_list.proofs.Booleans.{and_both}
use Rattle.fib_addr.specs.Prefixes.{Prefix, host, same_prefix, masked, size_of}
use Rattle.fib_addr.proofs.PrefixLaws.{same_prefix-Decides}
use Rattle.fib_resolve.specs.Pairs.{base_pairs, fixed_pairs, connected_pairs, edge_pairs, edge_pair, edge_addresses, is_address, route_pair, one}
use Rattle.fib_resolve.specs.Tables.{same_address}
use Rattle.fib_resolve.specs.Edits.{with_addresses}
use Rattle.fib_resolve.specs.declared.pairs.Pair.{Pair}
use Rattle.fib_resolve.specs.declared.types.PathKind.TheVariants as kinds
use Rattle.fib_resolve.specs.declared.types.FibSource.TheVariants as sources
use Rattle.fib_resolve.specs.declared.types.Address.{Address}
use Rattle.fib_resolve.specs.declared.types.Tables.{Tables}
use Rattle.fib_resolve.proofs.Covering.{filter_in, filter_from}
use Rattle.fib_resolve_changes.specs.Sources.{BaseCaught}
use Rattle.fib_resolve_changes.specs.Affected.{own_prefixes, is_own}
use Rattle.fib_resolve_changes.proofs.SamePairs.{flat_map_from}
use Rattle.fib_resolve_changes.proofs.CauseLaws.{any_from}
use Rattle.fib_resolve_changes.proofs.Edits.{any_in, clash, in_cases}

abbrev AddressesAgree : Address → List Address → List Address → Type 0
AddressesAgree a all others = (b : Address) → same_address b a ≡ false → Contains all b ↔ Contains others b

address_with : ℕ → ℕ → ℕ → Address
address_with i addr len = record { interface = i; addr = addr; len = len }

pub is_it : (b a : Address) → same_address b a ≡ true → b ≡ a
unfolding address_with
is_it b a h =
    let x = and_both _ _ h in
    let y = and_both _ _ x.1 in
    ap (λ z. address_with z b.addr b.len) ((Decides-eqb b.interface a.interface).0 x.0)
    ∙ (ap (λ z. address_with a.interface z b.len) ((Decides-eqb b.addr a.addr).0 y.0) ∙ ap (λ z. address_with a.interface a.addr z) ((Decides-eqb b.len a.len).0 y.1))

pub its_own : (a : Address) (q : Prefix) (x : Prefix) → Contains (own_prefixes a) q → q ≡ x → is_own a x ≡ true
its_own a q x c e = any_in (same_prefix x) (own_prefixes a) q c ((same_prefix-Decides x q).1 (sym e))

pub single : (y x : Pair) → Contains (y ∷ []) x → y ≡ x
single y x c = elim (in_cases y x [] c) [ inl is ↦ is | inr none ↦ absurd (Contains-nil x none) ]

pub when : (b : Bool) (y x : Pair) → Contains (cond b (y ∷ []) []) x → y ≡ x
when true y x c = single y x c
when false y x c = absurd (Contains-nil x c)

pub connected_own : (a : Address) (x : Pair) → Contains (connected_pairs a) x → is_own a x.prefix ≡ true
connected_own a x c =
    elim (Contains-append_cases (cond (nat_lt a.len 32) (one (masked a.addr a.len) sources.Interface (kinds.Attached a.interface) ∷ []) []) (one (host a.addr) sources.Interface kinds.Local ∷ []) x c) [
      | inl near ↦ its_own a (masked a.addr a.len) x.prefix (0, omega arith, refl) (ap (λ z. z.prefix) (when (nat_lt a.len 32) _ x near))
      | inr itself ↦ its_own a (host a.addr) x.prefix (1, omega arith, refl) (ap (λ z. z.prefix) (single _ x itself))
    ]

pub edge_of : (all : List Address) (y : ℕ) (x : Pair) → Contains (edge_pair all y) x → (is_address all y ≡ false) × (one (host y) sources.Interface kinds.Drop ≡ x)
edge_of all y x c = by (is_address all y) refl c
  where
    by : (b : Bool) → is_address all y ≡ b → Contains (cond b [] (one (host y) sources.Interface kinds.Drop ∷ [])) x → (is_address all y ≡ false) × (one (host y) sources.Interface kinds.Drop ≡ x)
    by true e h = absurd (Contains-nil x h)
    by false e h = (e, single _ x h)

pub edge_in : (all : List Address) (y : ℕ) (x : Pair) → is_address all y ≡ false → one (host y) sources.Interface kinds.Drop ≡ x → Contains (edge_pair all y) x
edge_in all y x quiet is = rw quiet (0, omega arith, is)

pub edges_own : (a : Address) (y : ℕ) → Contains (edge_addresses a) y → is_own a (host y) ≡ true
edges_own a y c = by (nat_le a.len 30) c
  where
    by : (b : Bool) → Contains (cond b ((masked a.addr a.len).bits ∷ ((masked a.addr a.len).bits + size_of a.len - 1) ∷ []) []) y → is_own a (host y) ≡ true
    by false h = absurd (Contains-nil y h)
    by true h = elim (in_cases (masked a.addr a.len).bits y (((masked a.addr a.len).bits + size_of a.len - 1) ∷ []) h) [
      | inl low ↦ its_own a (host (masked a.addr a.len).bits) (host y) (2, omega arith, refl) (ap host low)
      | inr rest ↦ elim (in_cases ((masked a.addr a.len).bits + size_of a.len - 1) y [] rest) [
        | inl high ↦ its_own a (host ((masked a.addr a.len).bits + size_of a.len - 1)) (host y) (3, omega arith, refl) (ap host high)
        | inr none ↦ absurd (Contains-nil y none)
      ]
    ]

module _ (a : Address) (all others : List Address) (agree : AddressesAgree a all others) where
  connected_moved : (x : Pair) → is_own a x.prefix ≡ false → Contains (flat_map connected_pairs all) x → Contains (flat_map connected_pairs others) x
  connected_moved x quiet c =
      let r = flat_map_from connected_pairs all x c in
      elim (either (same_address r.0 a)) [
        | inl is ↦ absurd (clash (is_own a x.prefix) (connected_own a x (subst (λ z. Contains (connected_pairs z) x) (is_it r.0 a is) r.2)) quiet)
        | inr off ↦ Contains-flat_map connected_pairs others r.0 x ((agree r.0 off).0 r.1) r.2
      ]

  still_none : (y : ℕ) → is_own a (host y) ≡ false → is_address all y ≡ false → is_address others y ≡ false
  still_none y quiet none =
      elim (either (is_address others y)) [
        | inr isnt ↦ isnt
        | inl is ↦ (let b = any_from (λ z. z.addr == y) others is in elim (either (same_address b.0 a)) [
          | inl same ↦ absurd (clash (is_own a (host y)) (its_own a (host a.addr) (host y) (1, omega arith, refl) (ap host (sym (ap (λ z. z.addr) (is_it b.0 a same)) ∙ (Decides-eqb b.0.addr y).0 b.2))) quiet)
          | inr off ↦ absurd (clash (is_address all y) (any_in (λ z. z.addr == y) all b.0 ((agree b.0 off).1 b.1) b.2) none)
        ])
      ]

  edges_moved : (x : Pair) → is_own a x.prefix ≡ false → Contains (flat_map (edge_pairs all) all) x → Contains (flat_map (edge_pairs others) others) x
  edges_moved x quiet c =
      let r = flat_map_from (edge_pairs all) all x c in
      let e = flat_map_from (edge_pair all) (edge_addresses r.0) x r.2 in
      let p = edge_of all e.0 x e.2 in
      let silent : is_own a (host e.0) ≡ false = subst (λ (z : Pair). is_own a z.prefix ≡ false) (sym p.1) quiet in
      elim (either (same_address r.0 a)) [
        | inl is ↦ absurd (clash (is_own a (host e.0)) (edges_own a e.0 (subst (λ z. Contains (edge_addresses z) e.0) (is_it r.0 a is) e.1)) silent)
        | inr off ↦ Contains-flat_map (edge_pairs others) others r.0 x ((agree r.0 off).0 r.1)
            (Contains-flat_map (edge_pair others) (edge_addresses r.0) e.0 x e.1 (edge_in others e.0 x (still_none e.0 silent p.0) p.1))
      ]

  front_moved : (x : Pair) → is_own a x.prefix ≡ false → Contains (fixed_pairs ++ flat_map connected_pairs all ++ flat_map (edge_pairs all) all) x → Contains (fixed_pairs ++ flat_map connected_pairs others ++ flat_map (edge_pairs others) others) x
  front_moved x quiet c =
      elim (Contains-append_cases (fixed_pairs ++ flat_map connected_pairs all) (flat_map (edge_pairs all) all) x c) [
        | inr late ↦ Contains-append_right (fixed_pairs ++ flat_map connected_pairs others) _ x (edges_moved x quiet late)
        | inl early ↦ Contains-append_left (fixed_pairs ++ flat_map connected_pairs others) _ x (elim (Contains-append_cases fixed_pairs (flat_map connected_pairs all) x early) [
          | inl fixed ↦ Contains-append_left fixed_pairs _ x fixed
          | inr near ↦ Contains-append_right fixed_pairs _ x (connected_moved x quiet near)
        ])
      ]

turned : (a : Address) (all others : List Address) → AddressesAgree a all others → AddressesAgree a others all
turned a all others agree b off = ((agree b off).1, (agree b off).0)

pub addresses_base : (S : Tables) (a : Address) (others : List Address) → AddressesAgree a S.addresses others → BaseCaught S (with_addresses S others) (is_own a)
unfolding base_pairs
addresses_base S a others agree x quiet =
    let before = fixed_pairs ++ flat_map connected_pairs S.addresses ++ flat_map (edge_pairs S.addresses) S.addresses in
    let after = fixed_pairs ++ flat_map connected_pairs others ++ flat_map (edge_pairs others) others in (
      λ c. elim (Contains-append_cases before (map route_pair S.routes) x c) [
        | inl early ↦ Contains-append_left after (map route_pair S.routes) x (front_moved a S.addresses others agree x quiet early)
        | inr late ↦ Contains-append_right after (map route_pair S.routes) x late
      ],
      λ c. elim (Contains-append_cases after (map route_pair S.routes) x c) [
        | inl early ↦ Contains-append_left before (map route_pair S.routes) x (front_moved a others S.addresses (turned a S.addresses others agree) x quiet early)
        | inr late ↦ Contains-append_right before (map route_pair S.routes) x late
      ],
    )

itself : (a : Address) → same_address a a ≡ true
itself a = rw ((Decides-eqb a.interface a.interface).1 refl, (Decides-eqb a.addr a.addr).1 refl, (Decides-eqb a.len a.len).1 refl) refl

pub pushed_agree : (a : Address) (all : List Address) → AddressesAgree a all (all ++ a ∷ [])
pushed_agree a all b off = (
  λ c. Contains-append_left all (a ∷ []) b c,
  λ c. elim (Contains-append_cases all (a ∷ []) b c) [
    | inl old ↦ old
    | inr new ↦ elim (in_cases a b [] new) [ inl is ↦ absurd (clash (same_address b a) (subst (λ z. same_address z a ≡ true) is (itself a)) off) | inr none ↦ absurd (Contains-nil b none) ]
  ],
)

pub filtered_agree : (a : Address) (all : List Address) → AddressesAgree a all (filter (λ b. not (same_address b a)) all)
filtered_agree a all b off = (λ c. filter_in (λ z. not (same_address z a)) all b c (ap not off), λ c. (filter_from (λ z. not (same_address z a)) all b c).0)
