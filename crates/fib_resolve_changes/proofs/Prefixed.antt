-- The entries are prefixes of the Rust type.
use Rattle.std.proofs.Common.{arith, ◌≡◌, ℕ, ◌+◌, ◌-◌, ◌*◌, ◌/◌, ◌%◌, ◌<◌, ◌≤◌, ◌^◌, Bool, true, false, cond, List, [], ◌∷◌, ◌++◌, map, inl, inr, refl, sym, ◌∙◌, ap, subst}
use Rattle.std.specs.Prelude.{Contains, flat_map, nat_lt, nat_le}
use Rattle.std.proofs.lemmas.Bool.{cases_lt}
use Rattle.std.proofs.lemmas.List.Elements.{Contains-append_cases}
use Rattle.std.proofs.Math.Nat.{mul-le-mul_left, div-mul-le_self, mul-mod_left}
use Rattle.std.proofs.Math.Pow.{pow_pos, pow-add}
use Rattle.std.specs.List.{AllByRecursion}
use Rattle.fib_base_list.proofs.Lists.{Contains-nil}
use Rattle.fib_addr.specs.Prefixes.{Prefix, IsPrefix, host, masked, size_of, same_prefix}
use Rattle.fib_addr.proofs.PrefixLaws.{same_prefix-Decides}
use Rattle.fib_resolve.specs.Pairs.{base_pairs, fixed_pairs, connected_pairs, edge_pairs, edge_pair, edge_addresses, route_pair, one, pairs, entries}
use Rattle.fib_resolve.specs.declared.pairs.Pair.{Pair}
use Rattle.fib_resolve.specs.declared.types.PathKind.TheVariants as kinds
use Rattle.fib_resolve.specs.declared.types.FibSource.TheVariants as sources
use Rattle.fib_resolve.specs.declared.types.Address.{Address}
use Rattle.fib_resolve.specs.declared.types.Tables.{Tables}
use Rattle.fib_resolve.proofs.Entries.{is_entry}
use Rattle.fib_resolve_changes.specs.Sources.{HoldsPrefixes}
use Rattle.fib_resolve_changes.proofs.SamePairs.{flat_map_from, map_from, origin, Origin, base, neighbor, derived, near_from, near_host, derived_host}
use Rattle.fib_resolve_changes.proofs.Addresses.{single, when, edge_of}
use Rattle.fib_resolve_changes.proofs.CauseLaws.{any_from}
use Rattle.fib_resolve_changes.proofs.Edits.{any_in, in_cases}

host_is : (a : ℕ) → a < 2 ^ 32 → IsPrefix (host a)
host_is a small = record { short = omega arith; fits = small; cleared = omega arith }

masked_is : (a len : ℕ) → len ≤ 32 → a < 2 ^ 32 → IsPrefix (masked a len)
masked_is a len short fits = record { short = short; fits = omega (arith, div-mul-le_self a (size_of len)); cleared = mul-mod_left (a / size_of len) (size_of len) }

-- a multiple of s below s * t is a step below it
below : (b s t : ℕ) → 0 < s → b % s ≡ 0 → b < s * t → b + s ≤ s * t
below b s t pos cleared short =
    elim (cases_lt (b / s) t) [
      | inl lt ↦ (let step : s * (b / s + 1) ≤ s * t = mul-le-mul_left s (omega (arith, lt)) in omega (arith, step))
      | inr le ↦ (let step : s * t ≤ s * (b / s) = mul-le-mul_left s le in absurd (omega (arith, step)))
    ]

last_small : (a len : ℕ) → len ≤ 32 → a < 2 ^ 32 → (masked a len).bits + size_of len - 1 < 2 ^ 32
last_small a len short fits =
    let m = masked_is a len short fits in
    let whole : 2 ^ (32 - len) * 2 ^ len ≡ 2 ^ 32 = let sum : 32 - len + len ≡ 32 = omega arith in rw (← pow-add, sum) refl in
    let bound = below (masked a len).bits (2 ^ (32 - len)) (2 ^ len) (pow_pos (32 - len)) m.cleared (omega (arith, whole, m.fits)) in
    let pos = pow_pos (32 - len) in
    omega (arith, whole, bound, pos)

GoodPair : Pair → Type 0
GoodPair x = IsPrefix x.prefix

at_prefix : (q : Prefix) (x : Pair) → q ≡ x.prefix → IsPrefix q → GoodPair x
unfolding GoodPair
at_prefix q x e h = subst IsPrefix e h

each_good : (xs : List Pair) → AllByRecursion GoodPair xs → (x : Pair) → Contains xs x → GoodPair x
each_good [] all x c = absurd (Contains-nil x c)
each_good (y ∷ ys) all x c = elim (in_cases y x ys c) [ inl is ↦ subst GoodPair is all.0 | inr later ↦ each_good ys all.1 x later ]

fixed_all : AllByRecursion GoodPair fixed_pairs
unfolding GoodPair
fixed_all = (
  record { short = omega arith; fits = omega arith; cleared = refl },
  (
    host_is 0 (omega arith),
    (
      record { short = omega arith; fits = omega arith; cleared = refl },
      (
        record { short = omega arith; fits = omega arith; cleared = refl },
        (
          host_is 0xffffffff (omega arith),
          tt,
        ),
      ),
    ),
  ),
)

fixed_good : (x : Pair) → Contains fixed_pairs x → GoodPair x
fixed_good x c = each_good fixed_pairs fixed_all x c

module _ (S : Tables) (h : HoldsPrefixes S) where
  connected_good : (a : Address) → Contains S.addresses a → (x : Pair) → Contains (connected_pairs a) x → GoodPair x
  connected_good a k x c =
      let good = h.addresses a k in
      elim (Contains-append_cases (cond (nat_lt a.len 32) (one (masked a.addr a.len) sources.Interface (kinds.Attached a.interface) ∷ []) []) (one (host a.addr) sources.Interface kinds.Local ∷ []) x c) [
        | inl near ↦ at_prefix (masked a.addr a.len) x (ap (λ z. z.prefix) (when (nat_lt a.len 32) _ x near)) (masked_is a.addr a.len good.1 good.0)
        | inr itself ↦ at_prefix (host a.addr) x (ap (λ z. z.prefix) (single _ x itself)) (host_is a.addr good.0)
      ]

  edge_small : (a : Address) → Contains S.addresses a → (y : ℕ) → Contains (edge_addresses a) y → y < 2 ^ 32
  edge_small a k y c = by (nat_le a.len 30) c
    where
      by : (b : Bool) → Contains (cond b ((masked a.addr a.len).bits ∷ ((masked a.addr a.len).bits + size_of a.len - 1) ∷ []) []) y → y < 2 ^ 32
      by false d = absurd (Contains-nil y d)
      by true d = elim (in_cases (masked a.addr a.len).bits y (((masked a.addr a.len).bits + size_of a.len - 1) ∷ []) d) [
        | inl low ↦ subst (λ n. n < 2 ^ 32) low (masked_is a.addr a.len (h.addresses a k).1 (h.addresses a k).0).fits
        | inr rest ↦ elim (in_cases ((masked a.addr a.len).bits + size_of a.len - 1) y [] rest) [
          | inl high ↦ subst (λ n. n < 2 ^ 32) high (last_small a.addr a.len (h.addresses a k).1 (h.addresses a k).0)
          | inr none ↦ absurd (Contains-nil y none)
        ]
      ]

  edge_good : (a : Address) → Contains S.addresses a → (x : Pair) → Contains (edge_pairs S.addresses a) x → GoodPair x
  edge_good a k x c =
      let r = flat_map_from (edge_pair S.addresses) (edge_addresses a) x c in
      at_prefix (host r.0) x (ap (λ z. z.prefix) (edge_of S.addresses r.0 x r.2).1) (host_is r.0 (edge_small a k r.0 r.1))

  base_good : (x : Pair) → Contains (base_pairs S) x → GoodPair x
  unfolding base_pairs
  base_good x c =
      elim (Contains-append_cases (fixed_pairs ++ flat_map connected_pairs S.addresses ++ flat_map (edge_pairs S.addresses) S.addresses) (map route_pair S.routes) x c) [
        | inr route ↦ (let r = map_from route_pair S.routes x route in at_prefix r.0.prefix x (ap (λ z. z.prefix) r.2) (h.routes r.0 r.1))
        | inl early ↦ elim (Contains-append_cases (fixed_pairs ++ flat_map connected_pairs S.addresses) (flat_map (edge_pairs S.addresses) S.addresses) x early) [
          | inr edge ↦ (let r = flat_map_from (edge_pairs S.addresses) S.addresses x edge in edge_good r.0 r.1 x r.2)
          | inl first ↦ elim (Contains-append_cases fixed_pairs (flat_map connected_pairs S.addresses) x first) [
            | inl fixed ↦ fixed_good x fixed
            | inr near ↦ (let r = flat_map_from connected_pairs S.addresses x near in connected_good r.0 r.1 x r.2)
          ]
        ]
      ]

  pair_good : (x : Pair) → Origin S x → GoodPair x
  pair_good x (base own) = base_good x own
  pair_good x (neighbor n c near) = (let r = near_from S n x near in at_prefix (host n.addr) x (sym (near_host n.addr n.interface) ∙ ap (λ z. z.prefix) r.1) (host_is n.addr (h.neighbors n c)))
  pair_good x (derived a c is) = at_prefix (host a) x (sym (derived_host S a) ∙ ap (λ z. z.prefix) is) (host_is a (h.hops a c))

  pub entries_good : (e : Prefix) → Contains (entries S) e → IsPrefix e
  unfolding GoodPair
  entries_good e c =
      let is = any_in (same_prefix e) (entries S) e c ((same_prefix-Decides e e).1 refl) in
      let r = any_from (λ x. same_prefix e x.prefix) (pairs S) (sym (is_entry S e) ∙ is) in
      subst IsPrefix (sym ((same_prefix-Decides e r.0.prefix).0 r.2)) (pair_good r.0 (origin S r.0 r.1))
