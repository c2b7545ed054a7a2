-- The base pairs of a prefix, source by source.
use Rattle.std.proofs.Common.{arith, ◌≡◌, ◌≢◌, ℕ, ◌<◌, ◌≤◌, ◌==◌, Bool, true, false, cond, List, [], ◌∷◌, ◌++◌, map, filter, length}
use Rattle.std.proofs.Common.{Option, Some, None, ◌⊎◌, inl, inr, refl, sym, ◌∙◌, ap, subst, ◌↔◌}
use Rattle.std.specs.Prelude.{Contains, flat_map, find, nat_lt}
use Rattle.std.specs.List.{All, AllByRecursion, list_any}
use Rattle.std.proofs.lemmas.Bool.{false≢true, ltb-true, ltb-false}
use Rattle.std.proofs.lemmas.Bool.Decides.{Decides-eqb}
use Rattle.std.proofs.lemmas.List.Elements.{recursion_from_All, All-contains, All-from_recursion, Contains-append_left}
use Rattle.std.proofs.lemmas.List.Elements.{Contains-append_right, Contains-append_cases}
use Rattle.fib_base_list.proofs.Lists.{either, each-filter, each-weaker, Contains-flat_map, Contains-nil}
use Rattle.fib_base_list.proofs.Booleans.{and_both}
use Rattle.fib_base_interned.proofs.Finding.{contains_at, find_place}
use Rattle.fib_addr.specs.Longest.{everything}
use Rattle.fib_addr.specs.Prefixes.{Prefix, same_prefix, masked, host}
use Rattle.fib_addr.proofs.PrefixLaws.{same_fields, same_prefix-Decides}
use Rattle.fib_resolve.specs.Edits.{paths_at}
use Rattle.fib_resolve.specs.Keys.{source_rank}
use Rattle.fib_resolve.specs.Pairs.{base_pairs, fixed_pairs, connected_pairs, edge_pairs, edge_pair, edge_addresses, is_address, route_pair, one, pairs}
use Rattle.fib_resolve.specs.Tables.{IsSound, IsSoundRoute, is_route}
use Rattle.fib_resolve.specs.declared.pairs.Pair.{Pair}
use Rattle.fib_resolve.specs.declared.types.Address.{Address}
use Rattle.fib_resolve.specs.declared.types.FibSource.{FibSource}
use Rattle.fib_resolve.specs.declared.types.FibSource.TheVariants as sources
use Rattle.fib_resolve.specs.declared.types.Path.{Path}
use Rattle.fib_resolve.specs.declared.types.PathKind.TheVariants as kinds
use Rattle.fib_resolve.specs.declared.types.Route.{Route}
use Rattle.fib_resolve.specs.declared.types.Tables.{Tables}
use Rattle.fib_resolve.proofs.Covering.{filter_in, filter_from}
use Rattle.fib_resolve.proofs.OneList.{one_list, source_by_rank}
use Rattle.fib_resolve_changes.specs.Affected.{is_own}
use Rattle.fib_resolve_changes.proofs.Addresses.{single, its_own, edge_of, edge_in, edges_own}
use Rattle.fib_resolve_changes.proofs.CauseLaws.{any_from}
use Rattle.fib_resolve_changes.proofs.Edits.{in_cases, in_front, in_rest, any_in, clash}
use Rattle.fib_resolve_changes.proofs.SamePairs.{map_in, map_from, flat_map_from, from_origin, base}
use Rattle.fib_entries_rows.proofs.Telling.{from_pair}
use Rattle.fib_follow_pairs.specs.Fresh.{ArePairsAt}
use Rattle.fib_follow_pairs.specs.inner.Parts.{IsPart, special_prefixes, is_special, special_at, is_connected, is_edge, connected_at}
use Rattle.fib_follow_pairs.specs.inner.Parts.{host_at, own_at, written_at, default_at, base_at}
use Rattle.fib_follow_pairs.proofs.Joining.{there, nowhere, none_first, joined, skipped, finished}

-- where a base pair comes from
pub data BaseOrigin (S : Tables) (x : Pair) : Type 0 where
  everywhere : one everything sources.DefaultRoute kinds.Drop ≡ x → BaseOrigin S x
  special : (q : Prefix) → Contains special_prefixes q → one q sources.Special kinds.Drop ≡ x → BaseOrigin S x
  connected : (a : Address) → Contains S.addresses a → nat_lt a.len 32 ≡ true
      → one (masked a.addr a.len) sources.Interface (kinds.Attached a.interface) ≡ x → BaseOrigin S x
  local : (a : Address) → Contains S.addresses a → one (host a.addr) sources.Interface kinds.Local ≡ x → BaseOrigin S x
  edge : (a : Address) (y : ℕ) → Contains S.addresses a → Contains (edge_addresses a) y → is_address S.addresses y ≡ false
      → one (host y) sources.Interface kinds.Drop ≡ x → BaseOrigin S x
  route : (r : Route) → Contains S.routes r → route_pair r ≡ x → BaseOrigin S x

when_in : (b : Bool) (y x : Pair) → Contains (cond b (y ∷ []) []) x → (b ≡ true) × (y ≡ x)
when_in true y x c = (refl, single y x c)
when_in false y x c = absurd (Contains-nil x c)

when_there : (b : Bool) (y : Pair) → b ≡ true → Contains (cond b (y ∷ []) []) y
when_there true y h = in_front y y [] refl
when_there false y h = absurd (false≢true h)

pub base_origin : (S : Tables) (x : Pair) → Contains (base_pairs S) x → BaseOrigin S x
unfolding base_pairs
base_origin S x c =
    elim (Contains-append_cases (fixed_pairs ++ flat_map connected_pairs S.addresses ++ flat_map (edge_pairs S.addresses) S.addresses)
    (map route_pair S.routes) x c) [
      | inr written ↦ (let r = map_from route_pair S.routes x written in route r.0 r.1 r.2)
      | inl early ↦ elim (Contains-append_cases (fixed_pairs ++ flat_map connected_pairs S.addresses) (flat_map (edge_pairs S.addresses) S.addresses) x early) [
        | inr edges ↦ (let r = flat_map_from (edge_pairs S.addresses) S.addresses x edges in
            let e = flat_map_from (edge_pair S.addresses) (edge_addresses r.0) x r.2 in
            let p = edge_of S.addresses e.0 x e.2 in
            edge r.0 e.0 r.1 e.1 p.0 p.1)
        | inl first ↦ elim (Contains-append_cases fixed_pairs (flat_map connected_pairs S.addresses) x first) [
          | inl fixed ↦ elim (in_cases (one everything sources.DefaultRoute kinds.Drop) x
              (map (λ q. one q sources.Special kinds.Drop) special_prefixes) fixed) [
                | inl is ↦ everywhere is
                | inr rest ↦ (let r = map_from (λ q. one q sources.Special kinds.Drop) special_prefixes x rest in special r.0 r.1 r.2)
              ]
          | inr near ↦ (let r = flat_map_from connected_pairs S.addresses x near in
              elim (Contains-append_cases (cond (nat_lt r.0.len 32) (one (masked r.0.addr r.0.len) sources.Interface (kinds.Attached r.0.interface) ∷ []) []) (one (host r.0.addr) sources.Interface kinds.Local ∷ []) x r.2) [
                | inl wide ↦ (let w = when_in (nat_lt r.0.len 32) _ x wide in connected r.0 r.1 w.0 w.1)
                | inr itself ↦ local r.0 r.1 (single _ x itself)
              ])
        ]
      ]
    ]

in_fixed : (S : Tables) (x : Pair) → Contains fixed_pairs x → Contains (base_pairs S) x
unfolding base_pairs
in_fixed S x c =
    Contains-append_left (fixed_pairs ++ flat_map connected_pairs S.addresses ++ flat_map (edge_pairs S.addresses) S.addresses) (map route_pair S.routes) x
    (Contains-append_left (fixed_pairs ++ flat_map connected_pairs S.addresses) (flat_map (edge_pairs S.addresses) S.addresses) x
    (Contains-append_left fixed_pairs (flat_map connected_pairs S.addresses) x c))

in_connected : (S : Tables) (x : Pair) (a : Address) → Contains S.addresses a → Contains (connected_pairs a) x → Contains (base_pairs S) x
unfolding base_pairs
in_connected S x a at c =
    Contains-append_left (fixed_pairs ++ flat_map connected_pairs S.addresses ++ flat_map (edge_pairs S.addresses) S.addresses) (map route_pair S.routes) x
    (Contains-append_left (fixed_pairs ++ flat_map connected_pairs S.addresses) (flat_map (edge_pairs S.addresses) S.addresses) x
    (Contains-append_right fixed_pairs (flat_map connected_pairs S.addresses) x (Contains-flat_map connected_pairs S.addresses a x at c)))

in_edges : (S : Tables) (x : Pair) (a : Address) → Contains S.addresses a → Contains (edge_pairs S.addresses a) x → Contains (base_pairs S) x
unfolding base_pairs
in_edges S x a at c =
    Contains-append_left (fixed_pairs ++ flat_map connected_pairs S.addresses ++ flat_map (edge_pairs S.addresses) S.addresses) (map route_pair S.routes) x
    (Contains-append_right (fixed_pairs ++ flat_map connected_pairs S.addresses) (flat_map (edge_pairs S.addresses) S.addresses) x
    (Contains-flat_map (edge_pairs S.addresses) S.addresses a x at c))

in_routes : (S : Tables) (x : Pair) (r : Route) → Contains S.routes r → route_pair r ≡ x → Contains (base_pairs S) x
unfolding base_pairs
in_routes S x r at is =
    Contains-append_right (fixed_pairs ++ flat_map connected_pairs S.addresses ++ flat_map (edge_pairs S.addresses) S.addresses) (map route_pair S.routes) x
    (subst (Contains (map route_pair S.routes)) is (map_in route_pair S.routes r at))

abbrev wide_pairs : Address → List Pair
wide_pairs a = cond (nat_lt a.len 32) (one (masked a.addr a.len) sources.Interface (kinds.Attached a.interface) ∷ []) []

abbrev local_pairs : Address → List Pair
local_pairs a = one (host a.addr) sources.Interface kinds.Local ∷ []

abbrev dropped : Prefix → Pair
dropped q = one q sources.Special kinds.Drop

pub from_base_origin : (S : Tables) (x : Pair) → BaseOrigin S x → Contains (base_pairs S) x
from_base_origin S x (everywhere is) = in_fixed S x (in_front (one everything sources.DefaultRoute kinds.Drop) x (map dropped special_prefixes) is)
from_base_origin S x (special q c is) =
    in_fixed S x (in_rest (one everything sources.DefaultRoute kinds.Drop) x (map dropped special_prefixes)
    (subst (Contains (map dropped special_prefixes)) is (map_in dropped special_prefixes q c)))
from_base_origin S x (connected a c wide is) =
    in_connected S x a c (Contains-append_left (wide_pairs a) (local_pairs a) x
    (subst (Contains (wide_pairs a)) is (when_there (nat_lt a.len 32) (one (masked a.addr a.len) sources.Interface (kinds.Attached a.interface)) wide)))
from_base_origin S x (local a c is) =
    in_connected S x a c (Contains-append_right (wide_pairs a) (local_pairs a) x (in_front (one (host a.addr) sources.Interface kinds.Local) x [] is))
from_base_origin S x (edge a y c e none is) =
    in_edges S x a c (Contains-flat_map (edge_pair S.addresses) (edge_addresses a) y x e (edge_in S.addresses y x none is))
from_base_origin S x (route r c is) = in_routes S x r c is

pub one_pair : (S : Tables) → IsSound S → (x y : Pair) → Contains (pairs S) x → Contains (pairs S) y → x.prefix ≡ y.prefix → x.source ≡ y.source → x ≡ y
one_pair S sound x y c d p s = from_pair x y p s (one_list S sound x y c d p s)

pub one_base_pair : (S : Tables) → IsSound S → (x y : Pair) → Contains (base_pairs S) x → Contains (base_pairs S) y → x.prefix ≡ y.prefix
    → x.source ≡ y.source → x ≡ y
one_base_pair S sound x y c d p s = one_pair S sound x y (from_origin S x (base c)) (from_origin S y (base d)) p s

pub sound_route : (S : Tables) → IsSound S → (r : Route) → Contains S.routes r → IsSoundRoute (length S.interfaces) r
sound_route S h r c = All-contains (IsSoundRoute (length S.interfaces)) S.routes r (All-from_recursion (IsSoundRoute (length S.interfaces)) S.routes h.routes) c

-- sources by their numbers, for they are apart where these are
abbrev RankIs : Pair → ℕ → Type 0
RankIs x n = source_rank x.source ≡ n

rank_of : (x y : Pair) (n : ℕ) → x ≡ y → source_rank x.source ≡ n → RankIs y n
rank_of x y n is h = sym (ap (λ z. source_rank z.source) is) ∙ h

route_rank : (r : Route) (x : Pair) → (r.source ≡ sources.Api) ⊎ (r.source ≡ sources.Cli) → route_pair r ≡ x → RankIs x 2 ⊎ RankIs x 3
route_rank r x (inl api) is = inl (rank_of (route_pair r) x 2 is (ap source_rank api))
route_rank r x (inr cli) is = inr (rank_of (route_pair r) x 3 is (ap source_rank cli))

-- a base pair is of an early source, or that of the default route
pub base_rank : (S : Tables) → IsSound S → (x : Pair) → BaseOrigin S x → (source_rank x.source < 4) ⊎ (RankIs x 6 × (everything ≡ x.prefix))
base_rank S sound x (everywhere is) = inr (rank_of _ x 6 is refl, ap (λ z. z.prefix) is)
base_rank S sound x (special q c is) = inl (let r = rank_of _ x 0 is refl in omega (arith, r))
base_rank S sound x (connected a c wide is) = inl (let r = rank_of _ x 1 is refl in omega (arith, r))
base_rank S sound x (local a c is) = inl (let r = rank_of _ x 1 is refl in omega (arith, r))
base_rank S sound x (edge a y c e none is) = inl (let r = rank_of _ x 1 is refl in omega (arith, r))
base_rank S sound x (route r c is) = elim
    (route_rank r x (sound_route S sound r c).written is) [ inl api ↦ inl (omega (arith, api)) | inr cli ↦ inl (omega (arith, cli)) ]

apart : (x : Pair) (s : FibSource) (m n : ℕ) → s ≡ x.source → source_rank s ≡ m → RankIs x n → m ≢ n → ⊥
apart x s m n is at r other = other (sym at ∙ ap source_rank is ∙ r)

module _ (S : Tables) (sound : IsSound S) (p : Prefix) where
  -- the prefixes that every table has dropped
  special_none : is_special p ≡ false → (x : Pair) → BaseOrigin S x → p ≡ x.prefix → sources.Special ≡ x.source → ⊥
  special_none none x (everywhere is) own at = apart x sources.Special 0 6 at refl (rank_of _ x 6 is refl) (omega arith)
  special_none none x (special q c is) own at = clash (is_special p)
      (any_in (same_prefix p) special_prefixes q c ((same_prefix-Decides p q).1 (own ∙ sym (ap (λ z. z.prefix) is)))) none
  special_none none x (connected a c wide is) own at = apart x sources.Special 0 1 at refl (rank_of _ x 1 is refl) (omega arith)
  special_none none x (local a c is) own at = apart x sources.Special 0 1 at refl (rank_of _ x 1 is refl) (omega arith)
  special_none none x (edge a y c e free is) own at = apart x sources.Special 0 1 at refl (rank_of _ x 1 is refl) (omega arith)
  special_none none x (route r c is) own at = elim (route_rank r x (sound_route S sound r c).written is) [
    | inl api ↦ apart x sources.Special 0 2 at refl api (omega arith)
    | inr cli ↦ apart x sources.Special 0 3 at refl cli (omega arith)
  ]

  pub special_part : IsPart (base_pairs S) p sources.Special (special_at p)
  special_part = elim (either (is_special p)) [
    | inl is ↦ (let r = any_from (same_prefix p) special_prefixes is in
        let q = (same_prefix-Decides p r.0).0 r.2 in
        rw is (there (base_pairs S) p sources.Special (one p sources.Special kinds.Drop) (one_base_pair S sound)
        (from_base_origin S (one p sources.Special kinds.Drop) (special r.0 r.1 (ap (λ z. one z sources.Special kinds.Drop) (sym q)))) refl refl))
    | inr isnt ↦ rw isnt (nowhere (base_pairs S) p sources.Special (λ x c. special_none isnt x (base_origin S x c)))
  ]

  -- that of all addresses
  default_none : same_prefix p everything ≡ false → (x : Pair) → Contains (base_pairs S) x → p ≡ x.prefix → sources.DefaultRoute ≡ x.source → ⊥
  default_none none x c own at = elim (base_rank S sound x (base_origin S x c)) [
    | inl low ↦ (let r = ap source_rank at in omega (arith, r, low))
    | inr last ↦ clash (same_prefix p everything) ((same_prefix-Decides p everything).1 (own ∙ sym last.1)) none
  ]

  pub default_part : IsPart (base_pairs S) p sources.DefaultRoute (default_at p)
  default_part = elim (either (same_prefix p everything)) [
    | inl is ↦ rw is (there (base_pairs S) p sources.DefaultRoute (one p sources.DefaultRoute kinds.Drop) (one_base_pair S sound)
        (from_base_origin S (one p sources.DefaultRoute kinds.Drop)
        (everywhere (ap (λ z. one z sources.DefaultRoute kinds.Drop) (sym ((same_prefix-Decides p everything).0 is))))) refl refl)
    | inr isnt ↦ rw isnt (nowhere (base_pairs S) p sources.DefaultRoute (default_none isnt))
  ]

  -- a route of it
  pub found_route : (s : FibSource) (rs : List Route) (q : Path) (qs : List Path) → paths_at p s rs ≡ q ∷ qs
      → (r : Route) × Contains rs r × (r.prefix ≡ p) × (r.source ≡ s) × (r.paths ≡ q ∷ qs)
  found_route s [] q qs h = absurd (cc)
  found_route s (r ∷ rs) q qs h = elim (either (is_route p s r)) [
    | inl is ↦ (let both = and_both (same_prefix r.prefix p) (source_rank r.source == source_rank s) is in (
      r,
      in_front r r rs refl,
      (same_prefix-Decides r.prefix p).0 both.0,
      source_by_rank r.source s ((Decides-eqb (source_rank r.source) (source_rank s)).0 both.1),
      rw is at h,
    ))
    | inr isnt ↦ (let f = found_route s rs q qs (rw isnt at h) in (f.0, in_rest r f.0 rs f.1, f.2, f.3, f.4))
  ]

  pub no_route : (s : FibSource) (rs : List Route) → AllByRecursion (λ r. 0 < length r.paths) rs → paths_at p s rs ≡ [] → (r : Route)
      → Contains rs r → r.prefix ≡ p → r.source ≡ s → ⊥
  no_route s [] some none r c on of = Contains-nil r c
  no_route s (x ∷ xs) some none r c on of = elim (either (is_route p s x)) [
    | inl is ↦ (let few : length x.paths ≡ 0 = ap length (rw is at none) in let more = some.0 in omega (arith, few, more))
    | inr isnt ↦ elim (in_cases x r xs c) [
      | inl same ↦ clash (is_route p s x)
          (rw (
            (same_prefix-Decides x.prefix p).1 (ap (λ z. z.prefix) same ∙ on),
            (Decides-eqb (source_rank x.source) (source_rank s)).1
                (ap (λ z. source_rank z.source) same ∙ ap source_rank of),
          ) refl) isnt
      | inr later ↦ no_route s xs some.1 (rw isnt at none) r later on of
    ]
  ]

  written_rank : (s : FibSource) → (s ≡ sources.Api) ⊎ (s ≡ sources.Cli) → (source_rank s ≡ 2) ⊎ (source_rank s ≡ 3)
  written_rank s (inl api) = inl (ap source_rank api)
  written_rank s (inr cli) = inr (ap source_rank cli)

  of_route : (s : FibSource) (x : Pair) (n : ℕ) → (source_rank s ≡ 2) ⊎ (source_rank s ≡ 3) → s ≡ x.source → RankIs x n → (n < 2) ⊎ (3 < n) → ⊥
  of_route s x n w at r far = (let k = ap source_rank at in elim w [
    | inl two ↦ elim far [ inl lt ↦ omega (arith, two, k, r, lt) | inr gt ↦ omega (arith, two, k, r, gt) ]
    | inr three ↦ elim far [ inl lt ↦ omega (arith, three, k, r, lt) | inr gt ↦ omega (arith, three, k, r, gt) ]
  ])

  some_paths : (s : FibSource) → (s ≡ sources.Api) ⊎ (s ≡ sources.Cli) → (x : Pair) → BaseOrigin S x → p ≡ x.prefix → s ≡ x.source
      → paths_at p s S.routes ≡ [] → ⊥
  some_paths s w x (everywhere is) own at none = of_route s x 6 (written_rank s w) at (rank_of _ x 6 is refl) (inr (omega arith))
  some_paths s w x (special q c is) own at none = of_route s x 0 (written_rank s w) at (rank_of _ x 0 is refl) (inl (omega arith))
  some_paths s w x (connected a c wide is) own at none = of_route s x 1 (written_rank s w) at (rank_of _ x 1 is refl) (inl (omega arith))
  some_paths s w x (local a c is) own at none = of_route s x 1 (written_rank s w) at (rank_of _ x 1 is refl) (inl (omega arith))
  some_paths s w x (edge a y c e free is) own at none = of_route s x 1 (written_rank s w) at (rank_of _ x 1 is refl) (inl (omega arith))
  some_paths s w x (route r c is) own at none =
      no_route s S.routes (each-weaker (IsSoundRoute (length S.interfaces)) (λ q. 0 < length q.paths) (λ q h. h.some) S.routes sound.routes) none r c
      (ap (λ z. z.prefix) is ∙ sym own) (ap (λ z. z.source) is ∙ sym at)

  pub written_part : (s : FibSource) → (s ≡ sources.Api) ⊎ (s ≡ sources.Cli) → IsPart (base_pairs S) p s (written_at p s (paths_at p s S.routes))
  written_part s w = by (paths_at p s S.routes) refl
    where
      by : (ps : List Path) → paths_at p s S.routes ≡ ps → IsPart (base_pairs S) p s (written_at p s ps)
      by [] e = nowhere (base_pairs S) p s (λ x c own at. some_paths s w x (base_origin S x c) own at e)
      by (q ∷ qs) e =
          let f = found_route s S.routes q qs e in
          there (base_pairs S) p s (record { prefix = p; source = s; paths = q ∷ qs }) (one_base_pair S sound)
          (from_base_origin S (record { prefix = p; source = s; paths = q ∷ qs })
          (route f.0 f.1 (from_pair (route_pair f.0) (record { prefix = p; source = s; paths = q ∷ qs }) f.2 f.3 f.4))) refl refl

  -- what the interfaces' addresses make of it
  module _ (xs : List Address) (some : (a : Address) → Contains xs a ↔ Contains S.addresses a × (is_own a p ≡ true)) where
    of_address : (x : Pair) → BaseOrigin S x → sources.Interface ≡ x.source → (n : ℕ) → RankIs x n → n ≢ 1 → ⊥
    of_address x o at n r other = (let k = ap source_rank at in other (sym r ∙ sym k))

    not_connected : find (is_connected p) xs ≡ None → (a : Address) → Contains S.addresses a → nat_lt a.len 32 ≡ true → p ≡ masked a.addr a.len → ⊥
    not_connected none a c wide is =
        let own = its_own a (masked a.addr a.len) p (0, omega arith, refl) (sym is) in
        let passes : is_connected p a ≡ true = rw (wide, (same_prefix-Decides (masked a.addr a.len) p).1 (sym is)) refl in
        lacks (is_connected p) xs a none ((some a).1 (c, own)) passes
      where
        lacks : (test : Address → Bool) (ys : List Address) (b : Address) → find test ys ≡ None → Contains ys b → test b ≡ true → ⊥
        lacks test [] b e k t = Contains-nil b k
        lacks test (y ∷ ys) b e k t = elim (either (test y)) [
          | inl is_it ↦ absurd (let bad : Some y ≡ None = rw is_it at e in cc)
          | inr isnt ↦ elim (in_cases y b ys k) [
            | inl same ↦ clash (test y) (subst (λ z. test z ≡ true) (sym same) t) isnt
            | inr later ↦ lacks test ys b (rw isnt at e) later t
          ]
        ]

    short_none : p.len < 32 → find (is_connected p) xs ≡ None → (x : Pair) → BaseOrigin S x → p ≡ x.prefix → sources.Interface ≡ x.source → ⊥
    short_none short none x (everywhere is) own at = apart x sources.Interface 1 6 at refl (rank_of _ x 6 is refl) (omega arith)
    short_none short none x (special q c is) own at = apart x sources.Interface 1 0 at refl (rank_of _ x 0 is refl) (omega arith)
    short_none short none x (connected a c wide is) own at = not_connected none a c wide (own ∙ sym (ap (λ z. z.prefix) is))
    short_none short none x (local a c is) own at = (let l = ap (λ z. z.len) (own ∙ sym (ap (λ z. z.prefix) is)) in omega (arith, l, short))
    short_none short none x (edge a y c e free is) own at = (let l = ap (λ z. z.len) (own ∙ sym (ap (λ z. z.prefix) is)) in omega (arith, l, short))
    short_none short none x (route r c is) own at = elim (route_rank r x (sound_route S sound r c).written is) [
      | inl api ↦ apart x sources.Interface 1 2 at refl api (omega arith)
      | inr cli ↦ apart x sources.Interface 1 3 at refl cli (omega arith)
    ]

    short_own : p.len < 32 → IsPart (base_pairs S) p sources.Interface (connected_at p (find (is_connected p) xs))
    short_own short = by (find (is_connected p) xs) refl
      where
        by : (o : Option Address) → find (is_connected p) xs ≡ o → IsPart (base_pairs S) p sources.Interface (connected_at p o)
        by None e = nowhere (base_pairs S) p sources.Interface (λ x c own at. short_none short e x (base_origin S x c) own at)
        by (Some a) e =
            let f = find_place (is_connected p) xs a e in
            let both = and_both (nat_lt a.len 32) (same_prefix (masked a.addr a.len) p) f.2 in
            let at = (same_prefix-Decides (masked a.addr a.len) p).0 both.1 in
            there (base_pairs S) p sources.Interface (one p sources.Interface (kinds.Attached a.interface)) (one_base_pair S sound)
            (from_base_origin S (one p sources.Interface (kinds.Attached a.interface))
            (connected a ((some a).0 (contains_at xs f.0 a f.1)).0 both.0 (ap (λ z. one z sources.Interface (kinds.Attached a.interface)) at))) refl refl

    host_of : p.len ≡ 32 → host p.bits ≡ p
    host_of long = same_fields (host p.bits) p (refl, sym long)

    -- the addresses of the list that are the host's own are all that are
    own_address : p.len ≡ 32 → is_address xs p.bits ≡ false → (b : Address) → Contains S.addresses b → (b.addr == p.bits) ≡ true → ⊥
    own_address long none b c t =
        let at : b.addr ≡ p.bits = (Decides-eqb b.addr p.bits).0 t in
        let own = its_own b (host b.addr) p (1, omega arith, refl) (ap host at ∙ host_of long) in
        clash (is_address xs p.bits) (any_in (λ z. z.addr == p.bits) xs b ((some b).1 (c, own)) t) none

    no_address : p.len ≡ 32 → is_address xs p.bits ≡ false → is_address S.addresses p.bits ≡ false
    no_address long none = elim (either (is_address S.addresses p.bits)) [
      | inr isnt ↦ isnt
      | inl is ↦ (let r = any_from (λ z. z.addr == p.bits) S.addresses is in absurd (own_address long none r.0 r.1 r.2))
    ]

    host_none : p.len ≡ 32 → is_address xs p.bits ≡ false → list_any (is_edge p.bits) xs ≡ false → (x : Pair) → BaseOrigin S x
        → p ≡ x.prefix → sources.Interface ≡ x.source → ⊥
    host_none long none edges x (everywhere is) own at = apart x sources.Interface 1 6 at refl (rank_of _ x 6 is refl) (omega arith)
    host_none long none edges x (special q c is) own at = apart x sources.Interface 1 0 at refl (rank_of _ x 0 is refl) (omega arith)
    host_none long none edges x (connected a c wide is) own at =
        (let l = ap (λ z. z.len) (own ∙ sym (ap (λ z. z.prefix) is)) in let lt = ltb-true a.len 32 wide in omega (arith, l, lt, long))
    host_none long none edges x (local a c is) own at = own_address long none a c
        ((Decides-eqb a.addr p.bits).1 (sym (ap (λ z. z.bits) (own ∙ sym (ap (λ z. z.prefix) is)))))
    host_none long none edges x (edge a y c e free is) own at =
        let bits : p.bits ≡ y = ap (λ z. z.bits) (own ∙ sym (ap (λ z. z.prefix) is)) in
        let mine : is_own a p ≡ true = subst (λ z. is_own a z ≡ true) (ap (λ z. z.prefix) is ∙ sym own) (edges_own a y e) in
        let passes : is_edge p.bits a ≡ true = any_in (λ z. z == p.bits) (edge_addresses a) y e ((Decides-eqb y p.bits).1 (sym bits)) in
        clash (list_any (is_edge p.bits) xs) (any_in (is_edge p.bits) xs a ((some a).1 (c, mine)) passes) edges
    host_none long none edges x (route r c is) own at = elim (route_rank r x (sound_route S sound r c).written is) [
      | inl api ↦ apart x sources.Interface 1 2 at refl api (omega arith)
      | inr cli ↦ apart x sources.Interface 1 3 at refl cli (omega arith)
    ]

    host_own : p.len ≡ 32 → IsPart (base_pairs S) p sources.Interface (host_at p (is_address xs p.bits) (list_any (is_edge p.bits) xs))
    host_own long = by (is_address xs p.bits) (list_any (is_edge p.bits) xs) refl refl
      where
        by : (b c : Bool) → is_address xs p.bits ≡ b → list_any (is_edge p.bits) xs ≡ c → IsPart (base_pairs S) p sources.Interface (host_at p b c)
        by true c e f =
            let r = any_from (λ z. z.addr == p.bits) xs e in
            let at : host r.0.addr ≡ p = ap host ((Decides-eqb r.0.addr p.bits).0 r.2) ∙ host_of long in
            there (base_pairs S) p sources.Interface (one p sources.Interface kinds.Local) (one_base_pair S sound)
            (from_base_origin S (one p sources.Interface kinds.Local)
            (local r.0 ((some r.0).0 r.1).0 (ap (λ z. one z sources.Interface kinds.Local) at))) refl refl
        by false true e f =
            let r = any_from (is_edge p.bits) xs f in
            let y = any_from (λ z. z == p.bits) (edge_addresses r.0) r.2 in
            let is : y.0 ≡ p.bits = (Decides-eqb y.0 p.bits).0 y.2 in
            let free : is_address S.addresses y.0 ≡ false = subst (λ z. is_address S.addresses z ≡ false) (sym is) (no_address long e) in
            there (base_pairs S) p sources.Interface (one p sources.Interface kinds.Drop) (one_base_pair S sound)
            (from_base_origin S (one p sources.Interface kinds.Drop)
            (edge r.0 y.0 ((some r.0).0 r.1).0 y.1 free
            (ap (λ z. one z sources.Interface kinds.Drop) (ap host is ∙ host_of long)))) refl refl
        by false false e f = nowhere (base_pairs S) p sources.Interface (λ x c own at. host_none long e f x (base_origin S x c) own at)

    pub own_part : p.len ≤ 32 → IsPart (base_pairs S) p sources.Interface (own_at p xs)
    unfolding own_at
    own_part fits = elim (either (nat_lt p.len 32)) [
      | inl is ↦ rw is (short_own (ltb-true p.len 32 is))
      | inr isnt ↦ rw isnt (host_own (let ge = ltb-false p.len 32 isnt in omega (arith, ge, fits)))
    ]

  filtered : (a : Address) → Contains (filter (λ z. is_own z p) S.addresses) a ↔ Contains S.addresses a × (is_own a p ≡ true)
  filtered a = (λ c. filter_from (λ z. is_own z p) S.addresses a c, λ h. filter_in (λ z. is_own z p) S.addresses a h.0 h.1)

  no_late : (s : FibSource) → 3 < source_rank s → source_rank s < 6 → (x : Pair) → Contains (base_pairs S) x → p ≡ x.prefix → s ≡ x.source → ⊥
  no_late s low high x c own at = (let k = ap source_rank at in elim (base_rank S sound x (base_origin S x c)) [
    | inl early ↦ omega (arith, k, low, early)
    | inr last ↦ (let r = last.0 in omega (arith, k, high, r))
  ])

  -- the base pairs of the prefix, by look-ups
  pub base_is : p.len ≤ 32 → ArePairsAt (base_pairs S) p (base_at S p)
  unfolding base_at
  base_is fits =
      let own = own_at p (filter (λ a. is_own a p) S.addresses) in
      let api = written_at p sources.Api (paths_at p sources.Api S.routes) in
      let cli = written_at p sources.Cli (paths_at p sources.Cli S.routes) in
      let zero_done = joined (base_pairs S) p sources.Special 0 [] (special_at p) (none_first (base_pairs S) p) special_part refl in
      let one_done = joined (base_pairs S) p sources.Interface 1 (special_at p) own zero_done
      (own_part (filter (λ a. is_own a p) S.addresses) filtered fits) refl in
      let two_done = joined (base_pairs S) p sources.Api 2 (special_at p ++ own) api one_done (written_part sources.Api (inl refl)) refl in
      let three_done = joined (base_pairs S) p sources.Cli 3 (special_at p ++ own ++ api) cli two_done (written_part sources.Cli (inr refl)) refl in
      let four_done = skipped (base_pairs S) p sources.Adjacency 4 (special_at p ++ own ++ api ++ cli) three_done
      (no_late sources.Adjacency (omega arith) (omega arith)) refl in
      let five_done = skipped (base_pairs S) p sources.RecursiveResolution 5 (special_at p ++ own ++ api ++ cli) four_done
      (no_late sources.RecursiveResolution (omega arith) (omega arith)) refl in
      finished (base_pairs S) p (special_at p ++ own ++ api ++ cli ++ default_at p)
      (joined (base_pairs S) p sources.DefaultRoute 6 (special_at p ++ own ++ api ++ cli) (default_at p) five_done default_part refl)

pub each_short : (xs : List Address) (test : Address → Bool) → All (λ a. a.len ≤ 32) xs → AllByRecursion (λ a. a.len ≤ 32) (filter test xs)
each_short xs test h = each-weaker (λ a. (a.len ≤ 32) × (test a ≡ true)) (λ a. a.len ≤ 32) (λ a k. k.0) (filter test xs)
    (each-filter (λ a. a.len ≤ 32) test xs (recursion_from_All (λ a. a.len ≤ 32) xs h))
