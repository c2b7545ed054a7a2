-- What changes name is told by rows and by the tables after them.
use Rattle.std.proofs.Common.{◌≡◌, ℕ, ◌<◌, ◌==◌, ◌&&◌, ◌||◌, true, List, [], ◌∷◌, length, Option, Some, None}
use Rattle.std.proofs.Common.{inl, inr, refl, sym, ◌∙◌, ap, ap₂, subst, ◌↔◌}
use Rattle.std.specs.Prelude.{Contains, filter_map}
use Rattle.std.specs.List.{AllByRecursion, list_any}
use Rattle.std.proofs.lemmas.Bool.{false≢true}
use Rattle.std.proofs.lemmas.Bool.Decides.{Decides-eqb}
use Rattle.fib_base_list.proofs.Lists.{either, each-weaker, Contains-nil}
use Rattle.fib_base_list.proofs.Booleans.{and_both, or_cases, or_left, or_right}
use Rattle.fib_base_interned.proofs.Finding.{none_some}
use Rattle.fib_addr.specs.Prefixes.{Prefix, host, same_prefix}
use Rattle.fib_addr.proofs.PrefixLaws.{same_prefix-Decides}
use Rattle.fib_cover.specs.Covers as covers
use Rattle.fib_resolve.specs.Edits.{paths_at}
use Rattle.fib_resolve.specs.Keys.{source_rank}
use Rattle.fib_resolve.specs.Pairs.{one, plain, route_pair, recursive_of, recursive_kind, recursive_hops, derived_pair, derived_kind, attached_by}
use Rattle.fib_resolve.specs.Tables.{IsSound, IsSoundRoute, is_route}
use Rattle.fib_resolve.specs.declared.pairs.Pair.{Pair}
use Rattle.fib_resolve.specs.declared.types.FibSource.{FibSource}
use Rattle.fib_resolve.specs.declared.types.Path.{Path}
use Rattle.fib_resolve.specs.declared.types.PathKind.{PathKind}
use Rattle.fib_resolve.specs.declared.types.Route.{Route}
use Rattle.fib_resolve.specs.declared.types.Tables.{Tables}
use Rattle.fib_resolve.proofs.OneList.{one_list, source_by_rank}
use Rattle.fib_resolve_changes.specs.Affected.{has_hop}
use Rattle.fib_resolve_changes.specs.Named.{hop_at, hop_in, near_at, near_in, own_at}
use Rattle.fib_resolve_changes.specs.declared.change.Change.{Change}
use Rattle.fib_resolve_changes.specs.declared.change.Change.TheVariants as changes
use Rattle.fib_resolve_changes.proofs.CauseLaws.{any_from}
use Rattle.fib_resolve_changes.proofs.Edits.{in_cases, in_front, in_rest, any_in, clash}
use Rattle.fib_resolve_changes.proofs.SamePairs.{Origin, origin, from_origin, base, neighbor, derived, near_from, near_is}
use Rattle.fib_entries_rows.specs.Known.{Known, PathKept, ArePairs, StandsFor, content_of, row_of}
use Rattle.fib_entries_rows.specs.Rows.{Row}
use Rattle.fib_entries_rows.proofs.Standing.{pairs_at, no_pairs}
use Rattle.fib_follow_pairs.specs.inner.Compared.{content_or}
use Rattle.fib_follow_pairs.proofs.BaseParts.{BaseOrigin, base_origin, everywhere, special, connected, local, edge, route}
use Rattle.fib_follow_pairs.proofs.BaseParts.{found_route, from_base_origin, no_route, one_base_pair}
use Rattle.fib_follow_looked.specs.Looks.{AreNamed, IsNamed, led_at}
use Rattle.fib_follow_looked.specs.declared.named.Named.{Named}
use Rattle.fib_follow_looked.specs.inner.Adding.{AddsEach}
use Rattle.fib_follow_looked.specs.inner.Naming.{are_hops, is_hop, leads, list_held, list_in, names, old_paths}

-- the test of a next hop's host
told_hop : (a b : ℕ) → same_prefix (host a) (host b) ≡ (b == a)
told_hop a b = elim (either (b == a)) [
  | inl is ↦ (same_prefix-Decides (host a) (host b)).1 (ap host (sym ((Decides-eqb b a).0 is))) ∙ sym is
  | inr isnt ↦ elim (either (same_prefix (host a) (host b))) [
    | inl t ↦ absurd (clash (b == a) ((Decides-eqb b a).1 (sym (ap (λ z. z.bits) ((same_prefix-Decides (host a) (host b)).0 t)))) isnt)
    | inr f ↦ f ∙ sym isnt
  ]
]

hops_same : (ps : List Path) (a : ℕ) → list_any (λ b. b == a) (filter_map recursive_of ps) ≡ are_hops ps (host a)
hops_same [] a = refl
hops_same (p ∷ ps) a = by (recursive_of p) refl (hops_same ps a)
  where
    by : (o : Option ℕ) → recursive_of p ≡ o → list_any (λ b. b == a) (filter_map recursive_of ps) ≡ are_hops ps (host a)
        → list_any (λ b. b == a) (filter_map recursive_of (p ∷ ps)) ≡ are_hops (p ∷ ps) (host a)
    by None e rest = rw e rest
    by (Some b) e rest = rw e (ap₂ (λ x y. x || y) (sym (told_hop a b)) rest)

-- what is the host of a next hop is one
hop_of : (o : Option ℕ) (q : Prefix) → is_hop o q ≡ true → (a : ℕ) × (q ≡ host a)
hop_of None q h = absurd (false≢true h)
hop_of (Some a) q h = (a, (same_prefix-Decides q (host a)).0 h)

pub hops_of : (ps : List Path) (q : Prefix) → are_hops ps q ≡ true → (a : ℕ) × (q ≡ host a)
hops_of ps q h = (let w = any_from (λ p. is_hop (recursive_of p) q) ps h in hop_of (recursive_of w.0) q w.2)

is_its : (p : Prefix) (s : FibSource) (r : Route) → r.prefix ≡ p → r.source ≡ s → is_route p s r ≡ true
is_its p s r on of = rw ((same_prefix-Decides r.prefix p).1 on, (Decides-eqb (source_rank r.source) (source_rank s)).1 (ap source_rank of)) refl

has_by : (p : Prefix) (s : FibSource) (rs : List Route) (r : Route) (a : ℕ) → Contains rs r → r.prefix ≡ p → r.source ≡ s
    → are_hops r.paths (host a) ≡ true → has_hop p s rs a ≡ true
has_by p s rs r a c on of h =
    any_in (λ z. is_route p s z && list_any (λ b. b == a) (recursive_hops z)) rs r c (rw (is_its p s r on of) (hops_same r.paths a ∙ h))

abbrev HasRoute : Prefix → FibSource → List Route → ℕ → Type 0
HasRoute p s rs a = (r : Route) × Contains rs r × (r.prefix ≡ p) × (r.source ≡ s) × (are_hops r.paths (host a) ≡ true)

by_has : (p : Prefix) (s : FibSource) (rs : List Route) (a : ℕ) → has_hop p s rs a ≡ true → HasRoute p s rs a
by_has p s rs a h =
    let w = any_from (λ z. is_route p s z && list_any (λ b. b == a) (recursive_hops z)) rs h in
    let both = and_both (is_route p s w.0) (list_any (λ b. b == a) (recursive_hops w.0)) w.2 in
    let own = and_both (same_prefix w.0.prefix p) (source_rank w.0.source == source_rank s) both.0 in (
      w.0,
      w.1,
      (same_prefix-Decides w.0.prefix p).0 own.0,
      source_by_rank w.0.source s ((Decides-eqb (source_rank w.0.source) (source_rank s)).0 own.1),
      sym (hops_same w.0.paths a) ∙ both.1,
    )

-- the list of a route, as tables have it
module _ (T : Tables) (sound : IsSound T) (p : Prefix) (s : FibSource) (a : ℕ) where
  some : AllByRecursion (λ q. 0 < length q.paths) T.routes
  some = each-weaker (IsSoundRoute (length T.interfaces)) (λ q. 0 < length q.paths) (λ q h. h.some) T.routes sound.routes

  has_of : are_hops (paths_at p s T.routes) (host a) ≡ true → has_hop p s T.routes a ≡ true
  has_of h = by (paths_at p s T.routes) refl h
    where
      by : (ps : List Path) → paths_at p s T.routes ≡ ps → are_hops ps (host a) ≡ true → has_hop p s T.routes a ≡ true
      by [] e k = absurd (false≢true k)
      by (q ∷ qs) e k =
          let f = found_route T sound p s T.routes q qs e in
          has_by p s T.routes f.0 a f.1 f.2 f.3 (ap (λ l. are_hops l (host a)) f.4 ∙ k)

  of_has : has_hop p s T.routes a ≡ true → are_hops (paths_at p s T.routes) (host a) ≡ true
  of_has h = (let w = by_has p s T.routes a h in by w (paths_at p s T.routes) refl)
    where
      by : HasRoute p s T.routes a → (ps : List Path) → paths_at p s T.routes ≡ ps → are_hops ps (host a) ≡ true
      by w [] e = absurd (no_route T sound p s T.routes some e w.0 w.1 w.2 w.3)
      by w (q ∷ qs) e =
          let f = found_route T sound p s T.routes q qs e in
          let mine = from_base_origin T (route_pair w.0) (route w.0 w.1 refl) in
          let found = from_base_origin T (route_pair f.0) (route f.0 f.1 refl) in
          let same = one_base_pair T sound (route_pair f.0) (route_pair w.0) found mine (f.2 ∙ sym w.2) (f.3 ∙ sym w.3) in
          ap (λ l. are_hops l (host a)) (sym f.4 ∙ ap (λ z. z.paths) same) ∙ w.4

  pub tables_tell : are_hops (paths_at p s T.routes) (host a) ≡ true ↔ (has_hop p s T.routes a ≡ true)
  tables_tell = (has_of, of_has)

-- a pair with a recursive path is a route's
plain_no : (prefix : Prefix) (source : FibSource) (kind : PathKind) (x : Pair) → one prefix source kind ≡ x → recursive_kind kind ≡ None
    → (p : Path) (b : ℕ) → Contains x.paths p → recursive_of p ≡ Some b → ⊥
plain_no prefix source kind x is none p b c at = elim (in_cases (plain kind) p [] (subst (λ z. Contains z.paths p) (sym is) c)) [
  | inl same ↦ none_some b (sym none ∙ (ap recursive_of same ∙ at))
  | inr nothing ↦ Contains-nil p nothing
]

derived_none : (a : ℕ) (o : Option ℕ) → recursive_kind (derived_kind a o) ≡ None
derived_none a None = refl
derived_none a (Some i) = refl

module _ (S : Tables) (x : Pair) (p : Path) (b : ℕ) (c : Contains x.paths p) (at : recursive_of p ≡ Some b) where
  abbrev OfRoute : Type 0
  OfRoute = (r : Route) × Contains S.routes r × (route_pair r ≡ x)

  base_written : BaseOrigin S x → OfRoute
  base_written (everywhere is) = absurd (plain_no _ _ _ x is refl p b c at)
  base_written (special q d is) = absurd (plain_no _ _ _ x is refl p b c at)
  base_written (connected a d wide is) = absurd (plain_no _ _ _ x is refl p b c at)
  base_written (local a d is) = absurd (plain_no _ _ _ x is refl p b c at)
  base_written (edge a y d e free is) = absurd (plain_no _ _ _ x is refl p b c at)
  base_written (route r d is) = (r, d, is)

  written : Origin S x → OfRoute
  unfolding derived_pair
  written (base own) = base_written (base_origin S x own)
  written (neighbor n d near) = absurd (plain_no _ _ _ x (sym (near_is n.addr n.interface) ∙ (near_from S n x near).1) refl p b c at)
  written (derived a d is) = absurd (plain_no _ _ _ x is (derived_none a (attached_by S a)) p b c at)

-- the list that a row has of a source
module _ (lists : List PathKept) (s : FibSource) where
  abbrev IsOne : List (FibSource × ℕ) → FibSource × ℕ → Type 0
  IsOne ps q = Contains ps q × (q.0 ≡ s) × (list_held lists ps s ≡ content_or (content_of lists q.1))

  one_held : (ps : List (FibSource × ℕ)) (p : FibSource × ℕ) → Contains ps p → p.0 ≡ s → (q : FibSource × ℕ) × IsOne ps q
  one_held [] p c at = absurd (Contains-nil p c)
  one_held (q ∷ qs) p c at = elim (either (source_rank q.0 == source_rank s)) [
    | inl is ↦ (q, (in_front q q qs refl, source_by_rank q.0 s ((Decides-eqb (source_rank q.0) (source_rank s)).0 is), rw is refl))
    | inr isnt ↦ elim (in_cases q p qs c) [
      | inl same ↦ absurd (clash (source_rank q.0 == source_rank s)
          ((Decides-eqb (source_rank q.0) (source_rank s)).1 (ap (λ z. source_rank z.0) same ∙ ap source_rank at)) isnt)
      | inr later ↦ (let w = one_held qs p later at in (w.0, (in_rest q w.0 qs w.1.0, w.1.1, rw isnt w.1.2)))
    ]
  ]

  held_one : (ps : List (FibSource × ℕ)) (path : Path) → Contains (list_held lists ps s) path → (q : FibSource × ℕ) × IsOne ps q
  held_one [] path c = absurd (Contains-nil path c)
  held_one (q ∷ qs) path c = elim (either (source_rank q.0 == source_rank s)) [
    | inl is ↦ (q, (in_front q q qs refl, source_by_rank q.0 s ((Decides-eqb (source_rank q.0) (source_rank s)).0 is), rw is refl))
    | inr isnt ↦ (let w = held_one qs path (rw isnt at c) in (w.0, (in_rest q w.0 qs w.1.0, w.1.1, rw isnt w.1.2)))
  ]

hop_some : (o : Option ℕ) (q : Prefix) → is_hop o q ≡ true → (b : ℕ) × (o ≡ Some b)
hop_some None q h = absurd (false≢true h)
hop_some (Some b) q h = (b, refl)

module _ (v : Known) (S : Tables) (k : StandsFor v S) (p : Prefix) (s : FibSource) (a : ℕ) where
  row_has : (ps : List (FibSource × ℕ)) → ArePairs v.lists S p ps → are_hops (list_held v.lists ps s) (host a) ≡ true → has_hop p s S.routes a ≡ true
  row_has ps h is =
      let w = any_from (λ z. is_hop (recursive_of z) (host a)) (list_held v.lists ps s) is in
      let b = hop_some (recursive_of w.0) (host a) w.2 in
      let q = held_one v.lists s ps w.0 w.1 in
      let x = h.real q.0 q.1.0 in
      let list : list_held v.lists ps s ≡ x.0.paths = q.1.2 ∙ ap content_or x.3.1 in
      let r = written S x.0 w.0 b.0 (subst (λ l. Contains l w.0) list w.1) b.1 (origin S x.0 x.1) in
      has_by p s S.routes r.0 a r.1 (ap (λ z. z.prefix) r.2 ∙ sym x.2) (ap (λ z. z.source) r.2 ∙ (sym x.3.0 ∙ q.1.1))
      (ap (λ l. are_hops l (host a)) (ap (λ z. z.paths) r.2 ∙ sym list) ∙ is)

  row_from : (ps : List (FibSource × ℕ)) → ArePairs v.lists S p ps → has_hop p s S.routes a ≡ true → are_hops (list_held v.lists ps s) (host a) ≡ true
  row_from ps h is =
      let w = by_has p s S.routes a is in
      let mine = from_origin S (route_pair w.0) (base (from_base_origin S (route_pair w.0) (route w.0 w.1 refl))) in
      let f = h.found (route_pair w.0) mine (sym w.2) in
      let q = one_held v.lists s ps f.0 f.1 (f.2.0 ∙ w.3) in
      let x = h.real q.0 q.1.0 in
      let same : x.0.paths ≡ w.0.paths =
      one_list S k.sound x.0 (route_pair w.0) x.1 mine (sym x.2 ∙ sym w.2) (sym x.3.0 ∙ (q.1.1 ∙ sym w.3)) in
      ap (λ l. are_hops l (host a)) (q.1.2 ∙ (ap content_or x.3.1 ∙ same)) ∙ w.4

  pub rows_tell : are_hops (old_paths v p s) (host a) ≡ true ↔ (has_hop p s S.routes a ≡ true)
  rows_tell = by (row_of v.rows p) refl
    where
      by : (o : Option Row) → row_of v.rows p ≡ o → are_hops (list_in v.lists o s) (host a) ≡ true ↔ (has_hop p s S.routes a ≡ true)
      by None e = (λ h. absurd (false≢true h), λ h. row_from [] (no_pairs v S k p e) h)
      by (Some r) e = (row_has r.pairs (pairs_at v S k p r e), row_from r.pairs (pairs_at v S k p r e))

module _ (v : Known) (list : List Change) (S T : Tables) (k : StandsFor v S) (sound : IsSound T) where
  hop_named : (p : Prefix) (s : FibSource) (a : ℕ) (q : Prefix) → q ≡ host a → Contains list (changes.Route p s)
      → (has_hop p s S.routes a || has_hop p s T.routes a) ≡ true → IsNamed list S T q
  hop_named p s a q at c h = inr (a, at, or_left (hop_in list S T a) (near_in list a) (any_in (hop_at S T a) list (changes.Route p s) c h))

  named_by : (c : Change) (q : Prefix) → Contains list c → names v T c q ≡ true → IsNamed list S T q
  named_by (changes.Flag i) q c h = absurd (false≢true h)
  named_by (changes.Address b) q c h = inl (any_in (own_at q) list (changes.Address b) c h)
  named_by (changes.Neighbor i a) q c h = inr (
    a,
    (same_prefix-Decides q (host a)).0 h,
    or_right (hop_in list S T a) (near_in list a) (any_in (near_at a) list (changes.Neighbor i a) c ((Decides-eqb a a).1 refl)),
  )
  named_by (changes.Route p s) q c h = elim (or_cases (same_prefix q p) (are_hops (old_paths v p s) q || are_hops (paths_at p s T.routes) q) h) [
    | inl own ↦ inl (any_in (own_at q) list (changes.Route p s) c ((same_prefix-Decides p q).1 (sym ((same_prefix-Decides q p).0 own))))
    | inr hops ↦ elim (or_cases (are_hops (old_paths v p s) q) (are_hops (paths_at p s T.routes) q) hops) [
      | inl old ↦ (let w = hops_of (old_paths v p s) q old in
          hop_named p s w.0 q w.1 c (or_left (has_hop p s S.routes w.0) (has_hop p s T.routes w.0)
          ((rows_tell v S k p s w.0).0 (subst (λ z. are_hops (old_paths v p s) z ≡ true) w.1 old))))
      | inr new ↦ (let w = hops_of (paths_at p s T.routes) q new in
          hop_named p s w.0 q w.1 c (or_right (has_hop p s S.routes w.0) (has_hop p s T.routes w.0)
          ((tables_tell T sound p s w.0).0 (subst (λ z. are_hops (paths_at p s T.routes) z ≡ true) w.1 new))))
    ]
  ]

  own_names : (c : Change) (q : Prefix) → own_at q c ≡ true → names v T c q ≡ true
  own_names (changes.Flag i) q h = absurd (false≢true h)
  own_names (changes.Address b) q h = h
  own_names (changes.Neighbor i a) q h = absurd (false≢true h)
  own_names (changes.Route p s) q h = or_left (same_prefix q p) (are_hops (old_paths v p s) q || are_hops (paths_at p s T.routes) q)
      ((same_prefix-Decides q p).1 (sym ((same_prefix-Decides p q).0 h)))

  hop_names : (c : Change) (q : Prefix) (a : ℕ) → q ≡ host a → hop_at S T a c ≡ true → names v T c q ≡ true
  hop_names (changes.Flag i) q a at h = absurd (false≢true h)
  hop_names (changes.Address b) q a at h = absurd (false≢true h)
  hop_names (changes.Neighbor i b) q a at h = absurd (false≢true h)
  hop_names (changes.Route p s) q a at h =
      or_right (same_prefix q p) (are_hops (old_paths v p s) q || are_hops (paths_at p s T.routes) q)
      (elim (or_cases (has_hop p s S.routes a) (has_hop p s T.routes a) h) [
        | inl old ↦ or_left (are_hops (old_paths v p s) q) (are_hops (paths_at p s T.routes) q)
            (subst (λ z. are_hops (old_paths v p s) z ≡ true) (sym at) ((rows_tell v S k p s a).1 old))
        | inr new ↦ or_right (are_hops (old_paths v p s) q) (are_hops (paths_at p s T.routes) q)
            (subst (λ z. are_hops (paths_at p s T.routes) z ≡ true) (sym at) ((tables_tell T sound p s a).1 new))
      ])

  near_names : (c : Change) (q : Prefix) (a : ℕ) → q ≡ host a → near_at a c ≡ true → names v T c q ≡ true
  near_names (changes.Flag i) q a at h = absurd (false≢true h)
  near_names (changes.Address b) q a at h = absurd (false≢true h)
  near_names (changes.Neighbor i b) q a at h = (same_prefix-Decides q (host b)).1 (at ∙ ap host (sym ((Decides-eqb b a).0 h)))
  near_names (changes.Route p s) q a at h = absurd (false≢true h)

  by_named : (q : Prefix) → IsNamed list S T q → list_any (λ c. names v T c q) list ≡ true
  by_named q (inl own) = (let w = any_from (own_at q) list own in any_in (λ c. names v T c q) list w.0 w.1 (own_names w.0 q w.2))
  by_named q (inr late) = elim (or_cases (hop_in list S T late.0) (near_in list late.0) late.2) [
    | inl hop ↦ (let w = any_from (hop_at S T late.0) list hop in any_in (λ c. names v T c q) list w.0 w.1 (hop_names w.0 q late.0 late.1 w.2))
    | inr near ↦ (let w = any_from (near_at late.0) list near in any_in (λ c. names v T c q) list w.0 w.1 (near_names w.0 q late.0 late.1 w.2))
  ]

  names_tell : (q : Prefix) → list_any (λ c. names v T c q) list ≡ true ↔ IsNamed list S T q
  names_tell q = (λ h. (let w = any_from (λ c. names v T c q) list h in named_by w.0 q w.1 w.2), by_named q)

  led_by : (a : ℕ) (c : Change) → leads T c (host a) ≡ true ↔ (led_at T a c ≡ true)
  led_by a (changes.Flag i) = (λ h. h, λ h. h)
  led_by a (changes.Address b) = (λ h. h, λ h. h)
  led_by a (changes.Neighbor i b) = (λ h. h, λ h. h)
  led_by a (changes.Route p s) = tables_tell T sound p s a

  leads_tell : (a : ℕ) → list_any (λ c. leads T c (host a)) list ≡ true ↔ (list_any (led_at T a) list ≡ true)
  leads_tell a = (
    λ h. (let w = any_from (λ c. leads T c (host a)) list h in any_in (led_at T a) list w.0 w.1 ((led_by a w.0).0 w.2)),
    λ h. (let w = any_from (led_at T a) list h in any_in (λ c. leads T c (host a)) list w.0 w.1 ((led_by a w.0).1 w.2)),
  )

  pub are_named : (x : Named) → AddsEach (names v T) list [] x.prefixes → AddsEach (leads T) list [] x.hops → covers.ArePrefixes x.prefixes
      → AreNamed list S T x
  are_named x put led good = record {
    prefixes = λ q. (
      λ c. elim ((put q).0 c) [ inl none ↦ absurd (Contains-nil q none) | inr is ↦ (names_tell q).0 is ],
      λ is. (put q).1 (inr ((names_tell q).1 is)),
    );
    good = good;
    hops = λ a. (
      λ c. elim ((led (host a)).0 c) [ inl none ↦ absurd (Contains-nil (host a) none) | inr is ↦ (leads_tell a).0 is ],
      λ is. (led (host a)).1 (inr ((leads_tell a).1 is)),
    );
  }
