-- Covers and best entries depend on the prefixes alone, and an address is attached by its cover's chosen list.
use Rattle.std.proofs.Common.{arith, append_assoc, ◌≡◌, ℕ, zero, suc, ◌<◌, ◌^◌, Bool, true, List, [], ◌∷◌, ◌++◌, map, inl, inr, refl, sym, ◌∙◌, ap, subst, ◌↔◌}
use Rattle.std.specs.Prelude.{Contains, filter, flat_map}
use Rattle.std.specs.List.{AllByRecursion, IsDistinct}
use Rattle.std.specs.Set.{is_member, unique_keys}
use Rattle.std.specs.Cmp.{IsEquivalence}
use Rattle.std.proofs.lemmas.Bool.{ltb-true}
use Rattle.std.proofs.lemmas.List.Elements.{All-contains, All-from_recursion, Contains-append_cases, Contains-append_left}
use Rattle.std.proofs.lemmas.Map.Views.{Contains-from_any, list_any-from_Contains}
use Rattle.fib_base_list.proofs.Lists.{either, is_member-unique_keys, each-append, each-map, each-flat_map, Contains-nil}
use Rattle.fib_addr.specs.Prefixes.{Prefix, IsPrefix, same_prefix}
use Rattle.fib_addr.specs.Longest.{everything, IsLongest}
use Rattle.fib_addr.proofs.PrefixLaws.{same_prefix-Decides, same_prefix_equiv}
use Rattle.fib_addr.proofs.LongestLaws.{longest_is_longest, longest_is_unique}
use Rattle.fib_resolve.specs.Pairs.{pairs, all_pairs, base_pairs, entries, chosen, best, cover, short_prefixes, is_short, prefix_of, best_pair, attached_by, attached_of, neighbor_pairs, derived_pair, recursive_hops, is_interface, same_pair}
use Rattle.fib_resolve.specs.Sizes.{plies, plies_of, same_adjacency, adjacencies, adjacencies_of}
use Rattle.fib_resolve.specs.Tables.{IsSound}
use Rattle.fib_resolve.specs.declared.pairs.Pair.{Pair}
use Rattle.fib_resolve.specs.declared.pairs.Adjacency.{Adjacency}
use Rattle.fib_resolve.specs.declared.types.Neighbor.{Neighbor}
use Rattle.fib_resolve.specs.declared.types.Tables.{Tables}
use Rattle.std.proofs.lemmas.Cmp.{nat_eq_equiv, on_equiv, and_equiv}
use Rattle.fib_resolve.proofs.Apart.{each-fails}
use Rattle.fib_resolve.proofs.PairLaws.{each-all, cover_short}
use Rattle.fib_resolve.proofs.OneList.{one_list, one_if}
use Rattle.fib_resolve.proofs.Touching.{same_pair-Decides, same_pair_equiv, best_of, best_paths_same}

-- each key is left once
pub distinct_keys : {X : Type 0} (eq : X → X → Bool) → IsEquivalence eq → (xs : List X) → IsDistinct eq (unique_keys eq xs)
unfolding IsDistinct
distinct_keys eq laws [] = tt
distinct_keys eq laws (x ∷ xs) =
    elim (either (is_member eq xs x)) [
      | inl is ↦ rw is (distinct_keys eq laws xs)
      | inr isnt ↦ rw isnt (each-fails (eq x) (unique_keys eq xs) (is_member-unique_keys laws x xs ∙ isnt), distinct_keys eq laws xs)
    ]

pub unique_in : {X : Type 0} (eq : X → X → Bool) → IsEquivalence eq → ((x y : X) → eq x y ≡ true → x ≡ y) → (xs : List X) (x : X) → Contains xs x ↔ Contains (unique_keys eq xs) x
unique_in eq laws same xs x = (
  λ c. Contains-from_any same x (unique_keys eq xs) (is_member-unique_keys laws x xs ∙ list_any-from_Contains laws x xs c),
  λ c. Contains-from_any same x xs (sym (is_member-unique_keys laws x xs) ∙ list_any-from_Contains laws x (unique_keys eq xs) c),
)

prefix_is : (p q : Prefix) → same_prefix p q ≡ true → p ≡ q
prefix_is p q = (same_prefix-Decides p q).0

map_in : {X Y : Type 0} (f : X → Y) (xs : List X) (x : X) → Contains xs x → Contains (map f xs) (f x)
map_in f [] x c = absurd (Contains-nil x c)
map_in f (y ∷ ys) x (zero, lt, is) = (0, omega arith, ap f is)
map_in f (y ∷ ys) x (suc k, lt, is) = let r = map_in f ys x (k, omega (arith, lt), is) in (suc r.0, omega (arith, r.1), r.2)

map_from : {X Y : Type 0} (f : X → Y) (xs : List X) (y : Y) → Contains (map f xs) y → (x : X) × Contains xs x × (f x ≡ y)
map_from f [] y c = absurd (Contains-nil y c)
map_from f (x ∷ xs) y (zero, lt, is) = (x, (0, omega arith, refl), is)
map_from f (x ∷ xs) y (suc k, lt, is) = let r = map_from f xs y (k, omega (arith, lt), is) in (r.0, (suc r.1.0, omega (arith, r.1.1), r.1.2), r.2)

pub filter_in : {X : Type 0} (test : X → Bool) (xs : List X) (x : X) → Contains xs x → test x ≡ true → Contains (filter test xs) x
filter_in test [] x c h = absurd (Contains-nil x c)
filter_in test (y ∷ ys) x (zero, lt, is) h = rw (ap test is ∙ h) (0, omega arith, is)
filter_in test (y ∷ ys) x (suc k, lt, is) h =
    let rest = filter_in test ys x (k, omega (arith, lt), is) h in
    elim (either (test y)) [
      | inl yes_in ↦ rw yes_in (suc rest.0, omega (arith, rest.1), rest.2)
      | inr not_in ↦ rw not_in rest
    ]

kept_cases : {X : Type 0} (test : X → Bool) (y x : X) (ys some : List X) → Contains (y ∷ some) x → test y ≡ true → (Contains some x → Contains ys x × (test x ≡ true)) → Contains (y ∷ ys) x × (test x ≡ true)
kept_cases test y x ys some (zero, lt, is) t f = ((0, omega arith, is), subst (λ z. test z ≡ true) is t)
kept_cases test y x ys some (suc k, lt, is) t f = let r = f (k, omega (arith, lt), is) in ((suc r.0.0, omega (arith, r.0.1), r.0.2), r.1)

pub filter_from : {X : Type 0} (test : X → Bool) (xs : List X) (x : X) → Contains (filter test xs) x → Contains xs x × (test x ≡ true)
filter_from test [] x c = absurd (Contains-nil x c)
filter_from test (y ∷ ys) x c =
    elim (either (test y)) [
      | inl yes_in ↦ kept_cases test y x ys (filter test ys) (rw yes_in at c) yes_in (filter_from test ys x)
      | inr not_in ↦ (let r = filter_from test ys x (rw not_in at c) in ((suc r.0.0, omega (arith, r.0.1), r.0.2), r.1))
    ]

-- the pairs that depend on a cover are of hosts
abbrev IsHost : Pair → Type 0
IsHost x = x.prefix.len ≡ 32

late_pairs : Tables → List Pair
late_pairs S = flat_map (neighbor_pairs S) S.neighbors ++ map (derived_pair S) (flat_map recursive_hops S.routes)

neighbor_hosts : (S : Tables) (n : Neighbor) → AllByRecursion IsHost (neighbor_pairs S n)
unfolding neighbor_pairs
neighbor_hosts S n = one_if IsHost (is_interface (attached_by S n.addr) n.interface) _ (λ _. refl)

derived_hosts : (S : Tables) (a : ℕ) → IsHost (derived_pair S a)
unfolding derived_pair
derived_hosts S a = refl

late_hosts : (S : Tables) → AllByRecursion IsHost (late_pairs S)
unfolding late_pairs
late_hosts S =
    each-append IsHost (flat_map (neighbor_pairs S) S.neighbors) (map (derived_pair S) (flat_map recursive_hops S.routes))
    (each-flat_map IsHost (neighbor_pairs S) S.neighbors (each-all (λ n. AllByRecursion IsHost (neighbor_pairs S n)) (neighbor_hosts S) S.neighbors))
    (each-map IsHost (derived_pair S) (flat_map recursive_hops S.routes) (each-all (λ a. IsHost (derived_pair S a)) (derived_hosts S) (flat_map recursive_hops S.routes)))

all_are : (S : Tables) → all_pairs S ≡ base_pairs S ++ late_pairs S
unfolding all_pairs late_pairs
all_are S = append_assoc (base_pairs S) (flat_map (neighbor_pairs S) S.neighbors) (map (derived_pair S) (flat_map recursive_hops S.routes))

-- a pair shorter than a host depends on no cover
short_pair : (S : Tables) (x : Pair) → x.prefix.len < 32 → Contains (base_pairs S) x ↔ Contains (pairs S) x
unfolding pairs
short_pair S x short =
    let unique = unique_in same_pair same_pair_equiv (λ a b. (same_pair-Decides a b).0) (all_pairs S) x in (
      λ c. unique.0 (rw (all_are S) (Contains-append_left (base_pairs S) (late_pairs S) x c)),
      λ c. elim (Contains-append_cases (base_pairs S) (late_pairs S) x (rw (all_are S) at (unique.1 c))) [
        | inl here ↦ here
        | inr late ↦ (let is = All-contains IsHost (late_pairs S) x (All-from_recursion IsHost (late_pairs S) (late_hosts S)) late in absurd (omega (arith, is, short)))
      ],
    )

entry_in : (S : Tables) (q : Prefix) → Contains (map prefix_of (pairs S)) q ↔ Contains (entries S) q
unfolding entries
entry_in S q = unique_in same_prefix same_prefix_equiv prefix_is (map prefix_of (pairs S)) q

-- the prefixes that can be covers are the entries shorter than a host
short_entry : (S : Tables) (q : Prefix) → Contains (short_prefixes S) q ↔ Contains (filter is_short (entries S)) q
unfolding short_prefixes
short_entry S q = (
  λ c. (let a = filter_from is_short (map prefix_of (base_pairs S)) q c in
      let x = map_from prefix_of (base_pairs S) q a.0 in
      let short : x.0.prefix.len < 32 = subst (λ (p : Prefix). p.len < 32) (sym x.2) (ltb-true q.len 32 a.1) in
      let there : Contains (map prefix_of (pairs S)) q = subst (λ p. Contains (map prefix_of (pairs S)) p) x.2 (map_in prefix_of (pairs S) x.0 ((short_pair S x.0 short).0 x.1)) in
      filter_in is_short (entries S) q ((entry_in S q).0 there) a.1),
  λ c. (let a = filter_from is_short (entries S) q c in
      let x = map_from prefix_of (pairs S) q ((entry_in S q).1 a.0) in
      let short : x.0.prefix.len < 32 = subst (λ (p : Prefix). p.len < 32) (sym x.2) (ltb-true q.len 32 a.1) in
      let there : Contains (map prefix_of (base_pairs S)) q = subst (λ p. Contains (map prefix_of (base_pairs S)) p) x.2 (map_in prefix_of (base_pairs S) x.0 ((short_pair S x.0 short).1 x.1)) in
      filter_in is_short (map prefix_of (base_pairs S)) q there a.1),
)

-- a longest match is one of every list with the same members
longest_of : (a : ℕ) (ps qs : List Prefix) (p : Prefix) → ((q : Prefix) → Contains ps q ↔ Contains qs q) → IsLongest a ps p → IsLongest a qs p
longest_of a ps qs p same h = record {
  member = elim h.member [ inl c ↦ inl ((same p).0 c) | inr e ↦ inr e ];
  matches = h.matches;
  longest = λ q c m. h.longest q ((same q).1 c) m;
}

pub best_longest : (S : Tables) (a : ℕ) → a < 2 ^ 32 → IsLongest a (entries S) (best S a)
unfolding best
best_longest S a small = longest_is_longest a (entries S) small

pub cover_longest : (S : Tables) (a : ℕ) → a < 2 ^ 32 → IsLongest a (filter is_short (entries S)) (cover S a)
unfolding cover
cover_longest S a small = longest_of a (short_prefixes S) (filter is_short (entries S)) (cover S a) (short_entry S) (longest_is_longest a (short_prefixes S) small)

whole_is_prefix : IsPrefix everything
whole_is_prefix = record { short = omega arith; fits = omega arith; cleared = refl }

member_is_prefix : (a : ℕ) (ps : List Prefix) (p : Prefix) → ((q : Prefix) → Contains ps q → IsPrefix q) → IsLongest a ps p → IsPrefix p
member_is_prefix a ps p good h = elim h.member [ inl c ↦ good p c | inr e ↦ subst IsPrefix (sym e) whole_is_prefix ]

-- tables with the same entries have the same best entries and covers
pub prefixes_decide : (S T : Tables) (a : ℕ) → a < 2 ^ 32 → ((q : Prefix) → Contains (entries S) q → IsPrefix q) → ((q : Prefix) → Contains (entries S) q ↔ Contains (entries T) q) →
    (best S a ≡ best T a) × (cover S a ≡ cover T a)
prefixes_decide S T a small good same =
    let short_same : (q : Prefix) → Contains (filter is_short (entries S)) q ↔ Contains (filter is_short (entries T)) q = λ q. (
      λ c. (let r = filter_from is_short (entries S) q c in filter_in is_short (entries T) q ((same q).0 r.0) r.1),
      λ c. (let r = filter_from is_short (entries T) q c in filter_in is_short (entries S) q ((same q).1 r.0) r.1),
    ) in
    let b = best_longest S a small in
    let c = longest_of a (entries T) (entries S) (best T a) (λ q. ((same q).1, (same q).0)) (best_longest T a small) in
    let d = cover_longest S a small in
    let e = longest_of a (filter is_short (entries T)) (filter is_short (entries S)) (cover T a) (λ q. ((short_same q).1, (short_same q).0)) (cover_longest T a small) in
    let short_good : (q : Prefix) → Contains (filter is_short (entries S)) q → IsPrefix q = λ q k. good q (filter_from is_short (entries S) q k).0 in (
      longest_is_unique a (entries S) (best S a) (best T a) (member_is_prefix a (entries S) (best S a) good b) (member_is_prefix a (entries S) (best T a) good c) b c,
      longest_is_unique a (filter is_short (entries S)) (cover S a) (cover T a) (member_is_prefix a _ (cover S a) short_good d) (member_is_prefix a _ (cover T a) short_good e) d e,
    )

-- an address is attached where the chosen list of its cover is one Attached path
pub attached_by_chosen : (S : Tables) (a : ℕ) → IsSound S → attached_by S a ≡ attached_of (chosen S (cover S a))
unfolding attached_by chosen
attached_by_chosen S a sound =
    let e = cover S a in
    let same : (x : Pair) → e ≡ x.prefix → Contains (base_pairs S) x ↔ Contains (pairs S) x = λ x p. short_pair S x (subst (λ (q : Prefix). q.len < 32) p (cover_short S a)) in
    ap attached_of (best_paths_same e (base_pairs S) (pairs S) (one_list S sound) same (best_pair e (base_pairs S)) (best_pair e (pairs S)) (best_of e (base_pairs S)) (best_of e (pairs S)))

same_adjacency_equiv : IsEquivalence same_adjacency
same_adjacency_equiv = and_equiv (on_equiv (λ (x : Adjacency). x.interface) nat_eq_equiv) (on_equiv (λ (x : Adjacency). x.next_hop) nat_eq_equiv)

pub plies_apart : (S : Tables) → IsDistinct same_prefix (plies S)
unfolding plies
plies_apart S = distinct_keys same_prefix same_prefix_equiv (everything ∷ flat_map plies_of (entries S))

pub entries_apart : (S : Tables) → IsDistinct same_prefix (entries S)
unfolding entries
entries_apart S = distinct_keys same_prefix same_prefix_equiv (map prefix_of (pairs S))

pub adjacencies_apart : (S : Tables) → IsDistinct same_adjacency (adjacencies S)
unfolding adjacencies
adjacencies_apart S = distinct_keys same_adjacency same_adjacency_equiv (flat_map (adjacencies_of S) (entries S))

pub pairs_apart : (S : Tables) → IsDistinct same_pair (pairs S)
unfolding pairs
pairs_apart S = distinct_keys same_pair same_pair_equiv (all_pairs S)
