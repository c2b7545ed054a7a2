-- How many plies a prefix adds to those of others.
use Rattle.std.proofs.Common.{arith, ◌≡◌, ℕ, zero, suc, ◌+◌, ◌*◌, ◌/◌, ◌<◌, ◌≤◌, Bool, true, false, not, ◌&&◌, ◌||◌, cond, List, ◌∷◌, length, Option, Some, None, ◌⊎◌, inl, inr, refl, sym, ◌∙◌, ap, subst, slice_get, ◌↔◌}
use Rattle.std.specs.Prelude.{Contains, flat_map, nat_lt}
use Rattle.std.specs.List.{range_with_len}
use Rattle.std.specs.Set.{is_member, unique_keys}
use Rattle.std.proofs.lemmas.Bool.{false≢true, lt-ltb, cases_eq}
use Rattle.std.proofs.lemmas.Map.Views.{Contains-from_any}
use Rattle.fib_base_list.proofs.Lists.{either, Contains-nil, Contains-flat_map}
use Rattle.fib_base_list.proofs.Booleans.{or_cases}
use Rattle.fib_addr.specs.Prefixes.{Prefix, IsPrefix, same_prefix, masked, size_of}
use Rattle.fib_addr.specs.Longest.{everything}
use Rattle.fib_addr.proofs.PrefixLaws.{same_prefix-Decides, same_prefix_equiv, same_fields}
use Rattle.fib_cover.specs.Covers.{IsAscending, ArePrefixes}
use Rattle.fib_resolve.specs.Sizes.{plies_of}
use Rattle.fib_resolve_changes.proofs.Edits.{any_in, in_cases, in_front, in_rest}
use Rattle.fib_resolve_changes.proofs.SamePairs.{map_in, map_from, flat_map_from}
use Rattle.fib_base_interned.proofs.Finding.{none_some, contains_at}
use Rattle.fib_entries_rows.specs.inner.Plies.{is_on_way, is_own, own_below, before_of, IsGap}
use Rattle.fib_entries_rows.proofs.LeafSizes.{lengths_same, plies_list, ply_count}
use Rattle.fib_entries_rows.proofs.PlyOrder.{on_way_from, shared_near}

-- the ply at a depth on the way to p
abbrev pub ply : Prefix → ℕ → Prefix
ply p k = masked p.bits (4 * k)

pub with_plies : Prefix → List Prefix → ℕ → List Prefix
with_plies p base zero = base
with_plies p base (suc n) = ply p n ∷ with_plies p base n

in_range : (a n j : ℕ) → Contains (range_with_len a n) j → (a ≤ j) × (j < a + n)
in_range a zero j c = absurd (Contains-nil j c)
in_range a (suc n) j c = elim (in_cases a j (range_with_len (a + 1) n) c) [
  | inl is ↦ (omega (arith, is), omega (arith, is))
  | inr later ↦ (let r = in_range (a + 1) n j later in (omega (arith, r.0), omega (arith, r.1)))
]

range_in : (a n j : ℕ) → a ≤ j → j < a + n → Contains (range_with_len a n) j
range_in a zero j le lt = absurd (omega (arith, le, lt))
range_in a (suc n) j le lt = elim (cases_eq a j) [
  | inl is ↦ in_front a j (range_with_len (a + 1) n) is
  | inr off ↦ in_rest a j (range_with_len (a + 1) n) (range_in (a + 1) n j (omega (arith, le, off)) (omega (arith, lt)))
]

-- a ply below the length is one of the prefix's
depth_less : (len j : ℕ) → j < (len + 3) / 4 → 4 * j < len
depth_less len j lt = omega (arith, lt)

less_depth : (len j : ℕ) → 4 * j < len → j < (len + 3) / 4
less_depth len j lt = omega (arith, lt)

-- a ply of others at some depth is on the way to one of them
ply_from : (xs : List Prefix) (p : Prefix) (k : ℕ) → 0 < k → Contains (plies_list xs) (ply p k) → (e : Prefix) × Contains xs e × (is_on_way p k (Some e) ≡ true)
ply_from xs p k deep c = elim (in_cases everything (ply p k) (flat_map plies_of xs) c) [
  | inl is ↦ (let l = ap (λ z. z.len) is in absurd (omega (arith, l, deep)))
  | inr later ↦ (let e = flat_map_from plies_of xs (ply p k) later in
      let m = map_from (λ j. masked e.0.bits (4 * j)) (range_with_len 0 ((e.0.len + 3) / 4)) (ply p k) e.2 in
      let l = ap (λ z. z.len) m.2 in
      let same : m.0 ≡ k = omega (arith, l) in
      let r = in_range 0 ((e.0.len + 3) / 4) m.0 m.1 in
      let lt = depth_less e.0.len m.0 (omega (arith, r.1)) in (
        e.0,
        e.1,
        rw (lt-ltb (4 * k) e.0.len (omega (arith, lt, same))) ((same_prefix-Decides (masked p.bits (4 * k)) (masked e.0.bits (4 * k))).1 (sym m.2 ∙ ap (λ j. masked e.0.bits (4 * j)) same)),
      ))
]

-- and the other way round
from_ply : (xs : List Prefix) (p : Prefix) (k : ℕ) (e : Prefix) → Contains xs e → is_on_way p k (Some e) ≡ true → Contains (plies_list xs) (ply p k)
from_ply xs p k e c way =
    let f = on_way_from p e k way in
    let same : masked e.bits (4 * k) ≡ ply p k = ap (λ (q : ℕ). record { bits = q * size_of (4 * k); len = 4 * k }) (sym f.1) in
    in_rest everything (ply p k) (flat_map plies_of xs) (Contains-flat_map plies_of xs e (ply p k) c
    (subst (Contains (plies_of e)) same (map_in (λ j. masked e.bits (4 * j)) (range_with_len 0 ((e.len + 3) / 4)) k (range_in 0 ((e.len + 3) / 4) k (omega arith) (let lt = less_depth e.len k f.0 in omega (arith, lt))))))

other_ply : (p : Prefix) (j k : ℕ) → j < k → same_prefix (ply p k) (ply p j) ≡ false
other_ply p j k lt = elim (either (same_prefix (ply p k) (ply p j))) [
  | inr isnt ↦ isnt
  | inl is ↦ (let l = ap (λ z. z.len) ((same_prefix-Decides (ply p k) (ply p j)).0 is) in absurd (omega (arith, l, lt)))
]

-- plies nearer to the root are no deeper one
member_stays : (p : Prefix) (base : List Prefix) (n k : ℕ) → n ≤ k → is_member same_prefix (with_plies p base n) (ply p k) ≡ is_member same_prefix base (ply p k)
unfolding with_plies
member_stays p base zero k le = refl
member_stays p base (suc n) k le = rw (other_ply p n k (omega (arith, le))) (member_stays p base n k (omega (arith, le)))

abbrev zero_if : Bool → ℕ
zero_if b = cond b 0 1

abbrev one_if : Bool → ℕ
one_if b = cond b 1 0

deep_own : (k : ℕ) (b c : Bool) → b ≡ c → one_if (nat_lt 0 (suc k) && not b) ≡ one_if (not c)
deep_own k b c e = ap (λ a. one_if (a && not b)) (lt-ltb 0 (suc k) (omega arith)) ∙ ap (λ z. one_if (not z)) e

one_more : (xs : List Prefix) (y : Prefix) → length (unique_keys same_prefix (y ∷ xs)) ≡ length (unique_keys same_prefix xs) + zero_if (is_member same_prefix xs y)
one_more xs y = by (is_member same_prefix xs y)
  where
    by : (b : Bool) → length (cond b (unique_keys same_prefix xs) (y ∷ unique_keys same_prefix xs)) ≡ length (unique_keys same_prefix xs) + zero_if b
    by true = omega arith
    by false = omega arith

-- the members with the plies
with_from : (p : Prefix) (base : List Prefix) (n : ℕ) (z : Prefix) → Contains (with_plies p base n) z → Contains base z ⊎ ((k : ℕ) × (k < n) × (ply p k ≡ z))
unfolding with_plies
with_from p base zero z c = inl c
with_from p base (suc n) z c = elim (in_cases (ply p n) z (with_plies p base n) c) [
  | inl is ↦ inr (n, omega arith, is)
  | inr later ↦ elim (with_from p base n z later) [ inl old ↦ inl old | inr (k, lt, is) ↦ inr (k, omega (arith, lt), is) ]
]

with_old : (p : Prefix) (base : List Prefix) (n : ℕ) (z : Prefix) → Contains base z → Contains (with_plies p base n) z
unfolding with_plies
with_old p base zero z c = c
with_old p base (suc n) z c = in_rest (ply p n) z (with_plies p base n) (with_old p base n z c)

with_new : (p : Prefix) (base : List Prefix) (n k : ℕ) → k < n → Contains (with_plies p base n) (ply p k)
unfolding with_plies
with_new p base zero k lt = absurd (omega (arith, lt))
with_new p base (suc n) k lt = elim (cases_eq k n) [
  | inl is ↦ in_front (ply p n) (ply p k) (with_plies p base n) (ap (ply p) (sym is))
  | inr off ↦ in_rest (ply p n) (ply p k) (with_plies p base n) (with_new p base n k (omega (arith, lt, off)))
]

-- p's place in order tells which of its plies are new
module _ (order : List Prefix) (asc : IsAscending order) (good : ArePrefixes order) (place : ℕ) (p : Prefix) (gap : IsGap order place p) (is : IsPrefix p) where
  near_in : (k : ℕ) (o : Option Prefix) → ((e : Prefix) → o ≡ Some e → Contains order e) → is_on_way p k o ≡ true → Contains (plies_list order) (ply p k)
  near_in k None f way = absurd (false≢true way)
  near_in k (Some e) f way = from_ply order p k e (f e refl) way

  before_in : (place : ℕ) (e : Prefix) → before_of order place ≡ Some e → Contains order e
  before_in zero e at = absurd (none_some e at)
  before_in (suc m) e at = contains_at order m e at

  root : ply p 0 ≡ everything
  root = same_fields (ply p 0) everything (let f = is.fits in omega (arith, f), refl)

  in_member : (z : Prefix) → Contains (plies_list order) z → is_member same_prefix (plies_list order) z ≡ true
  in_member z c = any_in (same_prefix z) (plies_list order) z c ((same_prefix-Decides z z).1 refl)

  member_in : (z : Prefix) → is_member same_prefix (plies_list order) z ≡ true → Contains (plies_list order) z
  member_in z m = Contains-from_any (λ x y. (same_prefix-Decides x y).0) z (plies_list order) m

  own_is : (k : ℕ) → 4 * k < p.len → zero_if (is_member same_prefix (plies_list order) (ply p k)) ≡ one_if (is_own p (before_of order place) (slice_get order place) k)
  own_is zero deep = rw (in_member (ply p 0) (in_front everything (ply p 0) (flat_map plies_of order) (sym root))) refl
  own_is (suc k) deep = elim (either (is_on_way p (suc k) (before_of order place) || is_on_way p (suc k) (slice_get order place))) [
    | inl shared ↦ (let there : is_member same_prefix (plies_list order) (ply p (suc k)) ≡ true = in_member (ply p (suc k)) (elim (or_cases (is_on_way p (suc k) (before_of order place)) (is_on_way p (suc k) (slice_get order place)) shared) [
      | inl left ↦ near_in (suc k) (before_of order place) (λ e at. before_in place e at) left
      | inr right ↦ near_in (suc k) (slice_get order place) (λ e at. contains_at order place e at) right
    ]) in
        ap zero_if there ∙ sym (deep_own k (is_on_way p (suc k) (before_of order place) || is_on_way p (suc k) (slice_get order place)) true shared))
    | inr apart ↦ (let absent : is_member same_prefix (plies_list order) (ply p (suc k)) ≡ false = elim (either (is_member same_prefix (plies_list order) (ply p (suc k)))) [
      | inr isnt ↦ isnt
      | inl there ↦ (let e = ply_from order p (suc k) (omega arith) (member_in (ply p (suc k)) there) in
          absurd (false≢true (sym apart ∙ shared_near order asc good place p gap is.short (suc k) deep e.0 e.1 e.2)))
    ] in
        ap zero_if absent ∙ sym (deep_own k (is_on_way p (suc k) (before_of order place) || is_on_way p (suc k) (slice_get order place)) false apart))
  ]

  grown : (n : ℕ) → ((k : ℕ) → k < n → 4 * k < p.len) → length (unique_keys same_prefix (with_plies p (plies_list order) n)) ≡ ply_count order + own_below p (before_of order place) (slice_get order place) n
  unfolding with_plies
  grown zero f = omega arith
  grown (suc n) f =
      let more = one_more (with_plies p (plies_list order) n) (ply p n) in
      let one = ap zero_if (member_stays p (plies_list order) n n (omega arith)) ∙ own_is n (f n (omega arith)) in
      let rest = grown n (λ k lt. f k (omega (arith, lt))) in
      sums _ _ _ _ _ _ more one rest
    where
      sums : (all some base own a b : ℕ) → all ≡ some + a → a ≡ b → some ≡ base + own → all ≡ base + (own + b)
      sums all some base own a b e f g = omega (arith, e, f, g)

  -- with the prefix there are its own plies more
  pub plies_grown : (ys : List Prefix) → ((e : Prefix) → Contains ys e ↔ Contains order e ⊎ (p ≡ e))
      → ply_count ys ≡ ply_count order + own_below p (before_of order place) (slice_get order place) ((p.len + 3) / 4)
  plies_grown ys same =
      lengths_same same_prefix same_prefix_equiv (λ x y. (same_prefix-Decides x y).0) (plies_list ys) (with_plies p (plies_list order) ((p.len + 3) / 4)) (λ z. (forth z, back z))
      ∙ grown ((p.len + 3) / 4) (λ k lt. depth_less p.len k lt)
    where
      forth : (z : Prefix) → Contains (plies_list ys) z → Contains (with_plies p (plies_list order) ((p.len + 3) / 4)) z
      forth z c = elim (in_cases everything z (flat_map plies_of ys) c) [
        | inl first ↦ with_old p (plies_list order) ((p.len + 3) / 4) z (in_front everything z (flat_map plies_of order) first)
        | inr later ↦ (let e = flat_map_from plies_of ys z later in elim ((same e.0).0 e.1) [
          | inl old ↦ with_old p (plies_list order) ((p.len + 3) / 4) z (in_rest everything z (flat_map plies_of order) (Contains-flat_map plies_of order e.0 z old e.2))
          | inr it ↦ (let m = map_from (λ j. masked p.bits (4 * j)) (range_with_len 0 ((p.len + 3) / 4)) z (subst (λ q. Contains (plies_of q) z) (sym it) e.2) in
              let r = in_range 0 ((p.len + 3) / 4) m.0 m.1 in
              subst (Contains (with_plies p (plies_list order) ((p.len + 3) / 4))) m.2 (with_new p (plies_list order) ((p.len + 3) / 4) m.0 (omega (arith, r.1))))
        ])
      ]

      back : (z : Prefix) → Contains (with_plies p (plies_list order) ((p.len + 3) / 4)) z → Contains (plies_list ys) z
      back z c = elim (with_from p (plies_list order) ((p.len + 3) / 4) z c) [
        | inl old ↦ elim (in_cases everything z (flat_map plies_of order) old) [
          | inl first ↦ in_front everything z (flat_map plies_of ys) first
          | inr later ↦ (let e = flat_map_from plies_of order z later in in_rest everything z (flat_map plies_of ys) (Contains-flat_map plies_of ys e.0 z ((same e.0).1 (inl e.1)) e.2))
        ]
        | inr (k, lt, it) ↦ in_rest everything z (flat_map plies_of ys) (Contains-flat_map plies_of ys p z ((same p).1 (inr refl)) (subst (Contains (plies_of p)) it
            (map_in (λ j. masked p.bits (4 * j)) (range_with_len 0 ((p.len + 3) / 4)) k (range_in 0 ((p.len + 3) / 4) k (omega arith) (omega (arith, lt))))))
      ]
