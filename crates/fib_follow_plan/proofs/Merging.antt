-- What covers an entry afterwards, and by what its cover becomes another.
use Rattle.std.proofs.Common.{arith, ◌≡◌, ◌≢◌, ◌⊎◌, ◌↔◌, ◌<◌, ◌≤◌, ◌^◌, ◌++◌, ◌&&◌, ℕ, true, List, filter, Option, Some, None, nat_le, inl, inr, refl, sym, ◌∙◌, ap, subst}
use Rattle.std.specs.Prelude.{Contains}
use Rattle.std.proofs.lemmas.Bool.{cases_lt, ltb-true}
use Rattle.std.proofs.lemmas.Bool.Decides.{nat_tests}
use Rattle.std.proofs.lemmas.List.Elements.{Contains-append_left, Contains-append_right, Contains-append_cases}
use Rattle.fib_base_interned.proofs.Finding.{none_some, some_is}
use Rattle.fib_addr.specs.Longest.{IsLongest, everything, longest}
use Rattle.fib_addr.specs.Prefixes.{Prefix, IsPrefix, contains}
use Rattle.fib_addr.proofs.LongestLaws.{longest_is_longest}
use Rattle.fib_cover.specs.Covers.{ArePrefixes, IsLongestMatch, IsMatch, is_inside}
use Rattle.fib_resolve.specs.Pairs.{is_short}
use Rattle.fib_resolve.proofs.Covering.{filter_from, filter_in}
use Rattle.fib_resolve_changes.proofs.Unlooked.{block_same}
use Rattle.fib_follow_features.specs.FoundBy.{cover_among}
use Rattle.fib_follow_features.proofs.Covered.{short_in, whole_prefix}
use Rattle.fib_follow_looked.specs.inner.Turning.{is_beside, longer_match}
use Rattle.fib_follow_looked.proofs.Above.{beside_test, longest_both, match_moves, one_match, test_beside}
use Rattle.fib_follow_plan.specs.declared.covers.Covers.{Covers}
use Rattle.fib_follow_plan.specs.inner.Telling.{IsMerged, IsNearest}

module _ (order : List Prefix) (covers : Covers) (after : List Prefix) (merged : IsMerged order covers after) where
  abbrev left : List Prefix
  left = filter (is_beside covers.gone) order

  same_members : (q : Prefix) → Contains (left ++ covers.come) q ↔ Contains after q
  same_members q = (
    λ c. (merged q).1 (elim (Contains-append_cases left covers.come q c) [
      | inl k ↦ (let f = filter_from (is_beside covers.gone) order q k in inl (f.0, test_beside covers.gone q f.1))
      | inr k ↦ inr k
    ]),
    λ c. elim ((merged q).0 c) [
      | inl k ↦ Contains-append_left left covers.come q (filter_in (is_beside covers.gone) order q k.0 (beside_test covers.gone q k.1))
      | inr k ↦ Contains-append_right left covers.come q k
    ],
  )

  pub merged_match : (a : ℕ) (p q : Option Prefix) → IsLongestMatch left 32 a p → IsLongestMatch covers.come 32 a q
      → IsLongestMatch after 32 a (longer_match p q)
  merged_match a p q h k =
      match_moves (left ++ covers.come) after 32 a (omega arith) (λ r short. same_members r) (longer_match p q)
      (longest_both left covers.come 32 a p q h k)

  pub merged_good : ArePrefixes order → ArePrefixes covers.come → ArePrefixes after
  merged_good one two q c = elim ((merged q).0 c) [ inl k ↦ one q k.0 | inr k ↦ two q k ]

le_is : (m n : ℕ) → m ≤ n → nat_le m n ≡ true
le_is m n le = grind (arith, nat_tests)

-- one nearest
pub nearest_is : (order : List Prefix) (q c : Prefix) → ArePrefixes order → q.len ≤ 32 → IsNearest order q c → (o : Option Prefix)
    → IsLongestMatch order q.len q.bits o → (p : Prefix) → o ≡ Some p → p ≡ c
nearest_is order q c good le h None m p e = absurd (none_some p e)
nearest_is order q c good le h (Some r) m p e =
    let match_of : (d : Prefix) → Contains order d → d ≡ c → IsMatch order q.len q.bits d = λ d k is. record {
      prefix = good d k;
      member = k;
      short = subst (λ z. z.len < q.len) (sym is) h.shorter;
      matches = subst (λ z. contains z q.bits ≡ true) (sym is) h.holds;
    } in
    let down = h.longest r m.0.member m.0.short m.0.matches in
    let up : c.len ≤ r.len = elim h.member [
      | inl k ↦ m.1 c (match_of c k refl)
      | inr is ↦ (let z = ap (λ (d : Prefix). d.len) is in omega (arith, z))
    ] in
    let fine : IsPrefix c = elim h.member [ inl k ↦ good c k | inr is ↦ subst IsPrefix (sym is) whole_prefix ] in
    sym (some_is r p e) ∙ one_match q.bits r c m.0.prefix fine m.0.matches h.holds (omega (arith, up, down))

pub nearest_none : (order : List Prefix) (q c : Prefix) → ArePrefixes order → IsNearest order q c → IsLongestMatch order q.len q.bits None
    → everything ≡ c
nearest_none order q c good h m = elim h.member [
  | inl k ↦ absurd (m c (record { prefix = good c k; member = k; short = h.shorter; matches = h.holds }))
  | inr is ↦ sym is
]

-- where the cover becomes another, it goes, or a longer one comes below it
module _ (order : List Prefix) (covers : Covers) (after : List Prefix) (merged : IsMerged order covers after) (e : Prefix)
    (one : ArePrefixes order) (two : ArePrefixes covers.come) (fine : IsPrefix e) (host : e.len ≡ 32) where
  abbrev a : ℕ
  a = e.bits

  small : a < 2 ^ 32
  small = fine.fits

  good : ArePrefixes after
  good = merged_good order covers after merged one two

  abbrev was : Prefix
  was = cover_among order e

  abbrev is : Prefix
  is = cover_among after e

  long_was : IsLongest a (filter is_short order) was
  long_was = longest_is_longest a (filter is_short order) small

  long_is : IsLongest a (filter is_short after) is
  long_is = longest_is_longest a (filter is_short after) small

  prefix_of_long : (xs : List Prefix) → ArePrefixes xs → (c : Prefix) → IsLongest a (filter is_short xs) c → IsPrefix c
  prefix_of_long xs fits c long = elim long.member [
    | inl k ↦ fits c (filter_from is_short xs c k).0
    | inr e ↦ subst IsPrefix (sym e) whole_prefix
  ]

  short_of_long : (xs : List Prefix) (c : Prefix) → IsLongest a (filter is_short xs) c → c.len < 32
  short_of_long xs c long = elim long.member [
    | inl k ↦ ltb-true c.len 32 (filter_from is_short xs c k).1
    | inr e ↦ (let z = ap (λ (d : Prefix). d.len) e in omega (arith, z))
  ]

  fine_was : IsPrefix was
  fine_was = prefix_of_long order one was long_was

  fine_is : IsPrefix is
  fine_is = prefix_of_long after good is long_is

  -- an entry lies inside a prefix that contains its address
  pub inside_of : (q : Prefix) → q.len < 32 → contains q a ≡ true → is_inside q e ≡ true
  inside_of q lt holds = ap (λ b. b && nat_le q.len e.len) holds ∙ le_is q.len e.len (omega (arith, lt, host))

  pub inside_was : is_inside was e ≡ true
  inside_was = inside_of was (short_of_long order was long_was) long_was.matches

  pub short_was : was.len < 32
  short_was = short_of_long order was long_was

  -- the old cover doesn't go
  module _ (stays : Contains covers.gone was → ⊥) (other : was ≢ is) where
    still : Contains (filter is_short after) was ⊎ (was ≡ everything)
    still = elim long_was.member [
      | inl k ↦ (let f = filter_from is_short order was k in
          inl (filter_in is_short after was ((merged was).1 (inl (f.0, stays))) f.1))
      | inr e ↦ inr e
    ]

    up : was.len ≤ is.len
    up = elim still [
      | inl k ↦ long_is.longest was k long_was.matches
      | inr e ↦ (let z = ap (λ (d : Prefix). d.len) e in omega (arith, z))
    ]

    apart : was.len ≢ is.len
    apart same = other (one_match a was is fine_was fine_is long_was.matches long_is.matches same)

    above : was.len < is.len
    above = elim (cases_lt was.len is.len) [
      | inl lt ↦ lt
      | inr ge ↦ absurd (apart (let le = up in omega (arith, le, ge)))
    ]

    new : Contains order is → ⊥
    new c = (let le = long_was.longest is (filter_in is_short order is c (short_in is (short_of_long after is long_is))) long_is.matches
        in let lt = above in omega (arith, le, lt))

    pub comes : Contains covers.come is
    comes = elim long_is.member [
      | inl k ↦ elim ((merged is).0 (filter_from is_short after is k).0) [ inl old ↦ absurd (new old.0) | inr c ↦ c ]
      | inr e ↦ (let z = ap (λ (d : Prefix). d.len) e in let lt = above in absurd (omega (arith, z, lt)))
    ]

    pub comes_new : Contains order is → ⊥
    comes_new = new

    pub comes_short : is.len < 32
    comes_short = short_of_long after is long_is

    pub comes_inside : is_inside is e ≡ true
    comes_inside = inside_of is (short_of_long after is long_is) long_is.matches

    within : (p : Prefix) → p.len < is.len → contains p a ≡ contains p is.bits
    within p lt = (let s = comes_short in block_same p is a (omega (arith, lt)) (omega (arith, s)) long_is.matches)

    pub nearest : IsNearest order is was
    nearest = record {
      member = elim long_was.member [ inl k ↦ inl (filter_from is_short order was k).0 | inr e ↦ inr e ];
      shorter = above;
      holds = sym (within was above) ∙ long_was.matches;
      longest = λ p c lt holds. (let s = comes_short in
          long_was.longest p (filter_in is_short order p c (short_in p (omega (arith, lt, s)))) (within p lt ∙ holds));
    }
