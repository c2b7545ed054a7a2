-- The longest prefix that can cover, before and afterwards.
use Rattle.std.proofs.Common.{arith, ◌≡◌, ℕ, ◌<◌, ◌≤◌, ◌^◌, true, not, List, ◌++◌, map, filter, Option, Some, None}
use Rattle.std.proofs.Common.{◌⊎◌, inl, inr, sym, ◌∙◌, ap, subst, ◌↔◌, nat_lt}
use Rattle.std.specs.Prelude.{Contains}
use Rattle.std.specs.Set.{is_member}
use Rattle.std.proofs.lemmas.Bool.{false≢true, cases_lt, ltb-true, ltb-false}
use Rattle.std.proofs.lemmas.List.Elements.{Contains-append_left, Contains-append_right, Contains-append_cases}
use Rattle.fib_base_list.proofs.Lists.{either}
use Rattle.fib_base_interned.proofs.Finding.{none_some, some_is}
use Rattle.fib_addr.specs.Longest.{everything}
use Rattle.fib_addr.specs.Prefixes.{Prefix, IsPrefix, contains, masked, same_prefix}
use Rattle.fib_cover.specs.Covers.{IsLongestMatch, IsMatch}
use Rattle.fib_cover.proofs.Matches.{matched_is_masked}
use Rattle.fib_cover.proofs.Sets.{match_is_longest, no_match_is_longest}
use Rattle.fib_resolve.specs.Pairs.{cover, short_prefixes}
use Rattle.fib_resolve.specs.declared.types.Tables.{Tables}
use Rattle.fib_resolve.proofs.Covering.{filter_in, filter_from}
use Rattle.fib_resolve_changes.specs.Looked.{IsAbove}
use Rattle.fib_resolve_changes.specs.Sources.{ArePrefixes}
use Rattle.fib_entries_rows.specs.Known.{Known, StandsFor, prefix_of}
use Rattle.fib_follow_looked.specs.Looks.{AreShorts}
use Rattle.fib_follow_looked.specs.declared.shorts.Shorts.{Shorts}
use Rattle.fib_follow_looked.specs.inner.Turning.{is_beside, longer_match}
use Rattle.fib_follow_looked.proofs.Growth.{member_is, is_member_in}
use Rattle.fib_follow_looked.proofs.Turning.{decide_short, is_short_there, row_short}

-- members of one length with the address are one
pub one_match : (a : ℕ) (p q : Prefix) → IsPrefix p → IsPrefix q → contains p a ≡ true → contains q a ≡ true → p.len ≡ q.len → p ≡ q
one_match a p q fp fq mp mq e = matched_is_masked a p fp mp ∙ (ap (masked a) e ∙ sym (matched_is_masked a q fq mq))

-- the same members where they are short
pub match_moves : (xs ys : List Prefix) (limit a : ℕ) → limit ≤ 32 → ((q : Prefix) → q.len < 32 → Contains xs q ↔ Contains ys q)
    → (o : Option Prefix) → IsLongestMatch xs limit a o → IsLongestMatch ys limit a o
match_moves xs ys limit a le same = by
  where
    back : (q : Prefix) → IsMatch ys limit a q → IsMatch xs limit a q
    back q m = record { prefix = m.prefix; member = (same q (let lt = m.short in omega (arith, lt, le))).1 m.member; short = m.short; matches = m.matches }

    by : (o : Option Prefix) → IsLongestMatch xs limit a o → IsLongestMatch ys limit a o
    by None h = λ q m. h q (back q m)
    by (Some p) h = (
      record { prefix = h.0.prefix; member = (same p (let lt = h.0.short in omega (arith, lt, le))).0 h.0.member; short = h.0.short; matches = h.0.matches },
      λ q m. h.1 q (back q m),
    )

pub beside_test : (others : List Prefix) (q : Prefix) → (Contains others q → ⊥) → is_beside others q ≡ true
beside_test others q off = elim (either (is_member same_prefix others q)) [
  | inl is ↦ absurd (off (is_member_in others q is))
  | inr isnt ↦ ap not isnt
]

pub test_beside : (others : List Prefix) (q : Prefix) → is_beside others q ≡ true → Contains others q → ⊥
test_beside others q h c = false≢true (ap not (sym (member_is others q c)) ∙ h)

-- the longest match, where it is one of the others, is passed over
module _ (order others : List Prefix) (limit a : ℕ) where
  beside_in : (n : ℕ) (q : Prefix) → IsMatch (filter (is_beside others) order) n a q → IsMatch order n a q
  beside_in n q m = record { prefix = m.prefix; member = (filter_from (is_beside others) order q m.member).0; short = m.short; matches = m.matches }

  pub passed_over : (p : Prefix) → IsLongestMatch order limit a (Some p) → Contains others p → (o : Option Prefix)
      → IsLongestMatch (filter (is_beside others) order) p.len a o → IsLongestMatch (filter (is_beside others) order) limit a o
  passed_over p h there = by
    where
      shorter : (q : Prefix) → IsMatch (filter (is_beside others) order) limit a q → q.len < p.len
      shorter q m =
          let most = h.1 q (beside_in limit q m) in
          elim (cases_lt q.len p.len) [
            | inl lt ↦ lt
            | inr ge ↦ absurd (test_beside others q (filter_from (is_beside others) order q m.member).1
                (subst (Contains others) (one_match a p q h.0.prefix m.prefix h.0.matches m.matches (omega (arith, most, ge))) there))
          ]

      below : (q : Prefix) → IsMatch (filter (is_beside others) order) limit a q → IsMatch (filter (is_beside others) order) p.len a q
      below q m = record { prefix = m.prefix; member = m.member; short = shorter q m; matches = m.matches }

      by : (o : Option Prefix) → IsLongestMatch (filter (is_beside others) order) p.len a o → IsLongestMatch (filter (is_beside others) order) limit a o
      by None k = λ q m. k q (below q m)
      by (Some r) k = (
        record { prefix = k.0.prefix; member = k.0.member; short = (let lt = k.0.short in let up = h.0.short in omega (arith, lt, up)); matches = k.0.matches },
        λ q m. k.1 q (below q m),
      )

  pub stays_best : (p : Prefix) → IsLongestMatch order limit a (Some p) → (Contains others p → ⊥)
      → IsLongestMatch (filter (is_beside others) order) limit a (Some p)
  stays_best p h off = (
    record {
      prefix = h.0.prefix;
      member = filter_in (is_beside others) order p h.0.member (beside_test others p off);
      short = h.0.short;
      matches = h.0.matches;
    },
    λ q m. h.1 q (beside_in limit q m),
  )

  pub stays_none : IsLongestMatch order limit a None → IsLongestMatch (filter (is_beside others) order) limit a None
  stays_none h = λ q m. h q (beside_in limit q m)

-- the longer of two is the longest of both
module _ (xs ys : List Prefix) (limit a : ℕ) where
  in_left : (q : Prefix) → IsMatch xs limit a q → IsMatch (xs ++ ys) limit a q
  in_left q m = record { prefix = m.prefix; member = Contains-append_left xs ys q m.member; short = m.short; matches = m.matches }

  in_right : (q : Prefix) → IsMatch ys limit a q → IsMatch (xs ++ ys) limit a q
  in_right q m = record { prefix = m.prefix; member = Contains-append_right xs ys q m.member; short = m.short; matches = m.matches }

  in_one : (q : Prefix) → IsMatch (xs ++ ys) limit a q → IsMatch xs limit a q ⊎ IsMatch ys limit a q
  in_one q m = elim (Contains-append_cases xs ys q m.member) [
    | inl c ↦ inl (record { prefix = m.prefix; member = c; short = m.short; matches = m.matches })
    | inr c ↦ inr (record { prefix = m.prefix; member = c; short = m.short; matches = m.matches })
  ]

  pub longest_both : (p q : Option Prefix) → IsLongestMatch xs limit a p → IsLongestMatch ys limit a q → IsLongestMatch (xs ++ ys) limit a (longer_match p q)
  longest_both None None h k = λ r m. elim (in_one r m) [ inl x ↦ h r x | inr y ↦ k r y ]
  longest_both None (Some q) h k = (in_right q k.0, λ r m. elim (in_one r m) [ inl x ↦ absurd (h r x) | inr y ↦ k.1 r y ])
  longest_both (Some p) None h k = (in_left p h.0, λ r m. elim (in_one r m) [ inl x ↦ h.1 r x | inr y ↦ absurd (k r y) ])
  longest_both (Some p) (Some q) h k = elim (either (nat_lt p.len q.len)) [
    | inl is ↦ rw is (
      in_right q k.0,
      λ r m. elim (in_one r m) [
        | inl x ↦ (let le = h.1 r x in let lt = ltb-true p.len q.len is in omega (arith, le, lt))
        | inr y ↦ k.1 r y
      ],
    )
    | inr isnt ↦ rw isnt (
      in_left p h.0,
      λ r m. elim (in_one r m) [
        | inl x ↦ h.1 r x
        | inr y ↦ (let le = k.1 r y in let ge = ltb-false p.len q.len isnt in omega (arith, le, ge))
      ],
    )
  ]

-- what can cover afterwards: the entries before without those that go, and those that come
module _ (v : Known) (S T : Tables) (x : Shorts) (k : StandsFor v S) (h : AreShorts S T x) where
  short_after : (q : Prefix) → q.len < 32 → Contains (filter (is_beside x.gone) (map prefix_of v.rows) ++ x.come) q ↔ Contains (short_prefixes T) q
  short_after q short = (
    λ c. elim (Contains-append_cases (filter (is_beside x.gone) (map prefix_of v.rows)) x.come q c) [
      | inl left ↦ (let r = filter_from (is_beside x.gone) (map prefix_of v.rows) q left in
          let was = (row_short v S k q short).0 r.0 in
          elim (decide_short T q) [
            | inl still ↦ still
            | inr gone ↦ absurd (test_beside x.gone q r.1 ((h.gone q).1 (was, gone)))
          ])
      | inr came ↦ ((h.come q).0 came).0
    ],
    λ c. elim (decide_short S q) [
      | inl was ↦ Contains-append_left (filter (is_beside x.gone) (map prefix_of v.rows)) x.come q
          (filter_in (is_beside x.gone) (map prefix_of v.rows) q ((row_short v S k q short).1 was)
          (beside_test x.gone q (λ g. ((h.gone q).0 g).1 c)))
      | inr new ↦ Contains-append_right (filter (is_beside x.gone) (map prefix_of v.rows)) x.come q ((h.come q).1 (c, new))
    ],
  )

  pub matches_after : (order : List Prefix) (limit a : ℕ) (p q : Option Prefix) → order ≡ map prefix_of v.rows → limit ≤ 32
      → IsLongestMatch (filter (is_beside x.gone) order) limit a p → IsLongestMatch x.come limit a q
      → IsLongestMatch (short_prefixes T) limit a (longer_match p q)
  matches_after order limit a p q is le left came =
      match_moves (filter (is_beside x.gone) (map prefix_of v.rows) ++ x.come) (short_prefixes T) limit a le short_after (longer_match p q)
      (longest_both (filter (is_beside x.gone) (map prefix_of v.rows)) x.come limit a p q
      (subst (λ l. IsLongestMatch (filter (is_beside x.gone) l) limit a p) is left) came)

-- the cover
module _ (T : Tables) (good : ArePrefixes T) (a : ℕ) (small : a < 2 ^ 32) where
  pub cover_is : (p : Prefix) → IsLongestMatch (short_prefixes T) 32 a (Some p) → p ≡ cover T a
  unfolding cover
  cover_is p m = match_is_longest (short_prefixes T) (short_prefixes T) 32 a small good (λ q. (λ c. c, λ c. c)) (is_short_there T) p m

  pub cover_none : IsLongestMatch (short_prefixes T) 32 a None → everything ≡ cover T a
  unfolding cover
  cover_none m = no_match_is_longest (short_prefixes T) (short_prefixes T) 32 a small good (λ q. (λ c. c, λ c. c)) (is_short_there T) m

-- the one above a prefix
pub above_is : (U : Tables) (xs : List Prefix) (q : Prefix) → ArePrefixes U → q.len ≤ 32
    → ((e : Prefix) → e.len < 32 → Contains xs e ↔ Contains (short_prefixes U) e)
    → (o : Option Prefix) → IsLongestMatch xs q.len q.bits o → (c : Prefix) → (o ≡ Some c) ↔ IsAbove U q c
above_is U xs q good le same o m c = (λ e. to o m e, λ h. from o m h)
  where
    match_of : (r : Prefix) → Contains (short_prefixes U) r → r.len < q.len → contains r q.bits ≡ true → IsMatch xs q.len q.bits r
    match_of r d lt holds = record { prefix = good r d; member = (same r (omega (arith, lt, le))).1 d; short = lt; matches = holds }

    to : (o : Option Prefix) → IsLongestMatch xs q.len q.bits o → o ≡ Some c → IsAbove U q c
    to None m e = absurd (none_some c e)
    to (Some p) m e = subst (IsAbove U q) (some_is p c e) (record {
      member = (same p (let lt = m.0.short in omega (arith, lt, le))).0 m.0.member;
      shorter = m.0.short;
      holds = m.0.matches;
      longest = λ r d lt holds. m.1 r (match_of r d lt holds);
    })

    from : (o : Option Prefix) → IsLongestMatch xs q.len q.bits o → IsAbove U q c → o ≡ Some c
    from None m h = absurd (m c (match_of c h.member h.shorter h.holds))
    from (Some p) m h =
        let up = m.1 c (match_of c h.member h.shorter h.holds) in
        let lt = m.0.short in
        let down = h.longest p ((same p (omega (arith, lt, le))).0 m.0.member) lt m.0.matches in
        ap Some (one_match q.bits p c m.0.prefix (good c h.member) m.0.matches h.holds (omega (arith, up, down)))
