-- The cover of an address among the prefixes of all entries.
use Rattle.std.proofs.Common.{arith, ◌≡◌, ◌↔◌, ◌<◌, ◌^◌, ℕ, true, List, Some, None, inl, inr, refl, sym, subst}
use Rattle.std.specs.Prelude.{Contains, filter}
use Rattle.std.proofs.lemmas.Bool.{ltb-true}
use Rattle.std.proofs.lemmas.Bool.Decides.{nat_tests}
use Rattle.fib_addr.specs.Prefixes.{Prefix, IsPrefix, contains}
use Rattle.fib_addr.specs.Longest.{IsLongest, everything, longest}
use Rattle.fib_addr.proofs.LongestLaws.{longest_is_longest, longest_is_unique}
use Rattle.fib_cover.specs.Covers.{ArePrefixes, IsLongestMatch, IsMatch}
use Rattle.fib_resolve.specs.Pairs.{cover, entries, is_short}
use Rattle.fib_resolve.specs.declared.types.Tables.{Tables}
use Rattle.fib_resolve.proofs.Covering.{cover_longest, filter_from, filter_in}

pub whole_prefix : IsPrefix everything
whole_prefix = record { short = omega arith; fits = omega arith; cleared = refl }

pub short_in : (p : Prefix) → p.len < 32 → is_short p ≡ true
short_in p lt = grind (arith, nat_tests)

-- the longest match of a set
module _ (order : List Prefix) (a : ℕ) (small : a < 2 ^ 32) (good : ArePrefixes order) where
  long : IsLongest a (filter is_short order) (longest a (filter is_short order))
  long = longest_is_longest a (filter is_short order) small

  match_of : (q : Prefix) → Contains (filter is_short order) q → contains q a ≡ true → IsMatch order 32 a q
  match_of q c w = (let f = filter_from is_short order q c in
      record { prefix = good q f.0; member = f.0; short = ltb-true q.len 32 f.1; matches = w })

  long_prefix : IsPrefix (longest a (filter is_short order))
  long_prefix = elim long.member [
    | inl c ↦ good (longest a (filter is_short order)) (filter_from is_short order (longest a (filter is_short order)) c).0
    | inr e ↦ subst IsPrefix (sym e) whole_prefix
  ]

  pub found_cover : (p : Prefix) → IsLongestMatch order 32 a (Some p) → p ≡ longest a (filter is_short order)
  found_cover p m =
      let mine : IsLongest a (filter is_short order) p = record {
        member = inl (filter_in is_short order p m.0.member (short_in p m.0.short));
        matches = m.0.matches;
        longest = λ q c w. m.1 q (match_of q c w);
      } in
      longest_is_unique a (filter is_short order) p (longest a (filter is_short order)) m.0.prefix long_prefix mine long

  pub no_cover : IsLongestMatch order 32 a None → everything ≡ longest a (filter is_short order)
  no_cover m = elim long.member [
    | inl c ↦ absurd (m (longest a (filter is_short order)) (match_of (longest a (filter is_short order)) c long.matches))
    | inr e ↦ sym e
  ]

-- the prefixes of all entries, which are those of the tables
module _ (S : Tables) (order : List Prefix) (a : ℕ) (small : a < 2 ^ 32) (good : ArePrefixes order)
    (same : (e : Prefix) → Contains order e ↔ Contains (entries S) e) where
  there : (q : Prefix) → Contains (filter is_short (entries S)) q → Contains (filter is_short order) q
  there q c = (let f = filter_from is_short (entries S) q c in filter_in is_short order q ((same q).1 f.0) f.1)

  back : (q : Prefix) → Contains (filter is_short order) q → Contains (filter is_short (entries S)) q
  back q c = (let f = filter_from is_short order q c in filter_in is_short (entries S) q ((same q).0 f.0) f.1)

  cover_here : IsLongest a (filter is_short order) (cover S a)
  cover_here = (let l = cover_longest S a small in record {
    member = elim l.member [ inl c ↦ inl (there (cover S a) c) | inr e ↦ inr e ];
    matches = l.matches;
    longest = λ q c w. l.longest q (back q c) w;
  })

  cover_prefix : IsPrefix (cover S a)
  cover_prefix = elim cover_here.member [
    | inl c ↦ good (cover S a) (filter_from is_short order (cover S a) c).0
    | inr e ↦ subst IsPrefix (sym e) whole_prefix
  ]

  pub cover_told : longest a (filter is_short order) ≡ cover S a
  cover_told =
      longest_is_unique a (filter is_short order) (longest a (filter is_short order)) (cover S a) (long_prefix order a small good) cover_prefix
      (longest_is_longest a (filter is_short order) small) cover_here
