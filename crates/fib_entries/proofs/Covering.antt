-- The longest match among entries is the cover.
use Rattle.std.proofs.Common.{arith, ◌≡◌, ℕ, ◌<◌, ◌^◌, map, Some, None, inl, subst}
use Rattle.std.specs.Prelude.{Contains, filter}
use Rattle.std.proofs.lemmas.Bool.{ltb-true}
use Rattle.std.proofs.lemmas.Bool.Decides.{nat_tests}
use Rattle.fib_addr.specs.Prefixes.{Prefix, IsPrefix}
use Rattle.fib_addr.specs.Longest.{IsLongest}
use Rattle.fib_addr.proofs.LongestLaws.{longest_is_unique}
use Rattle.fib_cover.specs.Covers.{IsMatch, IsLongestMatch}
use Rattle.fib_resolve.specs.Pairs.{entries, cover, is_short}
use Rattle.fib_resolve.specs.declared.types.Tables.{Tables}
use Rattle.fib_resolve.proofs.Covering.{cover_longest, filter_in, filter_from}
use Rattle.fib_resolve.proofs.PairLaws.{cover_short}
use Rattle.fib_resolve_changes.proofs.SamePairs.{map_from}
use Rattle.fib_resolve_changes.proofs.Targets.{cover_entry}
use Rattle.std.proofs.lemmas.Map.Views.{Contains-from_any}
use Rattle.fib_addr.proofs.PrefixLaws.{same_prefix-Decides}
use Rattle.fib_entries_rows.specs.Known.{Known, StandsFor, prefix_of}

module _ (v : Known) (S : Tables) (h : StandsFor v S) where
  good : (e : Prefix) → Contains (map prefix_of v.rows) e → IsPrefix e
  good e c = let r = map_from prefix_of v.rows e c in subst IsPrefix r.2 (h.rows r.0 r.1).prefix

  cover_in : (a : ℕ) → Contains (entries S) (cover S a)
  cover_in a = Contains-from_any (λ x y. (same_prefix-Decides x y).0) (cover S a) (entries S) (cover_entry S a)

  short_match : (a : ℕ) → a < 2 ^ 32 → IsMatch (map prefix_of v.rows) 32 a (cover S a)
  short_match a small =
      let l = cover_longest S a small in
      record {
        prefix = good (cover S a) ((h.entries (cover S a)).1 (cover_in a));
        member = (h.entries (cover S a)).1 (cover_in a);
        short = cover_short S a;
        matches = l.matches;
      }

  pub cover_found : (a : ℕ) (p : Prefix) → a < 2 ^ 32 → IsLongestMatch (map prefix_of v.rows) 32 a (Some p) → p ≡ cover S a
  cover_found a p small m =
      let l = cover_longest S a small in
      let mine : IsLongest a (filter is_short (entries S)) p = record {
        member = inl (filter_in is_short (entries S) p ((h.entries p).0 m.0.member) (let s = m.0.short in grind (arith, nat_tests, s)));
        matches = m.0.matches;
        longest = λ q c w. (let f = filter_from is_short (entries S) q c in
            let in_rows = (h.entries q).1 f.0 in
            m.1 q (record { prefix = good q in_rows; member = in_rows; short = ltb-true q.len 32 f.1; matches = w }));
      } in
      longest_is_unique a (filter is_short (entries S)) p (cover S a) m.0.prefix (good (cover S a) ((h.entries (cover S a)).1 (cover_in a))) mine l

  pub cover_none : (a : ℕ) → a < 2 ^ 32 → IsLongestMatch (map prefix_of v.rows) 32 a None → ⊥
  cover_none a small m = m (cover S a) (short_match a small)
