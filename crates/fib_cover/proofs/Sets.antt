-- A set with the members of a list: it grows with the list, and its longest match is the list's.
use Rattle.std.proofs.Common.{arith, ◌≡◌, ℕ, zero, suc, ◌+◌, ◌<◌, ◌≤◌, ◌^◌, List, [], ◌∷◌, ◌++◌, take, length, get_or, Some, None, ◌⊎◌, inl, inr, ◌↔◌, refl, sym, ◌∙◌, ap, subst}
use Rattle.std.specs.Prelude.{Contains}
use Rattle.std.proofs.lemmas.List.{take_more}
use Rattle.std.proofs.lemmas.List.Elements.{Contains-append_left, Contains-append_right, Contains-append_cases}
use Rattle.fib_addr.specs.Prefixes.{Prefix, IsPrefix}
use Rattle.fib_addr.specs.Longest.{everything, longest, IsLongest}
use Rattle.fib_addr.proofs.LongestLaws.{longest_is_longest, longest_is_unique}
use Rattle.fib_cover.specs.Covers.{ArePrefixes, IsMatch, IsLongestMatch}

in_one : {X : Type 0} (x y : X) → Contains (x ∷ []) y → x ≡ y
in_one x y (zero, lt, is) = is
in_one x y (suc k, lt, is) = absurd (omega (arith, lt))

pub one_in : (old new xs : List Prefix) (i : ℕ) (e : Prefix) → i < length xs → e ≡ get_or xs i e → ((p : Prefix) → Contains old p ↔ Contains (take i xs) p)
    → ((p : Prefix) → Contains new p ↔ Contains old p ⊎ (p ≡ e)) → (p : Prefix) → Contains new p ↔ Contains (take (i + 1) xs) p
one_in old new xs i e lt is same add p =
    let more : take (i + 1) xs ≡ take i xs ++ e ∷ [] = take_more xs i e lt ∙ ap (λ (x : Prefix). take i xs ++ x ∷ []) (sym is) in (
      λ c. subst (λ l. Contains l p) (sym more) (elim ((add p).0 c) [
        | inl early ↦ Contains-append_left (take i xs) (e ∷ []) p ((same p).0 early)
        | inr here ↦ Contains-append_right (take i xs) (e ∷ []) p (0, omega arith, sym here)
      ]),
      λ c. (add p).1 (elim (Contains-append_cases (take i xs) (e ∷ []) p (subst (λ l. Contains l p) more c)) [
        | inl early ↦ inl ((same p).1 early)
        | inr late ↦ inr (sym (in_one e p late))
      ]),
    )

pub take_whole : {X : Type 0} (xs : List X) (i : ℕ) → length xs ≤ i → take i xs ≡ xs
take_whole [] zero le = refl
take_whole [] (suc i) le = refl
take_whole (x ∷ xs) zero le = absurd (omega (arith, le))
take_whole (x ∷ xs) (suc i) le = ap (λ l. x ∷ l) (take_whole xs i (omega (arith, le)))

-- a set with the members of this list, all of which are shorter than the limit
module _ (members ps : List Prefix) (limit a : ℕ) (small : a < 2 ^ 32) (good : ArePrefixes members) (same : (q : Prefix) → Contains members q ↔ Contains ps q) (short : (q : Prefix) → Contains ps q → q.len < limit) where
  long : IsLongest a ps (longest a ps)
  long = longest_is_longest a ps small

  matched : (q : Prefix) → Contains ps q → IsLongest a ps q → IsMatch members limit a q
  matched q c h = record { prefix = good q ((same q).1 c); member = (same q).1 c; short = short q c; matches = h.matches }

  is_prefix : IsPrefix (longest a ps)
  is_prefix = elim long.member [
    | inl c ↦ good (longest a ps) ((same (longest a ps)).1 c)
    | inr e ↦ subst IsPrefix (sym e) (record { short = omega arith; fits = omega arith; cleared = refl })
  ]

  pub match_is_longest : (p : Prefix) → IsLongestMatch members limit a (Some p) → p ≡ longest a ps
  match_is_longest p m =
      let mine : IsLongest a ps p = record {
        member = inl ((same p).0 m.0.member);
        matches = m.0.matches;
        longest = λ q c w. m.1 q (record { prefix = good q ((same q).1 c); member = (same q).1 c; short = short q c; matches = w });
      } in
      longest_is_unique a ps p (longest a ps) m.0.prefix is_prefix mine long

  pub no_match_is_longest : IsLongestMatch members limit a None → everything ≡ longest a ps
  no_match_is_longest m = elim long.member [
    | inl c ↦ absurd (m (longest a ps) (matched (longest a ps) c long))
    | inr e ↦ sym e
  ]
