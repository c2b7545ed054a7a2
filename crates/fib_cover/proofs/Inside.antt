-- The prefixes inside one are those between it and its last address.
use Rattle.std.proofs.Common.{arith, ◌≡◌, ℕ, ◌+◌, ◌-◌, ◌*◌, ◌/◌, ◌%◌, ◌^◌, ◌<◌, ◌≤◌, ◌⊎◌, inl, inr, Bool, true, false, ⊎_elim, List, [], ◌∷◌, get_or, refl, sym, ◌∙◌, ap}
use Rattle.std.specs.Prelude.{nat_le, filter}
use Rattle.std.specs.List.{AllByRecursion}
use Rattle.std.specs.BTreeMap.Range.{IsLeBy, range_contains}
use Rattle.std.specs.declared.ops.Bound.TheVariants.{Included}
use Rattle.std.proofs.lemmas.Bool.{cases_lt}
use Rattle.std.proofs.lemmas.Bool.Decides.{nat_tests, Decides-eqb}
use Rattle.std.proofs.lemmas.List.Elements.{recursion_from_All, Contains-get_or}
use Rattle.std.proofs.lemmas.Map.Views.{IsInRange-from_range_contains, range_contains-from_IsInRange}
use Rattle.std.proofs.lemmas.Nat.{pow-add}
use Rattle.std.proofs.Math.Nat.{mul_assoc, mul-mod_right, div-eq_of_lt, add-mul-div_left}
use Rattle.std.proofs.Math.Pow.{pow_pos}
use Rattle.fib_addr.specs.Prefixes.{Prefix, IsPrefix, contains, host, size_of}
use Rattle.fib_cover.specs.Covers.{prefix_cmp, is_inside, ArePrefixes}
use Rattle.fib_cover.proofs.Order.{prefix_total}
use Rattle.fib_base_list.proofs.Booleans.{and_both}

true_from : (b c : Bool) → (b ≡ true → c ≡ true) → (c ≡ true → b ≡ true) → b ≡ c
true_from true c f g = sym (f refl)
true_from false true f g = g refl
true_from false false f g = refl

-- the last of a prefix, as a host
abbrev pub last_of : Prefix → Prefix
last_of p = host (p.bits + size_of p.len - 1)

-- what the order says of two prefixes
le_facts : (p q : Prefix) → IsLeBy prefix_cmp p q → (p.bits < q.bits) ⊎ ((p.bits ≡ q.bits) × (p.len ≤ q.len))
le_facts p q h = grind (arith, nat_tests)

le_from : (p q : Prefix) → (p.bits < q.bits) ⊎ ((p.bits ≡ q.bits) × (p.len ≤ q.len)) → IsLeBy prefix_cmp p q
le_from p q (inl h) = grind (arith, nat_tests)
le_from p q (inr h) = grind (arith, nat_tests)

-- a number in a block of s has its quotient
near : (s b c : ℕ) → 0 < s → b % s ≡ 0 → b ≤ c → c ≤ b + s - 1 → c / s ≡ b / s
near s b c pos whole le up =
    let at : s * (b / s) ≡ b = omega (arith, whole, pos) in
    let sum : (c - b) + s * (b / s) ≡ c = omega (arith, at, le) in
    let small : (c - b) / s ≡ 0 = div-eq_of_lt (omega (arith, up, le, pos)) in
    ap (λ n. n / s) (sym sum) ∙ (add-mul-div_left (c - b) (b / s) pos ∙ omega (arith, small))

-- and a number with that quotient is in the block
block : (s b c : ℕ) → 0 < s → b % s ≡ 0 → c / s ≡ b / s → (b ≤ c) × (c ≤ b + s - 1)
block s b c pos whole e =
    let same : s * (c / s) ≡ s * (b / s) = ap (λ n. s * n) e in
    (omega (arith, same, whole, pos), omega (arith, same, whole, pos))

-- a prefix that begins within another and not at its start is longer
longer : (p q : Prefix) → IsPrefix p → IsPrefix q → p.bits < q.bits → q.bits ≤ p.bits + size_of p.len - 1 → p.len ≤ q.len
longer p q fp fq lt up = elim (cases_lt q.len p.len) [
  | inr ge ↦ ge
  | inl short ↦ (let pos = pow_pos (32 - p.len) in
      let apart : 32 - q.len ≡ (32 - p.len) + (p.len - q.len) = omega (arith, short, fp.short) in
      let sizes : size_of q.len ≡ size_of p.len * 2 ^ (p.len - q.len) = ap (λ n. 2 ^ n) apart ∙ pow-add 2 (32 - p.len) (p.len - q.len) in
      let at : size_of q.len * (q.bits / size_of q.len) ≡ q.bits = omega (arith, fq.cleared, pow_pos (32 - q.len)) in
      let whole : q.bits % size_of p.len ≡ 0 = multiple_of (size_of p.len) (2 ^ (p.len - q.len)) (size_of q.len) (q.bits / size_of q.len) q.bits sizes at in
      let same = near (size_of p.len) p.bits q.bits pos fp.cleared (omega (arith, lt)) up in
      let products : size_of p.len * (q.bits / size_of p.len) ≡ size_of p.len * (p.bits / size_of p.len) = ap (λ n. size_of p.len * n) same in
      absurd (omega (arith, lt, products, whole, fp.cleared, pos)))
]
  where
    multiple_of : (s k t n b : ℕ) → t ≡ s * k → t * n ≡ b → b % s ≡ 0
    multiple_of s k t n b e f =
        let g : b ≡ s * (k * n) = sym f ∙ (ap (λ m. m * n) e ∙ mul_assoc s k n) in
        ap (λ m. m % s) g ∙ mul-mod_right s (k * n)

module _ (p q : Prefix) (fp : IsPrefix p) (fq : IsPrefix q) where
  pos : 0 < size_of p.len
  pos = pow_pos (32 - p.len)

  between_inside : range_contains prefix_cmp (Included p) (Included (last_of p)) q ≡ true → is_inside p q ≡ true
  between_inside h =
      let r = IsInRange-from_range_contains prefix_total (Included p) (Included (last_of p)) q h in
      inside (le_facts p q r.0) (le_facts q (last_of p) r.1)
    where
      inside : (p.bits < q.bits) ⊎ ((p.bits ≡ q.bits) × (p.len ≤ q.len)) → (q.bits < p.bits + size_of p.len - 1) ⊎ ((q.bits ≡ p.bits + size_of p.len - 1) × (q.len ≤ 32)) → is_inside p q ≡ true
      inside low high =
          let up : q.bits ≤ p.bits + size_of p.len - 1 = ⊎_elim (λ l. omega (arith, l)) (λ e. omega (arith, e.0)) high in
          let le : p.bits ≤ q.bits = ⊎_elim (λ l. omega (arith, l)) (λ e. omega (arith, e.0)) low in
          let len : p.len ≤ q.len = ⊎_elim (λ l. longer p q fp fq l up) (λ e. e.1) low in
          let same = (Decides-eqb (q.bits / size_of p.len) (p.bits / size_of p.len)).1 (near (size_of p.len) p.bits q.bits pos fp.cleared le up) in
          rw same (grind (arith, nat_tests))

  inside_between : is_inside p q ≡ true → range_contains prefix_cmp (Included p) (Included (last_of p)) q ≡ true
  inside_between h =
      let both = and_both (contains p q.bits) (nat_le p.len q.len) h in
      let same = (Decides-eqb (q.bits / size_of p.len) (p.bits / size_of p.len)).0 both.0 in
      let b = block (size_of p.len) p.bits q.bits pos fp.cleared same in
      let len : p.len ≤ q.len = grind (arith, nat_tests, both.1) in
      range_contains-from_IsInRange prefix_total (Included p) (Included (last_of p)) q (
        le_from p q (elim (cases_lt p.bits q.bits) [ inl lt ↦ inl lt | inr ge ↦ inr (omega (arith, ge, b.0), len) ]),
        le_from q (last_of p) (elim (cases_lt q.bits (p.bits + size_of p.len - 1)) [ inl lt ↦ inl lt | inr ge ↦ inr (omega (arith, ge, b.1), fq.short) ]),
      )

  same_test : range_contains prefix_cmp (Included p) (Included (last_of p)) q ≡ is_inside p q
  same_test = true_from (range_contains prefix_cmp (Included p) (Included (last_of p)) q) (is_inside p q) between_inside inside_between

filter_agree_on : {A : Type 0} (f g : A → Bool) (xs : List A) → AllByRecursion (λ x. f x ≡ g x) xs → filter f xs ≡ filter g xs
filter_agree_on f g [] h = refl
filter_agree_on f g (x ∷ xs) h = rw (h.0, filter_agree_on f g xs h.1) refl

pub filter_inside : (p : Prefix) (members : List Prefix) → IsPrefix p → ArePrefixes members → filter (range_contains prefix_cmp (Included p) (Included (last_of p))) members ≡ filter (is_inside p) members
filter_inside p members fp all =
    filter_agree_on (range_contains prefix_cmp (Included p) (Included (last_of p))) (is_inside p) members
    (recursion_from_All (λ q. range_contains prefix_cmp (Included p) (Included (last_of p)) q ≡ is_inside p q) members (λ k d l. same_test p (get_or members k d) fp (all (get_or members k d) (Contains-get_or members k d l))))
