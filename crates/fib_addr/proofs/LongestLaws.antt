-- The longest match.
use Rattle.std.proofs.Common.{arith, ◌≡◌, ℕ, zero, suc, ◌-◌, ◌*◌, ◌/◌, ◌%◌, ◌^◌, ◌<◌, ◌≤◌, Bool, true, false, ◌==◌, List, [], ◌∷◌, nat_lt, ◌⊎◌, inl, inr, refl, sym, ◌∙◌, ap}
use Rattle.std.specs.Prelude.{Contains}
use Rattle.std.proofs.lemmas.Bool.Decides.{nat_tests}
use Rattle.std.proofs.Math.Pow.{pow_pos}
use Rattle.fib_addr.specs.Prefixes.{Prefix, IsPrefix, contains, size_of}
use Rattle.fib_addr.specs.Longest.{everything, longer, longest, IsLongest}
use Rattle.fib_addr.proofs.PrefixLaws.{same_fields}
use Rattle.fib_base_list.proofs.Lists.{either}

later : (p q : Prefix) (ps : List Prefix) → Contains ps q → Contains (p ∷ ps) q
later p q ps h = (suc h.0, omega (arith, h.1), h.2)

head_or : (p q : Prefix) (ps : List Prefix) → Contains (p ∷ ps) q → (p ≡ q) ⊎ Contains ps q
head_or p q ps (zero, lt, is) = inl is
head_or p q ps (suc k, lt, is) = inr (k, omega (arith, lt), is)

weaker : (p q : Prefix) (ps : List Prefix) → Contains ps q ⊎ (q ≡ everything) → Contains (p ∷ ps) q ⊎ (q ≡ everything)
weaker p q ps (inl h) = inl (later p q ps h)
weaker p q ps (inr e) = inr e

everything_matches : (a : ℕ) → a < 2 ^ 32 → contains everything a ≡ true
everything_matches a small = let e : a / 2 ^ 32 ≡ 0 = omega (arith, small) in grind (arith, nat_tests)

-- the head is the new answer
taken : (a : ℕ) (p q : Prefix) (ps : List Prefix) → contains p a ≡ true → q.len < p.len → IsLongest a ps q → IsLongest a (p ∷ ps) p
taken a p q ps c lt h = record {
  member = inl (zero, omega arith, refl);
  matches = c;
  longest = λ r k m. elim (head_or p r ps k) [
    | inl e ↦ (let n : r.len ≡ p.len = ap (λ (x : Prefix). x.len) (sym e) in omega (arith, n))
    | inr k ↦ (let le = h.longest r k m in omega (arith, le))
  ];
}

true_is : (b : Bool) → b ≡ true → b ≡ false → ⊥
true_is b t f = cc

-- the head doesn't match, or is no longer
passed : (a : ℕ) (p q : Prefix) (ps : List Prefix) → (contains p a ≡ true → p.len ≤ q.len) → IsLongest a ps q → IsLongest a (p ∷ ps) q
passed a p q ps short h = record {
  member = weaker p q ps h.member;
  matches = h.matches;
  longest = λ r k m. elim (head_or p r ps k) [
    | inl e ↦ (let n : r.len ≡ p.len = ap (λ (x : Prefix). x.len) (sym e) in let le = short (ap (λ (x : Prefix). contains x a) e ∙ m) in omega (arith, n, le))
    | inr k ↦ h.longest r k m
  ];
}

one_more : (a : ℕ) (p q : Prefix) (ps : List Prefix) → IsLongest a ps q → IsLongest a (p ∷ ps) (longer a p q)
unfolding longer
one_more a p q ps h =
    elim (either (contains p a)) [
      | inl c ↦ elim (either (nat_lt q.len p.len)) [
        | inl lt ↦ rw (c, lt) (taken a p q ps c (grind (arith, nat_tests)) h)
        | inr ge ↦ rw (c, ge) (passed a p q ps (λ _. grind (arith, nat_tests)) h)
      ]
      | inr n ↦ rw n (passed a p q ps (λ c. absurd (true_is (contains p a) c n)) h)
    ]

pub longest_is_longest : (a : ℕ) (ps : List Prefix) → a < 2 ^ 32 → IsLongest a ps (longest a ps)
unfolding longest
longest_is_longest a [] small = record {
  member = inr refl;
  matches = everything_matches a small;
  longest = λ q k m. absurd (omega (arith, k.1));
}
longest_is_longest a (p ∷ ps) small = one_more a p (longest a ps) ps (longest_is_longest a ps small)

-- no longest match is longer than another
no_longer : (a : ℕ) (ps : List Prefix) (p q : Prefix) → IsLongest a ps p → IsLongest a ps q → q.len ≤ p.len
no_longer a ps p q hp hq =
    elim hq.member [
      | inl k ↦ hp.longest q k hq.matches
      | inr e ↦ (let n : q.len ≡ 0 = ap (λ (x : Prefix). x.len) e in omega (arith, n))
    ]

same_parts : (a b c s t : ℕ) → s ≡ t → a / s == b / s ≡ true → a / t == c / t ≡ true → b / s ≡ c / s
same_parts a b c s t e h k = let f : (a / s == c / s) ≡ true = rw e k in grind (arith, nat_tests)

-- a number that s divides
multiple : (b s : ℕ) → b % s ≡ 0 → 0 < s → s * (b / s) ≡ b
multiple b s e pos = omega (arith, e, pos)

pub longest_is_unique : (a : ℕ) (ps : List Prefix) (p q : Prefix) → IsPrefix p → IsPrefix q → IsLongest a ps p → IsLongest a ps q → p ≡ q
longest_is_unique a ps p q fp fq hp hq =
    let up = no_longer a ps p q hp hq in
    let down = no_longer a ps q p hq hp in
    let lens : p.len ≡ q.len = omega (arith, up, down) in
    let sizes : size_of p.len ≡ size_of q.len = ap size_of lens in
    let parts = same_parts a p.bits q.bits (size_of p.len) (size_of q.len) sizes hp.matches hq.matches in
    let cleared : q.bits % size_of p.len ≡ 0 = rw sizes fq.cleared in
    let pb = multiple p.bits (size_of p.len) fp.cleared (pow_pos (32 - p.len)) in
    let qb = multiple q.bits (size_of p.len) cleared (pow_pos (32 - p.len)) in
    same_fields p q (sym pb ∙ ap (λ n. size_of p.len * n) parts ∙ qb, lens)
