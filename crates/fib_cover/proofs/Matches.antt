-- A prefix that contains an address is that address with the bits past its length cleared.
use Rattle.std.proofs.Common.{arith, ◌≡◌, ℕ, ◌-◌, ◌*◌, ◌/◌, ◌%◌, ◌^◌, ◌<◌, ◌≤◌, true, List, inl, inr, refl, sym, ◌∙◌, ap, subst}
use Rattle.std.specs.Prelude.{Contains}
use Rattle.std.proofs.lemmas.Bool.{cases_lt}
use Rattle.std.proofs.lemmas.Bool.Decides.{Decides-eqb}
use Rattle.std.proofs.Math.Nat.{mul-mod_left, mul-div_left}
use Rattle.std.proofs.Math.Pow.{pow_pos}
use Rattle.fib_addr.specs.Prefixes.{Prefix, IsPrefix, contains, masked, size_of}
use Rattle.fib_addr.proofs.PrefixLaws.{same_fields}
use Rattle.fib_cover.specs.Covers.{IsMatch}

multiple : (b s : ℕ) → b % s ≡ 0 → 0 < s → s * (b / s) ≡ b
multiple b s e pos = omega (arith, e, pos)

whole : (a s : ℕ) → a / s * s ≤ a
whole a s = omega arith

mod_multiple : (q s : ℕ) → q * s % s ≡ 0
mod_multiple q s = mul-mod_left q s

quotient : (q s : ℕ) → 0 < s → q * s / s ≡ q
quotient q s pos = mul-div_left q pos

pub matched_is_masked : (a : ℕ) (p : Prefix) → IsPrefix p → contains p a ≡ true → p ≡ masked a p.len
matched_is_masked a p f m =
    let parts : a / size_of p.len ≡ p.bits / size_of p.len = (Decides-eqb (a / size_of p.len) (p.bits / size_of p.len)).0 m in
    let bits = multiple p.bits (size_of p.len) f.cleared (pow_pos (32 - p.len)) in
    same_fields p (masked a p.len) (sym bits ∙ (ap (λ n. size_of p.len * n) (sym parts) ∙ omega arith), refl)

-- the longest prefix of that length is one
pub masked_is_prefix : (a len : ℕ) → a < 2 ^ 32 → len ≤ 32 → IsPrefix (masked a len)
masked_is_prefix a len small short =
    let pos = pow_pos (32 - len) in
    record {
      short = short;
      fits = omega (arith, small, pos, whole a (size_of len));
      cleared = mod_multiple (a / size_of len) (size_of len);
    }

pub masked_matches : (a len : ℕ) → contains (masked a len) a ≡ true
masked_matches a len = (Decides-eqb (a / size_of len) (a / size_of len * size_of len / size_of len)).1 (sym (quotient (a / size_of len) (size_of len) (pow_pos (32 - len))))

-- the lengths that are left to look up
module _ (members : List Prefix) (limit a len : ℕ) where
  pub passes_one : ((q : Prefix) → IsMatch members limit a q → q.len < len) → (Contains members (masked a (len - 1)) → ⊥) → (q : Prefix) → IsMatch members limit a q → q.len < len - 1
  passes_one before none q m = elim (cases_lt q.len (len - 1)) [
    | inl lt ↦ lt
    | inr ge ↦ (let same : q.len ≡ len - 1 = omega (arith, ge, before q m) in
        absurd (none (subst (λ (p : Prefix). Contains members p) (matched_is_masked a q m.prefix m.matches ∙ ap (λ n. masked a n) same) m.member)))
  ]

  pub finds_one : a < 2 ^ 32 → len ≤ limit → limit ≤ 33 → 0 < len → ((q : Prefix) → IsMatch members limit a q → q.len < len) → Contains members (masked a (len - 1)) → IsMatch members limit a (masked a (len - 1)) × ((q : Prefix) → IsMatch members limit a q → q.len ≤ len - 1)
  finds_one small le most some before member = (
    record {
      prefix = masked_is_prefix a (len - 1) small (omega (arith, le, most));
      member = member;
      short = omega (arith, le, some);
      matches = masked_matches a (len - 1);
    },
    λ q m. omega (arith, before q m),
  )
