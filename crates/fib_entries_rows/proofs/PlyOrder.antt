-- Which plies on the way to a prefix are on the way to another in order: those before and after it tell.
use Rattle.std.proofs.Common.{arith, ◌≡◌, ℕ, zero, suc, ◌+◌, ◌-◌, ◌*◌, ◌/◌, ◌%◌, ◌^◌, ◌<◌, ◌≤◌, true, ◌||◌, List, [], ◌∷◌, length, Some, ◌⊎◌, inl, inr, refl, sym, ◌∙◌, ap, subst, slice_get}
use Rattle.std.specs.Prelude.{Contains, nat_lt}
use Rattle.std.specs.List.{AllByRecursion}
use Rattle.std.specs.List.Sorted.{IsStrictlySortedBy}
use Rattle.std.specs.Ordering.{nat_cmp, ordering_then}
use Rattle.std.specs.declared.cmp.Ordering.{Ordering}
use Rattle.std.specs.declared.cmp.Ordering.TheVariants.{Less, Equal, Greater}
use Rattle.std.proofs.lemmas.Bool.{cases_lt, cases_eq, ltb-true, lt-ltb}
use Rattle.std.proofs.lemmas.Bool.Decides.{nat_tests}
use Rattle.std.proofs.lemmas.Nat.{pow-add, le-div}
use Rattle.std.proofs.Math.Nat.{mul_assoc, mul-mod_right, mul-div_left, div-mul-le_self, mul-div-le}
use Rattle.std.proofs.Math.Pow.{pow_pos}
use Rattle.fib_base_list.proofs.Lists.{Contains-nil}
use Rattle.fib_base_list.proofs.Booleans.{and_both, or_left, or_right}
use Rattle.fib_addr.specs.Prefixes.{Prefix, IsPrefix, same_prefix, masked, size_of}
use Rattle.fib_addr.proofs.PrefixLaws.{same_prefix-Decides}
use Rattle.fib_cover.specs.Covers.{prefix_cmp, IsAscending, ArePrefixes}
use Rattle.fib_resolve_changes.proofs.Edits.{in_cases}
use Rattle.fib_base_interned.proofs.Finding.{some_is, none_some, contains_at}
use Rattle.fib_entries_rows.specs.inner.Plies.{is_on_way, before_of, IsGap}
use Rattle.fib_entries_rows.proofs.Looking.{at_place}

-- the order by bits, then length
pub less_parts : (p q : Prefix) → prefix_cmp p q ≡ Less → (p.bits < q.bits) ⊎ ((p.bits ≡ q.bits) × (p.len < q.len))
less_parts p q h = by (nat_cmp p.bits q.bits) (nat_cmp p.len q.len) refl refl h
  where
    off_less : (a b : ℕ) → nat_cmp a b ≡ Less → a < b
    off_less a b e = grind (arith, nat_tests)

    off_same : (a b : ℕ) → nat_cmp a b ≡ Equal → a ≡ b
    off_same a b e = grind (arith, nat_tests)

    by : (x y : Ordering) → nat_cmp p.bits q.bits ≡ x → nat_cmp p.len q.len ≡ y → ordering_then x y ≡ Less → (p.bits < q.bits) ⊎ ((p.bits ≡ q.bits) × (p.len < q.len))
    by Less y e f k = inl (off_less p.bits q.bits e)
    by Equal y e f k = inr (off_same p.bits q.bits e, off_less p.len q.len (f ∙ k))
    by Greater y e f k = absurd (clash k)
      where
        clash : Greater ≡ Less → ⊥
        clash e = (cc)

pub less_bits : (p q : Prefix) → prefix_cmp p q ≡ Less → p.bits ≤ q.bits
less_bits p q h = elim (less_parts p q h) [ inl lt ↦ omega (arith, lt) | inr both ↦ (let e = both.0 in omega (arith, e)) ]

-- what stands earlier in order is less
pub ordered_at : (order : List Prefix) → IsAscending order → (i j : ℕ) (q r : Prefix) → i < j → slice_get order i ≡ Some q → slice_get order j ≡ Some r → prefix_cmp q r ≡ Less
unfolding IsStrictlySortedBy
ordered_at [] asc i j q r lt a b = absurd (none_some q a)
ordered_at (x ∷ xs) asc zero zero q r lt a b = absurd (omega (arith, lt))
ordered_at (x ∷ xs) asc zero (suc j) q r lt a b = subst (λ z. prefix_cmp z r ≡ Less) (some_is x q a) (later xs asc.0 j b)
  where
    later : (ys : List Prefix) → AllByRecursion (λ z. prefix_cmp x z ≡ Less) ys → (k : ℕ) → slice_get ys k ≡ Some r → prefix_cmp x r ≡ Less
    later [] all k at = absurd (none_some r at)
    later (y ∷ ys) all zero at = subst (λ z. prefix_cmp x z ≡ Less) (some_is y r at) all.0
    later (y ∷ ys) all (suc k) at = later ys all.1 k at
ordered_at (x ∷ xs) asc (suc i) zero q r lt a b = absurd (omega (arith, lt))
ordered_at (x ∷ xs) asc (suc i) (suc j) q r lt a b = ordered_at xs asc.1 i j q r (omega (arith, lt)) a b

pub index_of : {X : Type 0} (xs : List X) (x : X) → Contains xs x → (j : ℕ) × (slice_get xs j ≡ Some x)
index_of [] x c = absurd (Contains-nil x c)
index_of (y ∷ ys) x c = elim (in_cases y x ys c) [ inl is ↦ (0, ap Some is) | inr later ↦ (let g = index_of ys x later in (suc g.0, g.1)) ]

-- a place up to one that is there is there
pub exists_at : {X : Type 0} (xs : List X) (i j : ℕ) (x : X) → i ≤ j → slice_get xs j ≡ Some x → (y : X) × (slice_get xs i ≡ Some y)
exists_at [] i j x le at = absurd (none_some x at)
exists_at (z ∷ zs) zero j x le at = (z, refl)
exists_at (z ∷ zs) (suc i) zero x le at = absurd (omega (arith, le))
exists_at (z ∷ zs) (suc i) (suc j) x le at = exists_at zs i j x (omega (arith, le)) at

-- the parts of four bits each that two addresses share
quotients : (x y s : ℕ) → 0 < s → x ≤ y → x / s ≤ y / s
quotients x y s pos le = (let a = div-mul-le_self x s in le-div (x / s) y s pos (omega (arith, a, le)))

multiple_of : (s k t n b : ℕ) → t ≡ s * k → t * n ≡ b → b % s ≡ 0
multiple_of s k t n b e f =
    let g : b ≡ s * (k * n) = sym f ∙ (ap (λ m. m * n) e ∙ mul_assoc s k n) in
    ap (λ m. m % s) g ∙ mul-mod_right s (k * n)

multiple : (b s : ℕ) → b % s ≡ 0 → 0 < s → s * (b / s) ≡ b
multiple b s e pos = omega (arith, e, pos)

-- a prefix that is no longer begins a block
begins : (n : Prefix) (len : ℕ) → IsPrefix n → len ≤ 32 → n.len ≤ len → size_of len * (n.bits / size_of len) ≡ n.bits
begins n len f small short =
    let apart : 32 - n.len ≡ (32 - len) + (len - n.len) = omega (arith, small, short) in
    let sizes : size_of n.len ≡ size_of len * 2 ^ (len - n.len) = ap (λ m. 2 ^ m) apart ∙ pow-add 2 (32 - len) (len - n.len) in
    let at : size_of n.len * (n.bits / size_of n.len) ≡ n.bits = multiple n.bits (size_of n.len) f.cleared (pow_pos (32 - n.len)) in
    multiple n.bits (size_of len) (multiple_of (size_of len) (2 ^ (len - n.len)) (size_of n.len) (n.bits / size_of n.len) n.bits sizes at) (pow_pos (32 - len))

squeeze : (x y z : ℕ) → x ≤ y → y ≤ z → x ≡ z → y ≡ x
squeeze x y z a b e = omega (arith, a, b, e)

-- what begins a block of an address is no greater
no_greater : (n a s : ℕ) → s * (n / s) ≡ n → n / s ≡ a / s → n ≤ a
no_greater n a s at same =
    let prod : s * (n / s) ≡ s * (a / s) = ap (λ m. s * m) same in
    let le = mul-div-le a s in
    under n a (s * (n / s)) (s * (a / s)) at prod le
  where
    under : (n a x y : ℕ) → x ≡ n → x ≡ y → y ≤ a → n ≤ a
    under n a x y e f le = omega (arith, e, f, le)

-- between p and what shares a block with it, all share it, and are longer than the block
after_shares : (p n e : Prefix) (len : ℕ) → IsPrefix n → len ≤ 32 → len < p.len → prefix_cmp p n ≡ Less → n.bits ≤ e.bits → p.bits / size_of len ≡ e.bits / size_of len → (len < n.len) × (p.bits / size_of len ≡ n.bits / size_of len)
after_shares p n e len f small longer less high same =
    let pos = pow_pos (32 - len) in
    let low = quotients p.bits n.bits (size_of len) pos (less_bits p n less) in
    let top = quotients n.bits e.bits (size_of len) pos high in
    let block = squeeze (p.bits / size_of len) (n.bits / size_of len) (e.bits / size_of len) low top same in (
      elim (cases_lt len n.len) [
        | inl lt ↦ lt
        | inr ge ↦ (let le = no_greater n.bits p.bits (size_of len) (begins n len f small ge) block in
            elim (less_parts p n less) [ inl lt ↦ absurd (omega (arith, lt, le)) | inr both ↦ (let lt = both.1 in absurd (omega (arith, lt, ge, longer))) ])
      ],
      sym block,
    )

before_shares : (p n e : Prefix) (len : ℕ) → IsPrefix n → len ≤ 32 → len < e.len → (e ≡ n) ⊎ (prefix_cmp e n ≡ Less) → n.bits ≤ p.bits → p.bits / size_of len ≡ e.bits / size_of len → (len < n.len) × (p.bits / size_of len ≡ n.bits / size_of len)
before_shares p n e len f small longer (inl is) high same = (subst (λ z. len < z.len) is longer, same ∙ ap (λ z. z.bits / size_of len) is)
before_shares p n e len f small longer (inr less) high same =
    let pos = pow_pos (32 - len) in
    let low = quotients e.bits n.bits (size_of len) pos (less_bits e n less) in
    let top = quotients n.bits p.bits (size_of len) pos high in
    let block = squeeze (e.bits / size_of len) (n.bits / size_of len) (p.bits / size_of len) low top (sym same) in (
      elim (cases_lt len n.len) [
        | inl lt ↦ lt
        | inr ge ↦ (let le = no_greater n.bits e.bits (size_of len) (begins n len f small ge) block in
            elim (less_parts e n less) [ inl lt ↦ absurd (omega (arith, lt, le)) | inr both ↦ (let lt = both.1 in absurd (omega (arith, lt, ge, longer))) ])
      ],
      same ∙ sym block,
    )

-- the test by numbers
pub on_way_from : (p e : Prefix) (k : ℕ) → is_on_way p k (Some e) ≡ true → (4 * k < e.len) × (p.bits / size_of (4 * k) ≡ e.bits / size_of (4 * k))
on_way_from p e k h =
    let both = and_both (nat_lt (4 * k) e.len) (same_prefix (masked p.bits (4 * k)) (masked e.bits (4 * k))) h in
    let bits = ap (λ z. z.bits / size_of (4 * k)) ((same_prefix-Decides (masked p.bits (4 * k)) (masked e.bits (4 * k))).0 both.1) in
    let pos = pow_pos (32 - 4 * k) in
    (ltb-true (4 * k) e.len both.0, sym (mul-div_left (p.bits / size_of (4 * k)) pos) ∙ (bits ∙ mul-div_left (e.bits / size_of (4 * k)) pos))

pub on_way_to : (p e : Prefix) (k : ℕ) → 4 * k < e.len → p.bits / size_of (4 * k) ≡ e.bits / size_of (4 * k) → is_on_way p k (Some e) ≡ true
on_way_to p e k lt same =
    rw (lt-ltb (4 * k) e.len lt) ((same_prefix-Decides (masked p.bits (4 * k)) (masked e.bits (4 * k))).1 (ap (λ (q : ℕ). record { bits = q * size_of (4 * k); len = 4 * k }) same))

-- what shares a ply with p leaves it shared by the prefix before or that after p
pub shared_near : (order : List Prefix) → IsAscending order → ArePrefixes order → (place : ℕ) (p : Prefix) → IsGap order place p → p.len ≤ 32 → (k : ℕ) → 4 * k < p.len → (e : Prefix) → Contains order e → is_on_way p k (Some e) ≡ true
    → (is_on_way p k (before_of order place) || is_on_way p k (slice_get order place)) ≡ true
shared_near order asc good place p gap short k deep e c way =
    let g = index_of order e c in
    let f = on_way_from p e k way in
    elim (cases_lt g.0 place) [
      | inl low ↦ or_left (is_on_way p k (before_of order place)) (is_on_way p k (slice_get order place)) (left place g.0 g.1 low gap.inside gap.before)
      | inr high ↦ or_right (is_on_way p k (before_of order place)) (is_on_way p k (slice_get order place)) (right g.0 g.1 high)
    ]
  where
    small : 4 * k ≤ 32
    small = omega (arith, deep, short)

    left : (place j : ℕ) → slice_get order j ≡ Some e → j < place → place ≤ length order → ((j : ℕ) (q : Prefix) → slice_get order j ≡ Some q → j < place → prefix_cmp q p ≡ Less) → is_on_way p k (before_of order place) ≡ true
    left zero j at lt inside before = absurd (omega (arith, lt))
    left (suc m) j at lt inside before =
        let n = at_place (λ q. q) order m (omega (arith, inside)) in
        let close : (e ≡ n.0) ⊎ (prefix_cmp e n.0 ≡ Less) = elim (cases_eq j m) [
          | inl same ↦ inl (some_is e n.0 (sym at ∙ (ap (slice_get order) same ∙ n.1)))
          | inr off ↦ inr (ordered_at order asc j m e n.0 (omega (arith, lt, off)) at n.1)
        ] in
        let f = on_way_from p e k way in
        let s = before_shares p n.0 e (4 * k) (good n.0 (contains_at order m n.0 n.1)) small f.0 close (less_bits n.0 p (before m n.0 n.1 (omega arith))) f.1 in
        ap (is_on_way p k) n.1 ∙ on_way_to p n.0 k s.0 s.1

    right : (j : ℕ) → slice_get order j ≡ Some e → place ≤ j → is_on_way p k (slice_get order place) ≡ true
    right j at le =
        let n = exists_at order place j e le at in
        let high : n.0.bits ≤ e.bits = elim (cases_eq place j) [
          | inl same ↦ (let b = ap (λ z. z.bits) (some_is e n.0 (sym at ∙ (ap (slice_get order) (sym same) ∙ n.1))) in omega (arith, b))
          | inr off ↦ less_bits n.0 e (ordered_at order asc place j n.0 e (omega (arith, le, off)) n.1 at)
        ] in
        let f = on_way_from p e k way in
        let s = after_shares p n.0 e (4 * k) (good n.0 (contains_at order place n.0 n.1)) small deep (gap.after place n.0 n.1 (omega arith)) high f.1 in
        ap (is_on_way p k) n.1 ∙ on_way_to p n.0 k s.0 s.1
