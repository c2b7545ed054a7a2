-- The first row from a key on tells whether a block holds a prefix longer than itself.
use Rattle.std.proofs.Common.{arith, ◌≡◌, ℕ, zero, suc, ◌+◌, ◌*◌, ◌-◌, ◌/◌, ◌%◌, ◌^◌, ◌<◌, ◌≤◌, inl, inr, Bool, true, false, cond, eq-eqb, ne_eqb, List, [], ◌∷◌, Option, Some, None, refl, sym, ap, ◌∙◌, subst}
use Rattle.std.specs.Prelude.{◌==◌, if◌then◌else◌, nat_le, nat_lt, filter, IsTrue}
use Rattle.std.specs.List.{AllByRecursion}
use Rattle.std.proofs.lemmas.Bool.Decides.{nat_tests}
use Rattle.std.proofs.lemmas.Bool.{cases_lt}
use Rattle.std.proofs.lemmas.Nat.{pow_pos, pow-add, shr-shr, mul-le}
use Rattle.std.proofs.Math.Nat.{div-mul-le_self, div-eq_of_lt-le, div-add-mod, mul-mod_left}
use native.Mathlib.Decide.{ℕ_discrete}
use mathlib.Core.Logic.{dite}
use Rattle.fib_addr.specs.Prefixes.{Prefix, IsPrefix}
use Rattle.fib_base_ordered.specs.Sets.{IsAscending, found, from, first_of}
use Rattle.fib_core_promise.specs.Matches.{look_of, best_block, or_else}
use Rattle.fib_ply.specs.Prefixes.{Needs}
use Rattle.fib_ply.specs.Rows.{held, ArePrefixes, rank}
use Rattle.fib_ply.specs.declared.rows.Row.{Row}
use Rattle.fib_ply.proofs.Adds.{from_fits, to_fits, last_below}
use Rattle.fib_ply.proofs.Pushes.{block_end}
use Rattle.fib_ply.proofs.Rowing.{held_found, object_of, key}

le_true : (a b : ℕ) → a ≤ b → nat_le a b ≡ true
le_true a b h = grind (arith, nat_tests)

le_is : (a b : ℕ) → nat_le a b ≡ true → a ≤ b
le_is a b h = grind (arith, nat_tests)

le_not : (a b : ℕ) → nat_le a b ≡ false → b < a
le_not a b h = grind (arith, nat_tests)

pub some_is : {T : Type 0} (x y : T) → Some x ≡ Some y → x ≡ y
some_is x y e = cc

pub none_not : {T : Type 0} (x : T) → None ≡ Some x → ⊥
none_not x e = cc

-- what holds of each row holds of the first that is kept
first_each : (P : Row → Type 0) (p : Row → Bool) (rows : List Row) → AllByRecursion P rows → (r : Row) → first_of (filter p rows) ≡ Some r → P r
first_each P p [] h r e = absurd (none_not r e)
first_each P p (x ∷ xs) h r e = by_bool (p x) (first_each P p xs h.1 r) e
  where
    by_bool : (b : Bool) → (first_of (filter p xs) ≡ Some r → P r) → first_of (cond b (x ∷ filter p xs) (filter p xs)) ≡ Some r → P r
    by_bool true rest e = subst P (some_is x r e) h.0
    by_bool false rest e = rest e

module _ (low : ℕ) where
  kept : Row → Bool
  kept x = nat_le low (rank x)

  first_low : (rows : List Row) → (r : Row) → first_of (from rank low rows) ≡ Some r → low ≤ rank r
  first_low [] r e = absurd (none_not r e)
  first_low (x ∷ xs) r e = by_bool (nat_le low (rank x)) refl (first_low xs r) e
    where
      by_bool : (b : Bool) → nat_le low (rank x) ≡ b → (first_of (from rank low xs) ≡ Some r → low ≤ rank r) → first_of (cond b (x ∷ from rank low xs) (from rank low xs)) ≡ Some r → low ≤ rank r
      by_bool true is rest e = subst (λ (i : Row). low ≤ rank i) (some_is x r e) (le_is low (rank x) is)
      by_bool false is rest e = rest e

  -- the first row is found by its key
  first_found : (rows : List Row) → IsAscending rank rows → (r : Row) → first_of (from rank low rows) ≡ Some r → found rank rows (rank r) ≡ Some r
  first_found [] asc r e = absurd (none_not r e)
  first_found (x ∷ xs) asc r e = by_bool (nat_le low (rank x)) (first_found xs asc.1 r) e
    where
      by_bool : (b : Bool) → (first_of (from rank low xs) ≡ Some r → found rank xs (rank r) ≡ Some r) → first_of (cond b (x ∷ from rank low xs) (from rank low xs)) ≡ Some r → (if rank x == rank r then Some x else found rank xs (rank r)) ≡ Some r
      by_bool true rest e = let f : rank x ≡ rank r = ap rank (some_is x r e) in let t : (rank x == rank r) ≡ true = eq-eqb (rank x) (rank r) f in rw t e
      by_bool false rest e =
          let more : rank x < rank r = first_each (λ y. rank x < rank y) (λ y. nat_le low (rank y)) xs asc.0 r e in
          let t : (rank x == rank r) ≡ false = ne_eqb (rank x) (rank r) (λ f. omega (arith, f, more)) in
          rw t (rest e)

  -- a row that is found lies at or after the first
  found_each : (P : Row → Type 0) (rows : List Row) → AllByRecursion P rows → (k : ℕ) (q : Row) → found rank rows k ≡ Some q → P q × (rank q ≡ k)
  found_each P [] h k q e = absurd (none_not q e)
  found_each P (x ∷ xs) h k q e = dite (ℕ_discrete (rank x) k)
      (λ same. let t : (rank x == k) ≡ true = eq-eqb (rank x) k same in
      let f : x ≡ q = some_is x q (rw t at e) in
      (subst P f h.0, subst (λ (i : Row). rank i ≡ k) f same))
      (λ ne. let t : (rank x == k) ≡ false = ne_eqb (rank x) k ne in found_each P xs h.1 k q (rw t at e))

  found_first : (rows : List Row) → IsAscending rank rows → (k : ℕ) (q : Row) → low ≤ k → found rank rows k ≡ Some q → (r : Row) × (first_of (from rank low rows) ≡ Some r) × (rank r ≤ k)
  found_first [] asc k q le e = absurd (none_not q e)
  found_first (x ∷ xs) asc k q le e = by_bool (nat_le low (rank x)) refl (found_first xs asc.1 k q le)
    where
      at_most : rank x ≤ k
      at_most = dite (ℕ_discrete (rank x) k) (λ same. omega (arith, same))
          (λ ne. let t : (rank x == k) ≡ false = ne_eqb (rank x) k ne in
          let g = found_each (λ y. rank x < rank y) xs asc.0 k q (rw t at e) in omega (arith, g.0, g.1))

      by_bool : (b : Bool) → nat_le low (rank x) ≡ b → (found rank xs k ≡ Some q → (r : Row) × (first_of (from rank low xs) ≡ Some r) × (rank r ≤ k)) → (r : Row) × (first_of (cond b (x ∷ from rank low xs) (from rank low xs)) ≡ Some r) × (rank r ≤ k)
      by_bool true is rest = (x, refl, at_most)
      by_bool false is rest =
          let less : rank x < low = le_not low (rank x) is in
          let t : (rank x == k) ≡ false = ne_eqb (rank x) k (λ f. omega (arith, f, less, le)) in
          rest (rw t at e)

pub object_some : (m : Option Row) (o : ℕ) → object_of m ≡ Some o → (q : Row) × (m ≡ Some q)
unfolding object_of
object_some None o e = absurd (none_not o e)
object_some (Some q) o e = (q, refl)

-- a multiple of a block's size inside of a block is its beginning
pub div_between : (a w m : ℕ) → w * m ≤ a → a < (w + 1) * m → a / m ≡ w
div_between a w m low high = div-eq_of_lt-le {k = w} m low high

pub whole_is : (a m : ℕ) → a % m ≡ 0 → a / m * m ≡ a
whole_is a m whole = let h : m * (a / m) + a % m ≡ a = div-add-mod a m in omega (arith, h, whole)

pub only_start : (a w k : ℕ) → a % 2 ^ k ≡ 0 → w * 2 ^ k ≤ a → a < (w + 1) * 2 ^ k → a ≡ w * 2 ^ k
only_start a w k whole low high = sym (whole_is a (2 ^ k) whole) ∙ ap (λ i. i * 2 ^ k) (div_between a w (2 ^ k) low high)

-- and so is a multiple of a larger size
pub larger : (a k j : ℕ) → a % 2 ^ (k + j) ≡ 0 → a % 2 ^ k ≡ 0
larger a k j whole =
    let e : a / 2 ^ (k + j) * 2 ^ (k + j) ≡ a = whole_is a (2 ^ (k + j)) whole in
    let f : a / 2 ^ (k + j) * 2 ^ j * 2 ^ k ≡ a = (let g : 2 ^ (k + j) ≡ 2 ^ k * 2 ^ j = pow-add 2 k j in grind (arith, g, e)) in
    subst (λ (i : ℕ). i % 2 ^ k ≡ 0) f (mul-mod_left (a / 2 ^ (k + j) * 2 ^ j) (2 ^ k))

thrice : (a b c : ℕ) → a * b * c ≡ a * (b * c)
thrice a b c = grind arith

module _ (rows : List Row) (is : ArePrefixes rows) (asc : IsAscending rank rows) (d w low : ℕ) (le : d ≤ 7) (low_is : low ≡ 64 * (w * 2 ^ (32 - 4 * d)) + (4 * d + 1)) where
  pub first_needs : (r : Row) → Some r ≡ first_of (from rank low rows) → rank r < 64 * ((w + 1) * 2 ^ (32 - 4 * d)) → Needs (look_of (held rows)) d w
  unfolding object_of
  first_needs r e lt =
      let prefix : IsPrefix r.prefix = first_each (λ x. IsPrefix x.prefix) (λ x. nat_le low (rank x)) rows is r (sym e) in
      let short : r.prefix.len ≤ 32 = prefix.short in
      let after : low ≤ rank r = first_low low rows r (sym e) in
      let from_start : w * 2 ^ (32 - 4 * d) ≤ r.prefix.bits = omega (arith, after, low_is, short) in
      let in_end : r.prefix.bits < (w + 1) * 2 ^ (32 - 4 * d) = omega (arith, lt) in
      let longer : 4 * d + 1 ≤ r.prefix.len = elim (cases_lt (4 * d) r.prefix.len) [
        | inl more ↦ omega (arith, more)
        | inr less ↦
            let sizes : 32 - r.prefix.len ≡ (32 - 4 * d) + (4 * d - r.prefix.len) = omega (arith, less, le) in
            let whole : r.prefix.bits % 2 ^ (32 - 4 * d) ≡ 0 = larger r.prefix.bits (32 - 4 * d) (4 * d - r.prefix.len) (subst (λ (i : ℕ). r.prefix.bits % 2 ^ i ≡ 0) sizes prefix.cleared) in
            let start : r.prefix.bits ≡ w * 2 ^ (32 - 4 * d) = only_start r.prefix.bits w (32 - 4 * d) whole from_start in_end in
            absurd (omega (arith, start, after, low_is, less))
      ] in
      let j : ℕ = r.prefix.len - 4 * d - 1 in
      let len_is : 4 * d + j + 1 ≡ r.prefix.len = omega (arith, longer) in
      let b : ℕ = r.prefix.bits / 2 ^ (32 - r.prefix.len) in
      let bits : b * 2 ^ (32 - r.prefix.len) ≡ r.prefix.bits = whole_is r.prefix.bits (2 ^ (32 - r.prefix.len)) prefix.cleared in
      let shifts : 32 - r.prefix.len + (j + 1) ≡ 32 - 4 * d = omega (arith, longer, short) in
      let block : b / 2 ^ (j + 1) ≡ w = shr-shr r.prefix.bits (32 - r.prefix.len) (j + 1) ∙ ap (λ i. r.prefix.bits / 2 ^ i) shifts ∙ div_between r.prefix.bits w (2 ^ (32 - 4 * d)) from_start in_end in
      let same : look_of (held rows) r.prefix.len b ≡ held rows r.prefix = ap (λ i. held rows (record { bits = i; len = r.prefix.len })) bits in
      let here : held rows r.prefix ≡ Some r.object = held_found rows is r.prefix (omega (arith, short)) ∙ ap object_of (first_found low rows asc r (sym e)) in
      (j, b, r.object, omega (arith, len_is, short), block, ap (λ l. look_of (held rows) l b) len_is ∙ same ∙ here)

  pub needs_first : Needs (look_of (held rows)) d w → (r : Row) × (first_of (from rank low rows) ≡ Some r) × (rank r < 64 * ((w + 1) * 2 ^ (32 - 4 * d)))
  needs_first (j, b, o, some, block, is_o) =
      let len : ℕ = 4 * d + j + 1 in
      let e : Prefix = record { bits = b * 2 ^ (32 - len); len = len } in
      let q : (q : Row) × (found rank rows (key e) ≡ Some q) = object_some (found rank rows (key e)) o (sym (held_found rows is e (omega (arith, some))) ∙ is_o) in
      let shifts : (j + 1) + (32 - len) ≡ 32 - 4 * d = omega (arith, some) in
      let size : 2 ^ (j + 1) * 2 ^ (32 - len) ≡ 2 ^ (32 - 4 * d) = sym (pow-add 2 (j + 1) (32 - len)) ∙ ap (λ i. 2 ^ i) shifts in
      let at : w * 2 ^ (j + 1) ≤ b = subst (λ (i : ℕ). i * 2 ^ (j + 1) ≤ b) block (div-mul-le_self b (2 ^ (j + 1))) in
      let upto : b + 1 ≤ (w + 1) * 2 ^ (j + 1) = let h = block_end b w (j + 1) block in omega (arith, h) in
      let at_bits : w * 2 ^ (32 - 4 * d) ≤ b * 2 ^ (32 - len) = (let h : w * 2 ^ (j + 1) * 2 ^ (32 - len) ≤ b * 2 ^ (32 - len) = mul-le (w * 2 ^ (j + 1)) (2 ^ (32 - len)) b (2 ^ (32 - len)) at (omega arith) in grind (arith, h, size)) in
      let upto_bits : (b + 1) * 2 ^ (32 - len) ≤ (w + 1) * 2 ^ (32 - 4 * d) = (let h : (b + 1) * 2 ^ (32 - len) ≤ (w + 1) * 2 ^ (j + 1) * 2 ^ (32 - len) = mul-le (b + 1) (2 ^ (32 - len)) ((w + 1) * 2 ^ (j + 1)) (2 ^ (32 - len)) upto (omega arith) in let f : (w + 1) * 2 ^ (j + 1) * 2 ^ (32 - len) ≡ (w + 1) * 2 ^ (32 - 4 * d) = thrice (w + 1) (2 ^ (j + 1)) (2 ^ (32 - len)) ∙ ap (λ i. (w + 1) * i) size in omega (arith, h, f)) in
      let pos : 0 < 2 ^ (32 - len) = pow_pos (32 - len) in
      let first : (r : Row) × (first_of (from rank low rows) ≡ Some r) × (rank r ≤ key e) = found_first low rows asc (key e) q.0 (omega (arith, low_is, at_bits)) q.1 in
      (first.0, first.1, (let h = first.2 in omega (arith, h, upto_bits, pos, some)))

pub lt_true : (a b : ℕ) → a < b → IsTrue (nat_lt a b)
lt_true a b h = grind (arith, nat_tests)

pub lt_is : (a b : ℕ) → IsTrue (nat_lt a b) → a < b
lt_is a b h = grind (arith, nat_tests)

-- the numbers do not wrap
module _ (d w from : ℕ) (le : d ≤ 7) (lt : w < 2 ^ (4 * d)) (is : from ≡ w) where
  pub start : from * 2 ^ (32 - 4 * d) % 18446744073709551616 ≡ w * 2 ^ (32 - 4 * d)
  start = ap (λ i. i * 2 ^ (32 - 4 * d) % 18446744073709551616) is ∙ from_fits w (4 * d) (omega (arith, le)) lt

  pub end : (from + 1) * 2 ^ (32 - 4 * d) % 18446744073709551616 ≡ (w + 1) * 2 ^ (32 - 4 * d)
  end = ap (λ i. (i + 1) * 2 ^ (32 - 4 * d) % 18446744073709551616) is ∙ to_fits w (4 * d) (omega (arith, le)) lt

  last : (w + 1) * 2 ^ (32 - 4 * d) ≤ 4294967296
  last = last_below w (4 * d) (omega (arith, le)) lt

  pub start_fits : 64 * (from * 2 ^ (32 - 4 * d) % 18446744073709551616) ≤ 274877906944
  start_fits = let h = last in let e = start in omega (arith, h, e)

  pub end_fits : 64 * ((from + 1) * 2 ^ (32 - 4 * d) % 18446744073709551616) ≤ 274877906944
  end_fits = let h = last in let e = end in omega (arith, h, e)

-- the best prefix, length by length
pub best_here : (look : ℕ → ℕ → Option ℕ) (n b o : ℕ) → 0 < n → look n b ≡ Some o → best_block look n b ≡ Some o
unfolding best_block
best_here look zero b o pos is = absurd (omega (arith, pos))
best_here look (suc n) b o pos is = ap (λ f. or_else f (best_block look n (b / 2))) is

pub best_next : (look : ℕ → ℕ → Option ℕ) (n b : ℕ) → 0 < n → look n b ≡ None → best_block look n b ≡ best_block look (n - 1) (b / 2)
unfolding best_block
best_next look zero b pos is = absurd (omega (arith, pos))
best_next look (suc n) b pos is = ap (λ f. or_else f (best_block look n (b / 2))) is ∙ ap (λ i. best_block look i (b / 2)) (let e : n ≡ suc n - 1 = omega arith in e)

pub best_whole : (look : ℕ → ℕ → Option ℕ) (n b : ℕ) → n ≤ 0 → best_block look n b ≡ look 0 b
unfolding best_block
best_whole look zero b le = refl
best_whole look (suc n) b le = absurd (omega (arith, le))

pub half_fits : (n b : ℕ) → 0 < n → b < 2 ^ n → b / 2 < 2 ^ (n - 1)
half_fits zero b pos lt = absurd (omega (arith, pos))
half_fits (suc n) b pos lt = let e : 2 ^ (1 + n) ≡ 2 * 2 ^ n = pow-add 2 1 n in let f : suc n ≡ 1 + n = omega arith in let h : b < 2 * 2 ^ n = subst (λ (i : ℕ). b < i) (ap (λ i. 2 ^ i) f ∙ e) lt in let g : suc n - 1 ≡ n = omega arith in subst (λ (i : ℕ). b / 2 < 2 ^ i) (sym g) (omega (arith, h))

-- a prefix that is there needs each ply on its way
pub needs_here : (f : Prefix → Option ℕ) (e : Prefix) (k o : ℕ) → IsPrefix e → f e ≡ Some o → 4 * k < e.len → Needs (look_of f) k (e.bits / 2 ^ (32 - 4 * k))
needs_here f e k o is at lt =
    let short : e.len ≤ 32 = is.short in
    let j : ℕ = e.len - 4 * k - 1 in
    let b : ℕ = e.bits / 2 ^ (32 - e.len) in
    let l : 4 * k + j + 1 ≡ e.len = omega (arith, lt) in
    let shifts : 32 - e.len + (j + 1) ≡ 32 - 4 * k = omega (arith, lt, short) in
    let bits : b * 2 ^ (32 - e.len) ≡ e.bits = whole_is e.bits (2 ^ (32 - e.len)) is.cleared in (
      j,
      b,
      o,
      omega (arith, l, short),
      shr-shr e.bits (32 - e.len) (j + 1) ∙ ap (λ i. e.bits / 2 ^ i) shifts,
      ap (λ i. look_of f i b) l ∙ ap (λ i. f (record { bits = i; len = e.len })) bits ∙ at,
    )
