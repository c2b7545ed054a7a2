-- A walk over prefixes in order, from the first behind a ply on: those below it come first.
use Rattle.std.proofs.Common.{arith, ◌≡◌, ℕ, zero, suc, ◌+◌, ◌-◌, ◌*◌, ◌/◌, ◌%◌, ◌^◌, ◌<◌, ◌≤◌, Bool, true, false, ◌&&◌, List, [], ◌∷◌, length, map}
use Rattle.std.proofs.Common.{None, Some, ◌⊎◌, inl, inr, refl, sym, ◌∙◌, ap, subst, slice_get}
use Rattle.std.specs.Prelude.{nat_lt}
use Rattle.std.specs.List.{list_any, HoldsAt}
use Rattle.std.specs.List.Sorted.{IsNonDecreasingBy, IsPartitionPoint}
use Rattle.std.specs.Ordering.{ordering_index, ordering_reverse}
use Rattle.std.specs.declared.cmp.Ordering.TheVariants.{Less, Equal, Greater}
use Rattle.std.proofs.lemmas.Bool.{cases_eq, cases_lt, lt-ltb, ltb-true}
use Rattle.std.proofs.lemmas.Bool.Decides.{nat_tests}
use Rattle.std.proofs.lemmas.Nat.{le-div, pow-add}
use Rattle.std.proofs.lemmas.Option.{slice_get_within}
use Rattle.std.proofs.Math.Nat.{div-mul-le_self, mul-div_left, mul-mod_right, mul_assoc, mul_comm}
use Rattle.std.proofs.Math.Pow.{pow_pos}
use Rattle.fib_base_list.proofs.Booleans.{and_both}
use Rattle.fib_base_list.proofs.Lists.{either}
use Rattle.fib_addr.specs.Prefixes.{Prefix, IsPrefix, masked, same_prefix, size_of}
use Rattle.fib_addr.proofs.PrefixLaws.{same_fields, same_prefix-Decides}
use Rattle.fib_base_interned.proofs.Finding.{contains_at, none_some, some_is}
use Rattle.fib_cover.specs.Covers.{prefix_cmp, IsAscending}
use Rattle.fib_cover.proofs.Order.{prefix_total}
use Rattle.fib_resolve_changes.proofs.Edits.{any_in, clash}
use Rattle.fib_entries_rows.proofs.Looking.{at_place, found_key, holds_there, never, rising}
use Rattle.fib_entries_rows.proofs.PlyOrder.{less_bits, less_parts, ordered_at}
use Rattle.fib_follow_sized.specs.inner.Below.{IsPast, any_below, is_below}

-- an element of a mapped list comes from one at the same place
map_at : {X : Type 0} (key : X → Prefix) (xs : List X) (j : ℕ) (e : Prefix) → slice_get (map key xs) j ≡ Some e
    → (x : X) × (slice_get xs j ≡ Some x) × (key x ≡ e)
map_at key [] j e at = absurd (none_some e at)
map_at key (x ∷ xs) zero e at = (x, refl, some_is (key x) e at)
map_at key (x ∷ xs) (suc j) e at = map_at key xs j e at

get_map : {X : Type 0} (key : X → Prefix) (xs : List X) (j : ℕ) (x : X) → slice_get xs j ≡ Some x → slice_get (map key xs) j ≡ Some (key x)
get_map key [] j x at = absurd (none_some x at)
get_map key (y ∷ ys) zero x at = ap (λ z. Some (key z)) (some_is y x at)
get_map key (y ∷ ys) (suc j) x at = get_map key ys j x at

-- the order is one way
one_way : (p q : Prefix) → prefix_cmp p q ≡ Less → prefix_cmp q p ≡ Less → ⊥
one_way p q a b = never p (prefix_total.trans p q p a b)

-- behind the one that is found
pub past_found : {X : Type 0} (key : X → Prefix) (xs : List X) (q : Prefix) (i : ℕ) → IsAscending (map key xs) → i < length xs
    → HoldsAt (λ x. prefix_cmp (key x) q ≡ Equal) xs i → IsPast (map key xs) q (i + 1)
past_found key xs q i asc lt h =
    let f = found_key key xs q i lt h in
    let here : slice_get (map key xs) i ≡ Some q = get_map key xs i f.0 f.1 ∙ ap Some f.2 in
    record {
      before = λ j e at low less. elim (cases_eq j i) [
        | inl same ↦ (let is = some_is q e (sym here ∙ (ap (slice_get (map key xs)) (sym same) ∙ at))
            in never q (subst (λ z. prefix_cmp q z ≡ Less) (sym is) less))
        | inr off ↦ one_way e q (ordered_at (map key xs) asc j i e q (omega (arith, low, off)) at here) less
      ];
      after = λ j e at high. ordered_at (map key xs) asc i j q e (omega (arith, high)) here at;
    }

-- or where none is found
pub past_missed : {X : Type 0} (key : X → Prefix) (xs : List X) (q : Prefix) (i : ℕ) → IsAscending (map key xs)
    → (IsNonDecreasingBy (λ x. ordering_index (prefix_cmp (key x) q)) xs
    → IsPartitionPoint (λ x. prefix_cmp (key x) q ≡ Less) (λ x. prefix_cmp (key x) q ≡ Greater) xs i) → IsPast (map key xs) q i
past_missed key xs q i asc part =
    let both = part (rising key xs q asc) in
    record {
      before = λ j e at low less. (let r = map_at key xs j e at in
          let under = holds_there key (λ x. prefix_cmp (key x) q ≡ Less) xs j r.0 (λ d. both.0 j d (omega arith) low) r.1 in
          one_way e q (subst (λ z. prefix_cmp z q ≡ Less) r.2 under) less);
      after = λ j e at high. (let r = map_at key xs j e at in
          let within = slice_get_within xs j r.0 r.1 in
          let more = holds_there key (λ x. prefix_cmp (key x) q ≡ Greater) xs j r.0 (λ d. both.1 j d high within) r.1 in
          subst (λ z. prefix_cmp q z ≡ Less) r.2 (prefix_total.antisymm q (key r.0) ∙ ap ordering_reverse more));
    }

-- the test by its parts
pub below_parts : (q e : Prefix) → is_below q e ≡ true → (q.len < e.len) × (q ≡ masked e.bits q.len)
below_parts q e h =
    let both = and_both (nat_lt q.len e.len) (same_prefix q (masked e.bits q.len)) h in
    (ltb-true q.len e.len both.0, (same_prefix-Decides q (masked e.bits q.len)).0 both.1)

pub below_from : (q e : Prefix) → q.len < e.len → q ≡ masked e.bits q.len → is_below q e ≡ true
below_from q e lt is = rw (lt-ltb q.len e.len lt) ((same_prefix-Decides q (masked e.bits q.len)).1 is)

less_from : (p q : Prefix) → (p.bits < q.bits) ⊎ ((p.bits ≡ q.bits) × (p.len < q.len)) → prefix_cmp p q ≡ Less
less_from p q (inl h) = grind (arith, nat_tests)
less_from p q (inr h) = grind (arith, nat_tests)

-- what lies below a ply stands behind it
below_behind : (q e : Prefix) → is_below q e ≡ true → prefix_cmp q e ≡ Less
below_behind q e h =
    let b = below_parts q e h in
    let bits = ap (λ z. z.bits) b.1 in
    let le = div-mul-le_self e.bits (size_of q.len) in
    less_from q e (elim (cases_lt q.bits e.bits) [ inl lt ↦ inl lt | inr ge ↦ inr (over q.bits e.bits _ bits le ge, b.0) ])
  where
    over : (x y z : ℕ) → x ≡ z → z ≤ y → y ≤ x → x ≡ y
    over x y z a b c = omega (arith, a, b, c)

-- the blocks of addresses of a length
quotients : (x y s : ℕ) → 0 < s → x ≤ y → x / s ≤ y / s
quotients x y s pos le = (let a = div-mul-le_self x s in le-div (x / s) y s pos (omega (arith, a, le)))

multiple_of : (s k t n b : ℕ) → t ≡ s * k → t * n ≡ b → b % s ≡ 0
multiple_of s k t n b e f =
    let g : b ≡ s * (k * n) = sym f ∙ (ap (λ m. m * n) e ∙ mul_assoc s k n) in
    ap (λ m. m % s) g ∙ mul-mod_right s (k * n)

multiple : (b s : ℕ) → b % s ≡ 0 → 0 < s → s * (b / s) ≡ b
multiple b s e pos = omega (arith, e, pos)

-- a prefix that is no longer begins a block
begins : (n : Prefix) (len : ℕ) → IsPrefix n → len ≤ 32 → n.len ≤ len → n.bits / size_of len * size_of len ≡ n.bits
begins n len f small short =
    let apart : 32 - n.len ≡ (32 - len) + (len - n.len) = omega (arith, small, short) in
    let sizes : size_of n.len ≡ size_of len * 2 ^ (len - n.len) = ap (λ m. 2 ^ m) apart ∙ pow-add 2 (32 - len) (len - n.len) in
    let at : size_of n.len * (n.bits / size_of n.len) ≡ n.bits = multiple n.bits (size_of n.len) f.cleared (pow_pos (32 - n.len)) in
    let whole = multiple_of (size_of len) (2 ^ (len - n.len)) (size_of n.len) (n.bits / size_of n.len) n.bits sizes at in
    mul_comm (n.bits / size_of len) (size_of len) ∙ multiple n.bits (size_of len) whole (pow_pos (32 - len))

-- from the first on that isn't below the ply, none is
none_after : (q n e : Prefix) → IsPrefix q → IsPrefix n → prefix_cmp q n ≡ Less → is_below q n ≡ false → n.bits ≤ e.bits → is_below q e ≡ true → ⊥
none_after q n e fq fn less off high below =
    let s = size_of q.len in
    let pos = pow_pos (32 - q.len) in
    let b = below_parts q e below in
    let bits : q.bits ≡ e.bits / s * s = ap (λ z. z.bits) b.1 in
    let low = quotients q.bits n.bits s pos (less_bits q n less) in
    let top = quotients n.bits e.bits s pos high in
    let own : q.bits / s ≡ e.bits / s = ap (λ m. m / s) bits ∙ mul-div_left (e.bits / s) pos in
    let block : n.bits / s ≡ e.bits / s = squeeze (q.bits / s) (n.bits / s) (e.bits / s) low top own in
    let first : q.bits ≡ n.bits / s * s = bits ∙ ap (λ m. m * s) (sym block) in
    elim (cases_lt q.len n.len) [
      | inl lt ↦ clash (is_below q n) (below_from q n lt (same_fields q (masked n.bits q.len) (first, refl))) off
      | inr ge ↦ (let same = first ∙ begins n q.len fn fq.short ge in elim (less_parts q n less) [
        | inl lt ↦ omega (arith, lt, same)
        | inr both ↦ (let lt = both.1 in omega (arith, lt, ge))
      ])
    ]
  where
    squeeze : (x y z : ℕ) → x ≤ y → y ≤ z → x ≡ z → y ≡ z
    squeeze x y z a b e = omega (arith, a, b, e)

none_any : (test : Prefix → Bool) (order : List Prefix) → ((j : ℕ) (e : Prefix) → slice_get order j ≡ Some e → test e ≡ false)
    → list_any test order ≡ false
none_any test [] h = refl
none_any test (x ∷ xs) h = rw (h 0 x refl) (none_any test xs (λ j e at. h (suc j) e at))

off_left : (b c : Bool) → b ≡ false → (b && c) ≡ false
off_left b c h = rw h refl

off_right : (b c : Bool) → c ≡ false → (b && c) ≡ false
off_right true c h = h
off_right false c h = refl

-- nothing before the place lies below and passes the test
abbrev pub Walked : List Prefix → Prefix → (Prefix → Bool) → ℕ → Type 0
Walked order q f place = (j : ℕ) (e : Prefix) → slice_get order j ≡ Some e → j < place → (is_below q e && f e) ≡ false

-- the prefix of an element, by its place
pub key_at : {X : Type 0} (key : X → Prefix) (xs : List X) (j : ℕ) (x : X) (e : Prefix) → slice_get xs j ≡ Some x → key x ≡ e
    → slice_get (map key xs) j ≡ Some e
key_at key xs j x e here is = get_map key xs j x here ∙ ap Some is

module _ (order : List Prefix) (q : Prefix) (f : Prefix → Bool) where
  pub walked_start : (start : ℕ) → IsPast order q start → Walked order q f start
  walked_start start past j e at lt = elim (either (is_below q e)) [
    | inl is ↦ absurd (past.before j e at lt (below_behind q e is))
    | inr isnt ↦ off_left (is_below q e) (f e) isnt
  ]

  pub walked_more : (place : ℕ) (n : Prefix) → slice_get order place ≡ Some n → f n ≡ false → Walked order q f place
      → Walked order q f (place + 1)
  walked_more place n here off h j e at lt = elim (cases_eq j place) [
    | inl same ↦ (let is = some_is n e (sym here ∙ (ap (slice_get order) (sym same) ∙ at)) in off_right (is_below q e) (f e) (ap f (sym is) ∙ off))
    | inr other ↦ h j e at (omega (arith, lt, other))
  ]

  pub walked_stop : (start place : ℕ) (n : Prefix) → IsAscending order → IsPast order q start → start ≤ place → slice_get order place ≡ Some n
      → IsPrefix q → IsPrefix n → is_below q n ≡ false → Walked order q f place → false ≡ any_below f order q
  walked_stop start place n asc past le here fq fn off h = sym (none_any (λ e. is_below q e && f e) order (λ j e at. by j e at (cases_lt j place)))
    where
      high : (j : ℕ) (e : Prefix) → slice_get order j ≡ Some e → place ≤ j → n.bits ≤ e.bits
      high j e at ge = elim (cases_eq place j) [
        | inl same ↦ (let b = ap (λ z. z.bits) (some_is n e (sym here ∙ (ap (slice_get order) same ∙ at))) in omega (arith, b))
        | inr other ↦ less_bits n e (ordered_at order asc place j n e (omega (arith, ge, other)) here at)
      ]

      by : (j : ℕ) (e : Prefix) → slice_get order j ≡ Some e → (j < place) ⊎ (place ≤ j) → (is_below q e && f e) ≡ false
      by j e at (inl low) = h j e at low
      by j e at (inr ge) = elim (either (is_below q e)) [
        | inl is ↦ absurd (none_after q n e fq fn (past.after place n here le) off (high j e at ge) is)
        | inr isnt ↦ off_left (is_below q e) (f e) isnt
      ]

  pub walked_end : (place : ℕ) → length order ≤ place → Walked order q f place → false ≡ any_below f order q
  walked_end place le h = sym (none_any (λ e. is_below q e && f e) order (λ j e at.
      let within = slice_get_within order j e at in h j e at (omega (arith, within, le))))

  pub walked_found : (place : ℕ) (n : Prefix) → slice_get order place ≡ Some n → is_below q n ≡ true → f n ≡ true → true ≡ any_below f order q
  walked_found place n here is passes =
      sym (any_in (λ e. is_below q e && f e) order n (contains_at order place n here) (both (is_below q n) (f n) is passes))
    where
      both : (b c : Bool) → b ≡ true → c ≡ true → (b && c) ≡ true
      both b c x y = rw (x, y) refl

-- the first behind a ply tells whether one lies below it
module _ (order : List Prefix) (q : Prefix) (start : ℕ) (past : IsPast order q start) where
  begun : Walked order q (λ e. true) start
  begun = walked_start order q (λ e. true) start past

  pub over_first : (n : Prefix) → IsAscending order → slice_get order start ≡ Some n → IsPrefix q → IsPrefix n
      → is_below q n ≡ any_below (λ e. true) order q
  over_first n asc here fq fn = elim (either (is_below q n)) [
    | inl is ↦ is ∙ walked_found order q (λ e. true) start n here is refl
    | inr off ↦ off ∙ walked_stop order q (λ e. true) start start n asc past (omega arith) here fq fn off begun
  ]

-- where none is behind it none lies below
pub over_none : {X : Type 0} (key : X → Prefix) (xs : List X) (q : Prefix) (start : ℕ) → IsPast (map key xs) q start → None ≡ slice_get xs start
    → false ≡ any_below (λ e. true) (map key xs) q
over_none key xs q start past none = walked_end (map key xs) q (λ e. true) start (elim (cases_lt start (length (map key xs))) [
  | inl lt ↦ (let r = at_place (λ e. e) (map key xs) start lt in
      let x = map_at key xs start r.0 r.1 in
      absurd (none_some x.0 (none ∙ x.1)))
  | inr ge ↦ ge
]) (walked_start (map key xs) q (λ e. true) start past)

pub map_length : {X : Type 0} (key : X → Prefix) (xs : List X) → length (map key xs) ≡ length xs
map_length key [] = refl
map_length key (x ∷ xs) = ap suc (map_length key xs)
