-- The longest prefix that contains a block, by the last row that stands no later than the block does.
use Rattle.std.proofs.Common.{arith, ◌≡◌, ℕ, zero, suc, ◌+◌, ◌*◌, ◌-◌, ◌/◌, ◌%◌, ◌^◌, ◌<◌, ◌≤◌, inl, inr, Bool, true, false, cond, eq-eqb, ne_eqb, List, [], ◌∷◌, Option, Some, None, refl, sym, ap, ◌∙◌, subst}
use Rattle.std.specs.Prelude.{◌==◌, nat_lt, filter, IfSome, IfNone}
use Rattle.std.specs.List.{AllByRecursion}
use Rattle.std.proofs.lemmas.Bool.Decides.{nat_tests}
use Rattle.std.proofs.lemmas.Bool.{cases_lt}
use Rattle.std.proofs.lemmas.Nat.{pow_pos, pow-add, shr-shr, mul-le}
use Rattle.std.proofs.Math.Nat.{div-mul-le_self, div-one}
use native.Mathlib.Decide.{ℕ_discrete}
use mathlib.Core.Logic.{dite}
use Rattle.fib_addr.specs.Prefixes.{Prefix, IsPrefix}
use Rattle.fib_base_ordered.specs.Sets.{IsAscending, found, below, last_of}
use Rattle.fib_core_promise.specs.Matches.{look_of, best_block}
use Rattle.fib_ply.specs.Rows.{held, ArePrefixes, rank}
use Rattle.fib_ply.specs.inner.Upto.{place, IsLast, HasNone, Begins, IsCommon}
use Rattle.fib_ply.specs.declared.rows.Row.{Row}
use Rattle.fib_ply.proofs.Pushes.{block_end}
use Rattle.fib_ply.proofs.Rowing.{held_found, object_of, key}
use Rattle.fib_ply.proofs.Needing.{some_is, none_not, best_here, best_next, best_whole, div_between, larger, object_some, only_start, whole_is}

lt_true : (a b : ℕ) → a < b → nat_lt a b ≡ true
lt_true a b h = grind (arith, nat_tests)

lt_is : (a b : ℕ) → nat_lt a b ≡ true → a < b
lt_is a b h = grind (arith, nat_tests)

-- the last of a list
each_last : (P : Row → Type 0) (rows : List Row) → AllByRecursion P rows → (r : Row) → last_of rows ≡ Some r → P r
each_last P [] h r e = absurd (none_not r e)
each_last P (x ∷ []) h r e = subst P (some_is x r e) h.0
each_last P (x ∷ y ∷ ys) h r e = each_last P (y ∷ ys) h.1 r e

last_none : (P : Row → Type 0) (rows : List Row) → last_of rows ≡ None → AllByRecursion P rows
last_none P [] e = tt
last_none P (x ∷ []) e = absurd (none_not x (sym e))
last_none P (x ∷ y ∷ ys) e = absurd ((last_none (λ r. ⊥) (y ∷ ys) e).0)

last_most : (rows : List Row) → IsAscending rank rows → (r : Row) → last_of rows ≡ Some r → AllByRecursion (λ x. rank x ≤ rank r) rows
last_most [] asc r e = tt
last_most (x ∷ []) asc r e = ((let f = ap rank (some_is x r e) in omega (arith, f)), tt)
last_most (x ∷ y ∷ ys) asc r e = let rest = last_most (y ∷ ys) asc.1 r e in ((let h = rest.0 in let l = asc.0.0 in omega (arith, h, l)), rest)

-- what is kept of rows
each_kept : (P : Row → Type 0) (p : Row → Bool) (rows : List Row) → AllByRecursion P rows → AllByRecursion P (filter p rows)
each_kept P p [] h = tt
each_kept P p (x ∷ xs) h = by_bool (p x) (each_kept P p xs h.1)
  where
    by_bool : (b : Bool) → AllByRecursion P (filter p xs) → AllByRecursion P (cond b (x ∷ filter p xs) (filter p xs))
    by_bool true k = (h.0, k)
    by_bool false k = k

kept_ascends : (p : Row → Bool) (rows : List Row) → IsAscending rank rows → IsAscending rank (filter p rows)
kept_ascends p [] asc = tt
kept_ascends p (x ∷ xs) asc = by_bool (p x) (kept_ascends p xs asc.1)
  where
    by_bool : (b : Bool) → IsAscending rank (filter p xs) → IsAscending rank (cond b (x ∷ filter p xs) (filter p xs))
    by_bool true k = (each_kept (λ y. rank x < rank y) p xs asc.0, k)
    by_bool false k = k

each_both : (P Q R : Row → Type 0) → ((x : Row) → P x → Q x → R x) → (rows : List Row) → AllByRecursion P rows → AllByRecursion Q rows → AllByRecursion R rows
each_both P Q R f [] h k = tt
each_both P Q R f (x ∷ xs) h k = (f x h.0 k.0, each_both P Q R f xs h.1 k.1)

-- each row is found by its key
self_found : (rows : List Row) → IsAscending rank rows → AllByRecursion (λ x. found rank rows (rank x) ≡ Some x) rows
self_found [] asc = tt
self_found (x ∷ xs) asc = (
  (let t : (rank x == rank x) ≡ true = eq-eqb (rank x) (rank x) refl in rw t refl),
  each_both (λ y. rank x < rank y) (λ y. found rank xs (rank y) ≡ Some y) (λ y. found rank (x ∷ xs) (rank y) ≡ Some y)
      (λ y less is. let t : (rank x == rank y) ≡ false = ne_eqb (rank x) (rank y) (λ f. omega (arith, f, less)) in rw t is) xs asc.0 (self_found xs asc.1),
)

module _ (high : ℕ) where
  low_ones : (rows : List Row) → AllByRecursion (λ x. rank x < high) (below rank high rows)
  low_ones [] = tt
  low_ones (x ∷ xs) = by_bool (nat_lt (rank x) high) refl (low_ones xs)
    where
      by_bool : (b : Bool) → nat_lt (rank x) high ≡ b → AllByRecursion (λ x. rank x < high) (below rank high xs) → AllByRecursion (λ x. rank x < high) (cond b (x ∷ below rank high xs) (below rank high xs))
      by_bool true is k = (lt_is (rank x) high is, k)
      by_bool false is k = k

  -- a row that is found below is one of those below
  found_below : (P : Row → Type 0) (rows : List Row) (k : ℕ) (q : Row) → k < high → found rank rows k ≡ Some q → AllByRecursion P (below rank high rows) → P q × (rank q ≡ k)
  found_below P [] k q lt e h = absurd (none_not q e)
  found_below P (x ∷ xs) k q lt e h = dite (ℕ_discrete (rank x) k)
      (λ same. let t : (rank x == k) ≡ true = eq-eqb (rank x) k same in
      let f : x ≡ q = some_is x q (rw t at e) in
      let b : nat_lt (rank x) high ≡ true = lt_true (rank x) high (omega (arith, same, lt)) in
      let h' : AllByRecursion P (x ∷ below rank high xs) = subst (λ (v : Bool). AllByRecursion P (cond v (x ∷ below rank high xs) (below rank high xs))) b h in
      (subst P f h'.0, subst (λ (i : Row). rank i ≡ k) f same))
      (λ ne. let t : (rank x == k) ≡ false = ne_eqb (rank x) k ne in found_below P xs k q lt (rw t at e) (by_bool (nat_lt (rank x) high) h))
    where
      by_bool : (b : Bool) → AllByRecursion P (cond b (x ∷ below rank high xs) (below rank high xs)) → AllByRecursion P (below rank high xs)
      by_bool true k = k.1
      by_bool false k = k

-- a prefix that is there has a row
module _ (rows : List Row) (is : ArePrefixes rows) (asc : IsAscending rank rows) (n b high : ℕ) (high_is : high ≡ place n b + 1) where
  row_there : (m c o : ℕ) → m ≤ 32 → held rows (record { bits = c * 2 ^ (32 - m); len = m }) ≡ Some o → (q : Row) × (found rank rows (place m c) ≡ Some q)
  row_there m c o le e = let p : Prefix = record { bits = c * 2 ^ (32 - m); len = m } in object_some (found rank rows (key p)) o (sym (held_found rows is p (omega (arith, le))) ∙ e)

  pub last_is : (r : Row) → Some r ≡ last_of (below rank high rows) → IsLast (held rows) n b r
  unfolding object_of
  last_is r e =
      let prefix : IsPrefix r.prefix = each_last (λ x. IsPrefix x.prefix) (below rank high rows) (each_kept (λ x. IsPrefix x.prefix) (λ x. nat_lt (rank x) high) rows is) r (sym e) in
      let short : r.prefix.len ≤ 32 = prefix.short in
      let found_r : found rank rows (rank r) ≡ Some r = each_last (λ x. found rank rows (rank x) ≡ Some x) (below rank high rows) (each_kept (λ x. found rank rows (rank x) ≡ Some x) (λ x. nat_lt (rank x) high) rows (self_found rows asc)) r (sym e) in
      record {
        prefix = prefix;
        there = held_found rows is r.prefix (omega (arith, short)) ∙ ap object_of found_r;
        before = (let h = each_last (λ x. rank x < high) (below rank high rows) (low_ones high rows) r (sym e) in omega (arith, h, high_is));
        last = λ m c o le there upto.
            let q = row_there m c o le there in
            let h = found_below high (λ x. rank x ≤ rank r) rows (place m c) q.0 (omega (arith, upto, high_is)) q.1 (last_most (below rank high rows) (kept_ascends (λ x. nat_lt (rank x) high) rows asc) r (sym e)) in
            omega (arith, h.0, h.1);
      }

  pub none_is : None ≡ last_of (below rank high rows) → HasNone (held rows) n b
  none_is e = λ m c le upto. by_option m c le upto (held rows (record { bits = c * 2 ^ (32 - m); len = m })) refl
    where
      by_option : (m c : ℕ) → m ≤ 32 → place m c ≤ place n b → (o : Option ℕ) → held rows (record { bits = c * 2 ^ (32 - m); len = m }) ≡ o → o ≡ None
      by_option m c le upto None f = refl
      by_option m c le upto (Some o) f =
          let q = row_there m c o le f in
          absurd ((found_below high (λ x. ⊥) rows (place m c) q.0 (omega (arith, upto, high_is)) q.1 (last_none (λ x. ⊥) (below rank high rows) (sym e))).0)

  pub some_last : (o : Option Row) → o ≡ last_of (below rank high rows) → IfSome o (λ r. IsLast (held rows) n b r)
  some_last None e = tt
  some_last (Some r) e = last_is r e

  pub none_last : (o : Option Row) → o ≡ last_of (below rank high rows) → IfNone o (HasNone (held rows) n b)
  none_last None e = none_is e
  none_last (Some r) e = tt

-- a block and those that it lies in
module _ (n b m : ℕ) (le : n ≤ 32) (within : m ≤ n) where
  abbrev w : ℕ
  w = b / 2 ^ (n - m)

  size : 2 ^ (n - m) * 2 ^ (32 - n) ≡ 2 ^ (32 - m)
  size = sym (pow-add 2 (n - m) (32 - n)) ∙ ap (λ i. 2 ^ i) (let e : n - m + (32 - n) ≡ 32 - m = omega (arith, le, within) in e)

  thrice : (x y z : ℕ) → x * y * z ≡ x * (y * z)
  thrice x y z = grind arith

  scaled : (x : ℕ) → x * 2 ^ (n - m) * 2 ^ (32 - n) ≡ x * 2 ^ (32 - m)
  scaled x = thrice x (2 ^ (n - m)) (2 ^ (32 - n)) ∙ ap (λ i. x * i) size

  pub from_on : w * 2 ^ (32 - m) ≤ b * 2 ^ (32 - n)
  from_on =
      let h : w * 2 ^ (n - m) ≤ b = div-mul-le_self b (2 ^ (n - m)) in
      let k : w * 2 ^ (n - m) * 2 ^ (32 - n) ≤ b * 2 ^ (32 - n) = mul-le (w * 2 ^ (n - m)) (2 ^ (32 - n)) b (2 ^ (32 - n)) h (omega arith) in
      let s = scaled w in omega (arith, k, s)

  pub up_to : b * 2 ^ (32 - n) < (w + 1) * 2 ^ (32 - m)
  up_to =
      let h : b < (w + 1) * 2 ^ (n - m) = block_end b w (n - m) refl in
      let k : (b + 1) * 2 ^ (32 - n) ≤ (w + 1) * 2 ^ (n - m) * 2 ^ (32 - n) = mul-le (b + 1) (2 ^ (32 - n)) ((w + 1) * 2 ^ (n - m)) (2 ^ (32 - n)) (omega (arith, h)) (omega arith) in
      let s = scaled (w + 1) in
      let pos : 0 < 2 ^ (32 - n) = pow_pos (32 - n) in omega (arith, k, s, pos)

  pub no_later : place m w ≤ place n b
  no_later = let h = from_on in omega (arith, h, within)

module _ (f : Prefix → Option ℕ) (n b : ℕ) (le : n ≤ 32) where
  pub none_below : HasNone f n b → (k : ℕ) → k ≤ n → look_of f k (b / 2 ^ (n - k)) ≡ None
  none_below none k within = none k (b / 2 ^ (n - k)) (omega (arith, le, within)) (no_later n b k le within)

  module _ (r : Row) (is : IsLast f n b r) where
    -- a prefix that the block lies in, and is there, begins as the last row does and is no longer
    there_begins : (k o : ℕ) → k ≤ n → look_of f k (b / 2 ^ (n - k)) ≡ Some o → Begins r.prefix k (b / 2 ^ (n - k))
    there_begins k o within e =
        let c : ℕ = b / 2 ^ (n - k) in
        let after : place k c ≤ rank r = is.last k c o (omega (arith, le, within)) e (no_later n b k le within) in
        let short : r.prefix.len ≤ 32 = is.prefix.short in
        let before : rank r ≤ place n b = is.before in
        let low : c * 2 ^ (32 - k) ≤ r.prefix.bits = omega (arith, after, short) in
        let top : r.prefix.bits ≤ b * 2 ^ (32 - n) = omega (arith, before, le) in
        let end : r.prefix.bits < (c + 1) * 2 ^ (32 - k) = (let h = up_to n b k le within in omega (arith, h, top)) in
        let long : k ≤ r.prefix.len = elim (cases_lt r.prefix.len k) [
          | inl less ↦
              let sizes : 32 - r.prefix.len ≡ (32 - k) + (k - r.prefix.len) = omega (arith, less, le, within) in
              let whole : r.prefix.bits % 2 ^ (32 - k) ≡ 0 = larger r.prefix.bits (32 - k) (k - r.prefix.len) (subst (λ (i : ℕ). r.prefix.bits % 2 ^ i ≡ 0) sizes is.prefix.cleared) in
              let start : r.prefix.bits ≡ c * 2 ^ (32 - k) = only_start r.prefix.bits c (32 - k) whole low end in
              absurd (omega (arith, start, after, less))
          | inr more ↦ more
        ] in
        (long, div_between r.prefix.bits c (2 ^ (32 - k)) low end)

    pub none_past : (m c : ℕ) → IsCommon r.prefix n b m c → (k : ℕ) → m < k → k ≤ n → look_of f k (b / 2 ^ (n - k)) ≡ None
    none_past m c common k lt within = by_option (look_of f k (b / 2 ^ (n - k))) refl
      where
        by_option : (o : Option ℕ) → look_of f k (b / 2 ^ (n - k)) ≡ o → o ≡ None
        by_option None e = refl
        by_option (Some o) e = absurd (common.greatest k lt within (there_begins k o within e))

    -- the row contains the block where both begin alike to the row's length
    pub row_here : (m c : ℕ) → IsCommon r.prefix n b m c → m ≡ r.prefix.len → look_of f m c ≡ Some r.object
    row_here m c common same =
        let cleared : r.prefix.bits % 2 ^ (32 - m) ≡ 0 = subst (λ (i : ℕ). r.prefix.bits % 2 ^ (32 - i) ≡ 0) (sym same) is.prefix.cleared in
        let bits : c * 2 ^ (32 - m) ≡ r.prefix.bits = ap (λ i. i * 2 ^ (32 - m)) (sym common.alike.1) ∙ whole_is r.prefix.bits (2 ^ (32 - m)) cleared in
        ap (λ i. f (record { bits = i; len = m })) bits ∙ ap (λ l. f (record { bits = r.prefix.bits; len = l })) same ∙ is.there

    -- else the part that is alike is shorter than the block
    pub shorter : (m c : ℕ) → IsCommon r.prefix n b m c → (m ≡ r.prefix.len → ⊥) → m < n
    shorter m c common other = dite (ℕ_discrete m n)
        (λ same.
        let c_is : c ≡ b = common.part ∙ (let z : n - m ≡ 0 = omega (arith, same) in rw (z, div-one) refl) in
        let low : c * 2 ^ (32 - m) ≤ r.prefix.bits = subst (λ (i : ℕ). i * 2 ^ (32 - m) ≤ r.prefix.bits) common.alike.1 (div-mul-le_self r.prefix.bits (2 ^ (32 - m))) in
        let low' : b * 2 ^ (32 - n) ≤ r.prefix.bits = subst (λ (i : ℕ). b * 2 ^ (32 - i) ≤ r.prefix.bits) same (subst (λ (i : ℕ). i * 2 ^ (32 - m) ≤ r.prefix.bits) c_is low) in
        let before : rank r ≤ place n b = is.before in
        let long : m ≤ r.prefix.len = common.alike.0 in
        absurd (other (omega (arith, low', before, long, same))))
        (λ ne. let h = common.within in omega (arith, h, ne))

-- lengths at which nothing is are passed over
halves : (n b m : ℕ) → m ≤ n → b / 2 / 2 ^ (n - m) ≡ b / 2 ^ (suc n - m)
halves n b m le = shr-shr b 1 (n - m) ∙ ap (λ i. b / 2 ^ i) (let e : 1 + (n - m) ≡ suc n - m = omega (arith, le) in e)

pub best_past : (look : ℕ → ℕ → Option ℕ) (n b m : ℕ) → m ≤ n → ((k : ℕ) → m < k → k ≤ n → look k (b / 2 ^ (n - k)) ≡ None) → best_block look n b ≡ best_block look m (b / 2 ^ (n - m))
best_past look zero b m le none = let e : m ≡ 0 = omega (arith, le) in rw (e, div-one) refl
best_past look (suc n) b m le none = dite (ℕ_discrete m (suc n))
    (λ same. let z : suc n - m ≡ 0 = omega (arith, same) in rw (z, div-one) (ap (λ i. best_block look i b) (sym same)))
    (λ ne.
    let less : m ≤ n = omega (arith, le, ne) in
    let here : look (suc n) b ≡ None = (let z : suc n - suc n ≡ 0 = omega arith in let h = none (suc n) (omega (arith, less)) (omega arith) in ap (look (suc n)) (sym (ap (λ i. b / 2 ^ i) z ∙ div-one b)) ∙ h) in
    let down : suc n - 1 ≡ n = omega arith in
    best_next look (suc n) b (omega arith) here ∙ ap (λ i. best_block look i (b / 2)) down
    ∙ best_past look n (b / 2) m less (λ k lt within. ap (look k) (halves n b k within) ∙ none k lt (omega (arith, within)))
    ∙ ap (best_block look m) (halves n b m less))

pub best_at : (look : ℕ → ℕ → Option ℕ) (n b o : ℕ) → look n b ≡ Some o → best_block look n b ≡ Some o
best_at look n b o is = dite (ℕ_discrete n 0)
    (λ e. best_whole look n b (omega (arith, e)) ∙ ap (λ i. look i b) (sym e) ∙ is)
    (λ ne. best_here look n b o (omega (arith, ne)) is)

pub best_none : (look : ℕ → ℕ → Option ℕ) (n b : ℕ) → ((k : ℕ) → k ≤ n → look k (b / 2 ^ (n - k)) ≡ None) → best_block look n b ≡ None
best_none look n b none = best_past look n b 0 (omega arith) (λ k lt within. none k within) ∙ best_whole look 0 (b / 2 ^ (n - 0)) (omega arith) ∙ none 0 (omega arith)
