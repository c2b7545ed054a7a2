-- How many pairs have a list: only the pairs of changed prefixes count.
use Rattle.std.proofs.Common.{arith, ◌≡◌, ◌≢◌, ℕ, ◌+◌, ◌<◌, Bool, true, false, cond, not, ◌||◌, if◌then◌else◌, List, [], ◌∷◌, inl, inr, refl, sym, ◌∙◌, ap, subst, ◌↔◌, filter, count_by}
use Rattle.std.specs.Prelude.{Contains}
use Rattle.std.specs.List.{AllByRecursion, IsDistinct}
use Rattle.std.proofs.lemmas.Bool.{false≢true}
use Rattle.fib_base_list.proofs.Lists.{either, Contains-nil}
use Rattle.fib_base_list.proofs.Booleans.{unit_of, count_by-cons}
use Rattle.fib_addr.specs.Prefixes.{Prefix, same_prefix}
use Rattle.fib_addr.proofs.PrefixLaws.{same_prefix-Decides}
use Rattle.std.specs.Cmp.Lexicographic.{pointwise}
use Rattle.std.proofs.lemmas.List.Sums.{sum_by-append}
use Rattle.fib_resolve.specs.Keys.{same_path}
use Rattle.fib_resolve.specs.Pairs.{pairs, same_pair}
use Rattle.fib_resolve.specs.declared.pairs.Pair.{Pair}
use Rattle.fib_resolve.specs.declared.types.Path.{Path}
use Rattle.fib_resolve.specs.declared.types.Tables.{Tables}
use Rattle.fib_resolve.proofs.Touching.{same_pair-Decides}
use Rattle.fib_resolve.proofs.Covering.{filter_in, filter_from, pairs_apart}
use Rattle.fib_resolve.proofs.Apart.{apart-filter}
use Rattle.fib_resolve_changes.proofs.Edits.{in_cases, in_front, in_rest}
use Rattle.fib_entries_rows.specs.Known.{holders}
use Rattle.fib_entries_rows.proofs.Using.{once}

pub tally : (Pair → Bool) → List Pair → ℕ
tally f [] = 0
tally f (x ∷ xs) = cond (f x) 1 0 + tally f xs

pub count_is : (f : Pair → Bool) (xs : List Pair) → count_by f xs ≡ tally f xs
unfolding tally
count_is f [] = refl
count_is f (x ∷ xs) = let rest = count_is f xs in let step = sum_by-append (λ y. cond (f y) 1 0) (x ∷ []) xs in step ∙ ap (λ n. 0 + cond (f x) 1 0 + n) rest ∙ omega arith

-- a list without one of its members
pub without : Pair → List Pair → List Pair
without x [] = []
without x (y ∷ ys) = cond (same_pair x y) ys (y ∷ without x ys)

counted : (f : Pair → Bool) (x : Pair) (ys : List Pair) → Contains ys x → tally f ys ≡ cond (f x) 1 0 + tally f (without x ys)
unfolding without tally
counted f x [] c = absurd (Contains-nil x c)
counted f x (y ∷ ys) c =
    elim (either (same_pair x y)) [
      | inl is ↦ rw is (ap (λ z. cond (f z) 1 0 + tally f ys) (sym ((same_pair-Decides x y).0 is)))
      | inr isnt ↦ elim (in_cases y x ys c) [
        | inl same ↦ absurd (false≢true (sym isnt ∙ (same_pair-Decides x y).1 (sym same)))
        | inr later ↦ (let e = counted f x ys later in rw isnt (ap (λ n. cond (f y) 1 0 + n) e ∙ swap (cond (f y) 1 0) (cond (f x) 1 0) (tally f (without x ys))))
      ]
    ]
  where
    swap : (a b n : ℕ) → a + (b + n) ≡ b + (a + n)
    swap a b n = omega arith

pub kept_in : (x z : Pair) (ys : List Pair) → Contains ys z → x ≢ z → Contains (without x ys) z
unfolding without
kept_in x z [] c off = absurd (Contains-nil z c)
kept_in x z (y ∷ ys) c off =
    elim (either (same_pair x y)) [
      | inl is ↦ rw is (elim (in_cases y z ys c) [ inl same ↦ absurd (off ((same_pair-Decides x y).0 is ∙ same)) | inr later ↦ later ])
      | inr isnt ↦ rw isnt (elim (in_cases y z ys c) [ inl same ↦ in_front y z (without x ys) same | inr later ↦ in_rest y z (without x ys) (kept_in x z ys later off) ])
    ]

was_in : (x z : Pair) (ys : List Pair) → Contains (without x ys) z → Contains ys z
unfolding without
was_in x z [] c = c
was_in x z (y ∷ ys) c =
    elim (either (same_pair x y)) [
      | inl is ↦ in_rest y z ys (rw is at c)
      | inr isnt ↦ elim (in_cases y z (without x ys) (rw isnt at c)) [ inl same ↦ in_front y z ys same | inr later ↦ in_rest y z ys (was_in x z ys later) ]
    ]

apart_at : (x z : Pair) (ys : List Pair) → AllByRecursion (λ y. same_pair x y ≡ false) ys → Contains ys z → x ≢ z
apart_at x z [] all c = absurd (Contains-nil z c)
apart_at x z (y ∷ ys) all c = elim (in_cases y z ys c) [
  | inl same ↦ (λ is. false≢true (sym all.0 ∙ (same_pair-Decides x y).1 (is ∙ sym same)))
  | inr later ↦ apart_at x z ys all.1 later
]

apart_in : (P : Pair → Type 0) (x : Pair) (ys : List Pair) → AllByRecursion P ys → AllByRecursion P (without x ys)
unfolding without
apart_in P x [] all = tt
apart_in P x (y ∷ ys) all = elim (either (same_pair x y)) [ inl is ↦ rw is all.1 | inr isnt ↦ rw isnt (all.0, apart_in P x ys all.1) ]

distinct_without : (x : Pair) (ys : List Pair) → IsDistinct same_pair ys → IsDistinct same_pair (without x ys)
unfolding without IsDistinct
distinct_without x [] d = d
distinct_without x (y ∷ ys) d = elim (either (same_pair x y)) [ inl is ↦ rw is d.1 | inr isnt ↦ rw isnt (apart_in (λ z. same_pair y z ≡ false) x ys d.0, distinct_without x ys d.1) ]

gone : (x : Pair) (ys : List Pair) → IsDistinct same_pair ys → Contains (without x ys) x → ⊥
unfolding without IsDistinct
gone x [] d c = Contains-nil x c
gone x (y ∷ ys) d c =
    elim (either (same_pair x y)) [
      | inl is ↦ apart_at y x ys d.0 (rw is at c) (sym ((same_pair-Decides x y).0 is))
      | inr isnt ↦ elim (in_cases y x (without x ys) (rw isnt at c)) [
        | inl same ↦ false≢true (sym isnt ∙ (same_pair-Decides x y).1 (sym same))
        | inr later ↦ gone x ys d.1 later
      ]
    ]

-- lists without repeats and with the same members count the same
tally_same : (f : Pair → Bool) (xs ys : List Pair) → IsDistinct same_pair xs → IsDistinct same_pair ys → ((z : Pair) → Contains xs z ↔ Contains ys z) → tally f xs ≡ tally f ys
unfolding IsDistinct tally
tally_same f [] [] d e same = refl
tally_same f [] (y ∷ ys) d e same = absurd (Contains-nil y ((same y).1 (in_front y y ys refl)))
tally_same f (x ∷ xs) ys d e same =
    let c = (same x).0 (in_front x x xs refl) in
    ap (λ n. cond (f x) 1 0 + n) (tally_same f xs (without x ys) d.1 (distinct_without x ys e)
    (λ z. (
      λ k. kept_in x z ys ((same z).0 (in_rest x z xs k)) (apart_at x z xs d.0 k),
      λ k. elim (in_cases x z xs ((same z).1 (was_in x z ys k))) [
        | inl is ↦ absurd (gone x ys e (subst (Contains (without x ys)) (sym is) k))
        | inr later ↦ later
      ],
    )))
    ∙ sym (counted f x ys c)

split_count : (f test : Pair → Bool) (xs : List Pair) → tally f xs ≡ tally f (filter test xs) + tally f (filter (λ x. not (test x)) xs)
unfolding tally
split_count f test [] = refl
split_count f test (x ∷ xs) =
    let rest = split_count f test xs in
    elim (either (test x)) [
      | inl is ↦ rw is (ap (λ n. cond (f x) 1 0 + n) rest ∙ left (cond (f x) 1 0) _ _)
      | inr isnt ↦ rw isnt (ap (λ n. cond (f x) 1 0 + n) rest ∙ right (cond (f x) 1 0) _ _)
    ]
  where
    left : (a b c : ℕ) → a + (b + c) ≡ a + b + c
    left a b c = omega arith

    right : (a b c : ℕ) → a + (b + c) ≡ b + (a + c)
    right a b c = omega arith

-- what passes one of two tests that none passes both
tally_parts : (f whole s t : Pair → Bool) → ((x : Pair) → whole x ≡ (s x || t x)) → ((x : Pair) → s x ≡ true → t x ≡ false) → (xs : List Pair) → tally f (filter whole xs) ≡ tally f (filter s xs) + tally f (filter t xs)
unfolding tally
tally_parts f whole s t either_is apart [] = refl
tally_parts f whole s t either_is apart (x ∷ xs) =
    let rest = tally_parts f whole s t either_is apart xs in
    elim (either (s x)) [
      | inl is ↦ rw (either_is x, is, apart x is) (ap (λ n. cond (f x) 1 0 + n) rest ∙ left (cond (f x) 1 0) _ _)
      | inr isnt ↦ elim (either (t x)) [
        | inl that ↦ rw (either_is x, isnt, that) (ap (λ n. cond (f x) 1 0 + n) rest ∙ right (cond (f x) 1 0) _ _)
        | inr neither ↦ rw (either_is x, isnt, neither) rest
      ]
    ]
  where
    left : (a b c : ℕ) → a + (b + c) ≡ a + b + c
    left a b c = omega arith

    right : (a b c : ℕ) → a + (b + c) ≡ b + (a + c)
    right a b c = omega arith

pub count_parts : (f whole s t : Pair → Bool) → ((x : Pair) → whole x ≡ (s x || t x)) → ((x : Pair) → s x ≡ true → t x ≡ false) → (xs : List Pair)
    → count_by f (filter whole xs) ≡ count_by f (filter s xs) + count_by f (filter t xs)
count_parts f whole s t either_is apart xs =
    let a = count_is f (filter whole xs) in
    let b = count_is f (filter s xs) in
    let c = count_is f (filter t xs) in
    let d = tally_parts f whole s t either_is apart xs in
    sums _ _ _ _ _ _ a b c d
  where
    sums : (cw cs ct tw ts tt : ℕ) → cw ≡ tw → cs ≡ ts → ct ≡ tt → tw ≡ ts + tt → cw ≡ cs + ct
    sums cw cs ct tw ts tt a b c d = omega (arith, a, b, c, d)

-- lists without repeats and with the same members count the same
pub counts_same : (f : Pair → Bool) (xs ys : List Pair) → IsDistinct same_pair xs → IsDistinct same_pair ys → ((z : Pair) → Contains xs z ↔ Contains ys z) → count_by f xs ≡ count_by f ys
counts_same f xs ys d e same = count_is f xs ∙ tally_same f xs ys d e same ∙ sym (count_is f ys)

-- the holders after a change are those before, less the pairs of the changed prefixes before, and with those after
pub holders_step : (S T : Tables) (changed : Pair → Bool) (paths : List Path) → ((x : Pair) → changed x ≡ false → Contains (pairs S) x ↔ Contains (pairs T) x)
    → holders T paths + count_by (λ x. pointwise same_path x.paths paths) (filter changed (pairs S)) ≡ holders S paths + count_by (λ x. pointwise same_path x.paths paths) (filter changed (pairs T))
holders_step S T changed paths same =
    let rest = tally_same (λ x. pointwise same_path x.paths paths) (filter (λ x. not (changed x)) (pairs S)) (filter (λ x. not (changed x)) (pairs T))
    (apart-filter same_pair (λ x. not (changed x)) (pairs S) (pairs_apart S)) (apart-filter same_pair (λ x. not (changed x)) (pairs T) (pairs_apart T))
    (λ z. (
      λ c. (let r = filter_from (λ x. not (changed x)) (pairs S) z c in filter_in (λ x. not (changed x)) (pairs T) z ((same z (unturned (changed z) r.1)).0 r.0) r.1),
      λ c. (let r = filter_from (λ x. not (changed x)) (pairs T) z c in filter_in (λ x. not (changed x)) (pairs S) z ((same z (unturned (changed z) r.1)).1 r.0) r.1),
    )) in
    let s = split_count (λ x. pointwise same_path x.paths paths) changed (pairs S) in
    let t = split_count (λ x. pointwise same_path x.paths paths) changed (pairs T) in
    let a = count_is (λ x. pointwise same_path x.paths paths) (pairs S) in
    let b = count_is (λ x. pointwise same_path x.paths paths) (pairs T) in
    let c = count_is (λ x. pointwise same_path x.paths paths) (filter changed (pairs S)) in
    let d = count_is (λ x. pointwise same_path x.paths paths) (filter changed (pairs T)) in
    sums (holders S paths) (holders T paths) _ _ _ _ _ _ _ _ a b c d s t rest
  where
    unturned : (b : Bool) → not b ≡ true → b ≡ false
    unturned true h = absurd (false≢true h)
    unturned false h = refl

    sums : (hs ht cs ct ts tt gs gt rs rt : ℕ) → hs ≡ ts → ht ≡ tt → cs ≡ gs → ct ≡ gt → ts ≡ gs + rs → tt ≡ gt + rt → rs ≡ rt → ht + cs ≡ hs + ct
    sums hs ht cs ct ts tt gs gt rs rt a b c d e f g = omega (arith, a, b, c, d, e, f, g)

-- a pair that passes is counted
pub counts_some : (f : Pair → Bool) (xs : List Pair) (x : Pair) → Contains xs x → f x ≡ true → 0 < count_by f xs
counts_some f xs x c is =
    let n = count_is f xs ∙ counted f x xs c in
    let one : cond (f x) 1 0 ≡ 1 = ap (λ b. cond b 1 0) is in
    positive (count_by f xs) (cond (f x) 1 0) (tally f (without x xs)) n one
  where
    positive : (a b r : ℕ) → a ≡ b + r → b ≡ 1 → 0 < a
    positive a b r e o = omega (arith, e, o)

-- where none passes the count is nothing, and a count has one that passes
pub counts_have : (f : Pair → Bool) (xs : List Pair) → 0 < count_by f xs → (x : Pair) × Contains xs x × (f x ≡ true)
unfolding tally
counts_have f xs pos = by xs (subst (λ n. 0 < n) (count_is f xs) pos)
  where
    by : (xs : List Pair) → 0 < tally f xs → (x : Pair) × Contains xs x × (f x ≡ true)
    by [] pos = absurd (omega (arith, pos))
    by (x ∷ xs) pos = elim (either (f x)) [
      | inl is ↦ (x, in_front x x xs refl, is)
      | inr isnt ↦ (let q : 0 < 0 + tally f xs = rw isnt at pos in let r = by xs (omega (arith, q)) in (r.0, in_rest x r.0 xs r.1, r.2))
    ]

-- less one of its members, a list counts one less where that passes
pub counted_in : (paths : List Path) (x : Pair) (ys : List Pair) → Contains ys x → count_by (λ z. pointwise same_path z.paths paths) ys ≡ count_by (λ z. pointwise same_path z.paths paths) (without x ys) + once x.paths paths
unfolding once
counted_in paths x ys c =
    let a = count_is (λ z. pointwise same_path z.paths paths) ys in
    let b = count_is (λ z. pointwise same_path z.paths paths) (without x ys) in
    let e = counted (λ z. pointwise same_path z.paths paths) x ys c in
    sums (count_by (λ z. pointwise same_path z.paths paths) ys) (count_by (λ z. pointwise same_path z.paths paths) (without x ys)) (tally (λ z. pointwise same_path z.paths paths) ys) (tally (λ z. pointwise same_path z.paths paths) (without x ys))
    (cond (pointwise same_path x.paths paths) 1 0) a b e
  where
    sums : (a b c d u : ℕ) → a ≡ c → b ≡ d → c ≡ u + d → a ≡ b + u
    sums a b c d u e f g = omega (arith, e, f, g)

-- a prefix that has one pair counts its list alone
pub one_counted : (U : Tables) (p : Prefix) (paths : List Path) (x : Pair) → p ≡ x.prefix → Contains (pairs U) x → ((y : Pair) → Contains (pairs U) y → p ≡ y.prefix → x ≡ y)
    → count_by (λ y. pointwise same_path y.paths paths) (filter (λ y. same_prefix p y.prefix) (pairs U)) ≡ once x.paths paths
unfolding once IsDistinct
one_counted U p paths x at c only =
    counts_same (λ y. pointwise same_path y.paths paths) (filter (λ y. same_prefix p y.prefix) (pairs U)) (x ∷ []) (apart-filter same_pair (λ y. same_prefix p y.prefix) (pairs U) (pairs_apart U)) (tt, tt)
    (λ z. (
      λ d. (let r = filter_from (λ y. same_prefix p y.prefix) (pairs U) z d in in_front x z [] (only z r.0 ((same_prefix-Decides p z.prefix).0 r.1))),
      λ d. elim (in_cases x z [] d) [
        | inl is ↦ subst (Contains (filter (λ y. same_prefix p y.prefix) (pairs U))) is (filter_in (λ y. same_prefix p y.prefix) (pairs U) x c ((same_prefix-Decides p x.prefix).1 at))
        | inr none ↦ absurd (Contains-nil z none)
      ],
    ))
    ∙ (count_by-cons (λ y. pointwise same_path y.paths paths) x [] ∙ one (pointwise same_path x.paths paths))
  where
    one : (b : Bool) → unit_of b + 0 ≡ (if b then 1 else 0)
    one true = refl
    one false = refl

-- and one that has none counts nothing
pub none_counted : (U : Tables) (p : Prefix) (paths : List Path) → ((y : Pair) → Contains (pairs U) y → p ≡ y.prefix → ⊥) → count_by (λ y. pointwise same_path y.paths paths) (filter (λ y. same_prefix p y.prefix) (pairs U)) ≡ 0
unfolding IsDistinct
none_counted U p paths none =
    counts_same (λ y. pointwise same_path y.paths paths) (filter (λ y. same_prefix p y.prefix) (pairs U)) [] (apart-filter same_pair (λ y. same_prefix p y.prefix) (pairs U) (pairs_apart U)) tt
    (λ z. (
      λ d. (let r = filter_from (λ y. same_prefix p y.prefix) (pairs U) z d in absurd (none z r.0 ((same_prefix-Decides p z.prefix).0 r.1))),
      λ d. absurd (Contains-nil z d),
    ))
