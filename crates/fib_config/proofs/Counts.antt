-- How many distinct members lists have.
use Rattle.std.proofs.Common.{arith, ◌≡◌, ◌+◌, ◌≤◌, Bool, true, false, cond, List, [], ◌∷◌, ◌++◌, map, length, inl, inr, sym, ◌∙◌, subst}
use Rattle.std.specs.Prelude.{flat_map, count_by}
use Rattle.std.specs.List.{AllByRecursion, IsDistinct}
use Rattle.std.specs.Set.{unique_keys, is_member, distinct_count}
use Rattle.std.specs.Cmp.{IsEquivalence}
use Rattle.std.proofs.lemmas.Map.Made.{length-le_from_is_member, distinct_count-le}
use Rattle.std.proofs.lemmas.Map.Steps.{list_any_congr}
use Rattle.std.proofs.lemmas.List.Sums.{sum_by-cons}
use Rattle.fib_base_list.proofs.Lists.{either, is_member-unique_keys}
use Rattle.fib_resolve.proofs.PairLaws.{each-unique}
use Rattle.fib_base_list.proofs.Booleans.{or_right}

apart : {K : Type 0} (eq : K → K → Bool) (x : K) (xs : List K) → is_member eq xs x ≡ false → AllByRecursion (λ y. eq x y ≡ false) xs
apart eq x [] h = tt
apart eq x (y ∷ ys) h =
    elim (either (eq x y)) [
      | inl is ↦ absurd (let k = rw is at h in cc)
      | inr isnt ↦ (isnt, apart eq x ys (rw isnt at h))
    ]

once : {K : Type 0} (eq : K → K → Bool) (xs : List K) → IsDistinct eq (unique_keys eq xs)
unfolding IsDistinct
once eq [] = tt
once eq (x ∷ xs) =
    elim (either (is_member eq xs x)) [
      | inl is ↦ rw is (once eq xs)
      | inr isnt ↦ rw isnt (each-unique (λ y. eq x y ≡ false) eq xs (apart eq x xs isnt), once eq xs)
    ]

member_all : {K : Type 0} {eq : K → K → Bool} → IsEquivalence eq → (xs ys : List K) (q : K) → AllByRecursion (λ x. is_member eq ys x ≡ true) xs → is_member eq xs q ≡ true → is_member eq ys q ≡ true
member_all laws [] ys q h m = absurd (cc)
member_all {K} {eq} laws (x ∷ xs) ys q h m =
    elim (either (eq q x)) [
      | inl is ↦ list_any_congr laws q x ys is ∙ h.0
      | inr isnt ↦ member_all laws xs ys q h.1 (rw isnt at m)
    ]

-- a list within another has no more distinct members
pub count_within : {K : Type 0} {eq : K → K → Bool} → IsEquivalence eq → (xs ys : List K) → AllByRecursion (λ x. is_member eq ys x ≡ true) xs → distinct_count eq xs ≤ distinct_count eq ys
count_within {K} {eq} laws xs ys h =
    length-le_from_is_member laws (unique_keys eq xs) (unique_keys eq ys) (once eq xs)
    (λ q m. is_member-unique_keys laws q ys ∙ member_all laws xs ys q h (sym (is_member-unique_keys laws q xs) ∙ m))

pub count_within_length : {K : Type 0} {eq : K → K → Bool} → IsEquivalence eq → (xs ys : List K) → AllByRecursion (λ x. is_member eq ys x ≡ true) xs → distinct_count eq xs ≤ length ys
count_within_length {K} {eq} laws xs ys h = omega (arith, count_within laws xs ys h, distinct_count-le eq ys)

pub one_more : {K : Type 0} (eq : K → K → Bool) (x : K) (xs : List K) → distinct_count eq (x ∷ xs) ≤ 1 + distinct_count eq xs
one_more eq x xs =
    elim (either (is_member eq xs x)) [
      | inl is ↦ rw is (omega arith)
      | inr isnt ↦ rw isnt (omega arith)
    ]

-- what is put in front adds at most its length
pub front_count : {K : Type 0} (eq : K → K → Bool) (zs ys : List K) → distinct_count eq (zs ++ ys) ≤ length zs + distinct_count eq ys
front_count eq [] ys = omega arith
front_count eq (z ∷ zs) ys = omega (arith, one_more eq z (zs ++ ys), front_count eq zs ys)

pub none_more : {K : Type 0} (eq : K → K → Bool) (x : K) (xs : List K) → is_member eq xs x ≡ true → distinct_count eq (x ∷ xs) ≤ distinct_count eq xs
none_more eq x xs h = rw h (omega arith)

pub member_behind : {K : Type 0} (eq : K → K → Bool) (zs ys : List K) (x : K) → is_member eq ys x ≡ true → is_member eq (zs ++ ys) x ≡ true
member_behind eq [] ys x h = h
member_behind eq (z ∷ zs) ys x h = or_right (eq x z) (is_member eq (zs ++ ys) x) (member_behind eq zs ys x h)

-- of what is put in front only that counts which is no member behind
pub count_front : {K A : Type 0} (eq : K → K → Bool) (f : A → K) (test : A → Bool) (ks : List A) (ys : List K) → AllByRecursion (λ k. test k ≡ false → is_member eq ys (f k) ≡ true) ks → distinct_count eq (map f ks ++ ys) ≤ count_by test ks + distinct_count eq ys
count_front eq f test [] ys h = omega arith
count_front eq f test (k ∷ ks) ys h =
    let more = count_front eq f test ks ys h.1 in
    let counted : count_by test (k ∷ ks) ≡ cond (test k) 1 0 + count_by test ks = sum_by-cons (λ x. cond (test x) 1 0) k ks in
    elim (either (test k)) [
      | inl is ↦ (
          let one : count_by test (k ∷ ks) ≡ 1 + count_by test ks = subst (λ b. count_by test (k ∷ ks) ≡ cond b 1 0 + count_by test ks) is counted in
          omega (arith, more, one, one_more eq (f k) (map f ks ++ ys))
          )
      | inr isnt ↦ (
          let none : count_by test (k ∷ ks) ≡ 0 + count_by test ks = subst (λ b. count_by test (k ∷ ks) ≡ cond b 1 0 + count_by test ks) isnt counted in
          omega (arith, more, none, none_more eq (f k) (map f ks ++ ys) (member_behind eq (map f ks) ys (f k) (h.0 isnt)))
          )
    ]

-- what each member of a whole has, each member of its parts has
pub each-left : {X : Type 0} (P : X → Type 0) (xs ys : List X) → AllByRecursion P (xs ++ ys) → AllByRecursion P xs
each-left P [] ys h = tt
each-left P (x ∷ xs) ys h = (h.0, each-left P xs ys h.1)

pub each-right : {X : Type 0} (P : X → Type 0) (xs ys : List X) → AllByRecursion P (xs ++ ys) → AllByRecursion P ys
each-right P [] ys h = h
each-right P (x ∷ xs) ys h = each-right P xs ys h.1

pub each-of_map : {X Y : Type 0} (P : Y → Type 0) (f : X → Y) (xs : List X) → AllByRecursion P (map f xs) → AllByRecursion (λ x. P (f x)) xs
each-of_map P f [] h = tt
each-of_map P f (x ∷ xs) h = (h.0, each-of_map P f xs h.1)

pub each-of_flat_map : {X Y : Type 0} (P : Y → Type 0) (f : X → List Y) (xs : List X) → AllByRecursion P (flat_map f xs) → AllByRecursion (λ x. AllByRecursion P (f x)) xs
each-of_flat_map P f [] h = tt
each-of_flat_map P f (x ∷ xs) h = (each-left P (f x) (flat_map f xs) h, each-of_flat_map P f xs (each-right P (f x) (flat_map f xs) h))
