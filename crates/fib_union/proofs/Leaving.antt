-- Copies leave one by one.
use Rattle.std.proofs.Common.{arith, ◌≡◌, ℕ, ◌+◌, ◌<◌, ◌≤◌, Bool, cond, zero, suc, ◌-◌, eqb, eq-eqb, List, [], ◌∷◌, ◌++◌, length, get_or, take, drop, map, Some, refl, sym, ◌∙◌, ap, subst, append_assoc}
use Rattle.std.specs.Prelude.{count_by}
use Rattle.std.specs.Prelude.{min}
use Rattle.std.specs.List.{All}
use Rattle.std.proofs.lemmas.List.{take_more, map-append, length-take, length-map, length-drop, get_or-take, get_or-drop, take-map, take_at}
use Rattle.fib_union.specs.inner.Fields.{plain, StartsBelow}
use Rattle.std.proofs.lemmas.List.Sums.{sum_by_more, sum_by-take-le, sum_by-cons}
use Rattle.fib_union.specs.Unions.{one}
use Rattle.fib_union.specs.declared.retired.RetiredEdge.{RetiredEdge}
use Rattle.fib_union.proofs.Chains.{no_copy, plain_at}

module _ (gone : List RetiredEdge) (i : ℕ) (lt : i < length gone) where
  abbrev outs : ℕ → List RetiredEdge → ℕ
  outs o os = count_by (λ (r : RetiredEdge). eqb r.to o) os

  more : (o : ℕ) → outs o (take (i + 1) gone) ≡ outs o (take i gone) + cond (eqb (get_or gone i no_copy).to o) 1 0
  more o = sum_by_more (λ (r : RetiredEdge). cond (eqb r.to o) 1 0) gone i no_copy lt

  pub some_in : (now old : ℕ) → now + outs (get_or gone i no_copy).to (take i gone) ≡ old → outs (get_or gone i no_copy).to gone ≤ old → 0 < now
  some_in now old e le =
      let o = (get_or gone i no_copy).to in
      let m = more o in
      let t : outs o (take (i + 1) gone) ≤ outs o gone = sum_by-take-le (λ (r : RetiredEdge). cond (eqb r.to o) 1 0) gone (i + 1) in
      let is : ◌≡◌ {A = ℕ} (cond (eqb o o) 1 0) 1 = ap (λ (b : Bool). cond b 1 0) (eq-eqb o o refl) in
      omega arith

  pub ins_more : (o now then old : ℕ) → then + one o (Some (get_or gone i no_copy).to) ≡ now → now + outs o (take i gone) ≡ old → then + outs o (take (i + 1) gone) ≡ old
  ins_more o now then old a b = let m = more o in omega arith

  pub left_more : (xs now ys : List ℕ) → now ≡ xs ++ map (λ (r : RetiredEdge). r.to) (take i gone) → ys ≡ now ++ (get_or gone i no_copy).to ∷ [] → ys ≡ xs ++ map (λ (r : RetiredEdge). r.to) (take (i + 1) gone)
  left_more xs now ys e f =
      f ∙ (ap (λ (l : List ℕ). l ++ (get_or gone i no_copy).to ∷ []) e
      ∙ (append_assoc xs (map (λ (r : RetiredEdge). r.to) (take i gone)) ((get_or gone i no_copy).to ∷ [])
      ∙ ap (λ (l : List ℕ). xs ++ l) (sym (ap (λ (l : List RetiredEdge). map (λ (r : RetiredEdge). r.to) l) (take_more gone i no_copy lt) ∙ map-append (λ (r : RetiredEdge). r.to) (take i gone) (get_or gone i no_copy ∷ [])))))

-- the oldest copies leave

pub count_plain : (o : ℕ) (os : List RetiredEdge) → count_by (λ (c : ℕ × ℕ). eqb c.1 o) (map plain os) ≡ count_by (λ (r : RetiredEdge). eqb r.to o) os
count_plain o [] = refl
count_plain o (r ∷ os) =
    let a = sum_by-cons (λ (c : ℕ × ℕ). cond (eqb c.1 o) 1 0) (plain r) (map plain os) in
    let b = sum_by-cons (λ (s : RetiredEdge). cond (eqb s.to o) 1 0) r os in
    omega (arith, a, b, count_plain o os)

pub tos_plain : (os : List RetiredEdge) → map (λ (c : ℕ × ℕ). c.1) (map plain os) ≡ map (λ (r : RetiredEdge). r.to) os
tos_plain [] = refl
tos_plain (r ∷ os) = ap (λ (l : List ℕ). r.to ∷ l) (tos_plain os)

pub drop-map : {A B : Type 0} (f : A → B) (n : ℕ) (xs : List A) → drop n (map f xs) ≡ map f (drop n xs)
drop-map f zero xs = refl
drop-map f (suc n) [] = refl
drop-map f (suc n) (x ∷ xs) = drop-map f n xs

module _ (gone : ℕ) (os : List RetiredEdge) where
  pub first_targets : (n : ℕ) → All (λ (c : ℕ × ℕ). c.1 < n) (map plain os) → All (λ (r : RetiredEdge). r.to < n) (take gone os)
  first_targets n all = λ k d lt.
      let l : length (take gone os) ≡ min gone (length os) = length-take gone os in
      let m : length (map plain os) ≡ length os = length-map os plain in
      let e : get_or (take gone os) k d ≡ get_or os k d = get_or-take gone os k d (omega arith) in
      subst (λ (r : RetiredEdge). r.to < n) (sym e) (subst (λ (c : ℕ × ℕ). c.1 < n) (plain_at os k d (omega arith)) (all k (plain d) (omega arith)))

  pub first_counted : (o x : ℕ) → count_by (λ (c : ℕ × ℕ). eqb c.1 o) (map plain os) ≤ x → count_by (λ (r : RetiredEdge). eqb r.to o) (take gone os) ≤ x
  first_counted o x le = (let t : count_by (λ (r : RetiredEdge). eqb r.to o) (take gone os) ≤ count_by (λ (r : RetiredEdge). eqb r.to o) os = sum_by-take-le (λ (r : RetiredEdge). cond (eqb r.to o) 1 0) os gone in let p = count_plain o os in omega (arith, le, t, p))

  pub first_count : (o now old : ℕ) → now + count_by (λ (r : RetiredEdge). eqb r.to o) (take gone os) ≡ old → now + count_by (λ (c : ℕ × ℕ). eqb c.1 o) (take gone (map plain os)) ≡ old
  first_count o now old e = (let p = ap (λ (cs : List (ℕ × ℕ)). count_by (λ (c : ℕ × ℕ). eqb c.1 o) cs) (take-map plain gone os) in let q = count_plain o (take gone os) in omega (arith, e, p, q))

  pub first_left : (xs ys : List ℕ) → ys ≡ xs ++ map (λ (r : RetiredEdge). r.to) (take gone os) → ys ≡ xs ++ map (λ (c : ℕ × ℕ). c.1) (take gone (map plain os))
  first_left xs ys e = e ∙ ap (λ (l : List ℕ). xs ++ l) (sym (ap (λ (cs : List (ℕ × ℕ)). map (λ (c : ℕ × ℕ). c.1) cs) (take-map plain gone os) ∙ tos_plain (take gone os)))

  -- after the turn the others stand in front
  pub turned : (stay : ℕ) (turn cut : List RetiredEdge) → stay ≡ length os - gone → gone ≤ length os → turn ≡ drop gone os ++ take gone os → cut ≡ take stay turn → cut ≡ drop gone os
  turned stay turn cut s le e f = f ∙ (ap (λ (l : List RetiredEdge). take stay l) e ∙ take_at (drop gone os) (take gone os) stay (length-drop gone os ∙ sym s))

  pub turned_plain : (cut : List RetiredEdge) → cut ≡ drop gone os → map plain cut ≡ drop gone (map plain os)
  turned_plain cut e = ap (λ (l : List RetiredEdge). map plain l) e ∙ sym (drop-map plain gone os)

-- what a borrowed list gives back
pub given_back : {A : Type 0} (n : ℕ) (xs ys : List A) → length xs ≡ n → take n (xs ++ ys) ≡ xs
given_back n xs ys e = take_at xs ys n e
