-- Claims are drawn once: sums over all views, and what each event does to them.
use Rattle.std.proofs.Common.{◌≡◌, ℕ, zero, suc, ◌+◌, ◌<◌, eqb, List, [], ◌∷◌, ◌++◌, length, refl, sym, ap, ◌∙◌, arith, get_or-set_same, length-append}
use Rattle.std.proofs.lemmas.Bool.Decides.{nat_tests}
use Rattle.std.specs.Prelude.{slice_index, slice_set, nat_lt, if◌then◌else◌}
use mathlib.Core.Option.{some, some-injective, some-ne-none}
use lib.ListN.{get_elem?}
use Rattle.fib_core_lawful.specs.Layout.{claim_word}
use Rattle.fib_core_lawful.specs.State.{Worker, View, worker, spent, claimed}
use Rattle.fib_core_lawful.specs.Claims.{claims_in, times, times_in, count_in, total, IsClaimed}

module _ (f : View → ℕ) where
  pub total_set : (views : List View) (id : ℕ) (v w : View) → get_elem? views id ≡ some v → total f (slice_set views id w) + f v ≡ total f views + f w
  total_set [] id v w at = absurd (some-ne-none v (sym at))
  total_set (x ∷ xs) zero v w at = let e : f x ≡ f v = ap f (some-injective x v at) in swap (f w) (total f xs) (f v) (f x) e
    where
      swap : (a b c d : ℕ) → d ≡ c → a + b + c ≡ d + b + a
      swap a b c d e = omega arith
  total_set (x ∷ xs) (suc id) v w at = more (f x) (total f (slice_set xs id w)) (f v) (total f xs) (f w) (total_set xs id v w at)
    where
      more : (a b c d e : ℕ) → b + c ≡ d + e → a + b + c ≡ a + d + e
      more a b c d e h = omega arith

  pub total_same : (views : List View) (id : ℕ) (v w : View) → get_elem? views id ≡ some v → f w ≡ f v → total f (slice_set views id w) ≡ total f views
  total_same views id v w at same = let t = total_set views id v w at in cancel (total f (slice_set views id w)) (f v) (total f views) (f w) t same
    where
      cancel : (a b c d : ℕ) → a + b ≡ c + d → d ≡ b → a ≡ c
      cancel a b c d h e = omega arith

  pub total_end : (views : List View) (v : View) → total f (views ++ v ∷ []) ≡ total f views + f v
  total_end [] v = omega arith
  total_end (x ∷ xs) v = let t = total_end xs v in more (f x) (total f (xs ++ v ∷ [])) (total f xs) (f v) t
    where
      more : (a b c d : ℕ) → b ≡ c + d → a + b ≡ a + c + d
      more a b c d h = omega arith

  pub total_none : (views : List View) → ((j : ℕ) (u : View) → get_elem? views j ≡ some u → f u ≡ 0) → total f views ≡ 0
  total_none [] h = refl
  total_none (x ∷ xs) h = let a = h zero x refl in let b = total_none xs (λ j u e. h (suc j) u e) in omega arith

pub times_append : (n : ℕ) (xs ys : List ℕ) → times n (xs ++ ys) ≡ times n xs + times n ys
times_append n [] ys = omega arith
times_append n (x ∷ xs) ys = let t = times_append n xs ys in more (if eqb x n then 1 else 0) (times n (xs ++ ys)) (times n xs) (times n ys) t
  where
    more : (a b c d : ℕ) → b ≡ c + d → a + b ≡ a + c + d
    more a b c d h = omega arith

-- a step that moves no claim
pub claims_kept : (words words' : List ℕ) (views : List View) (id : ℕ) (v w : View) → get_elem? views id ≡ some v → claims_in w ≡ claims_in v → slice_index words' claim_word ≡ slice_index words claim_word → IsClaimed words views → IsClaimed words' (slice_set views id w)
claims_kept words words' views id v w at same word c = record {
  all = word ∙ c.all ∙ sym (total_same count_in views id v w at (ap length same));
  each = λ n. total_same (times_in n) views id v w at (ap (times n) same) ∙ c.each n ∙ ap (λ m. if nat_lt n m then 1 else 0) (sym word);
}

-- a split: the new seat or note has no claim
pub claims_split : (words : List ℕ) (views : List View) (id : ℕ) (v w s : View) → get_elem? views id ≡ some v → claims_in w ≡ claims_in v → claims_in s ≡ [] → IsClaimed words views → IsClaimed words (slice_set views id w ++ s ∷ [])
claims_split words views id v w s at same none c =
    let d = claims_kept words words views id v w at same refl c in
    record {
      all = d.all ∙ sym (total_end count_in (slice_set views id w) s ∙ nothing (total count_in (slice_set views id w)) (count_in s) (ap length none));
      each = λ n. total_end (times_in n) (slice_set views id w) s ∙ nothing (total (times_in n) (slice_set views id w)) (times_in n s) (ap (times n) none) ∙ d.each n;
    }
  where
    nothing : (a b : ℕ) → b ≡ 0 → a + b ≡ a
    nothing a b e = omega arith

-- a join: what the other view had goes to this one
pub claims_joined : (words : List ℕ) (views : List View) (id other : ℕ) (v w u : View) → get_elem? views id ≡ some v → get_elem? (slice_set views id w) other ≡ some u → claims_in w ≡ claims_in v ++ claims_in u → IsClaimed words views → IsClaimed words (slice_set (slice_set views id w) other spent)
claims_joined words views id other v w u at there same c = record {
  all = c.all ∙ sym (moved (total count_in (slice_set (slice_set views id w) other spent)) (total count_in (slice_set views id w)) (total count_in views) (count_in v) (count_in w) (count_in u)
      (total_set count_in (slice_set views id w) other u spent there) (total_set count_in views id v w at) (ap length same ∙ length-append (claims_in v) (claims_in u)));
  each = λ n. moved (total (times_in n) (slice_set (slice_set views id w) other spent)) (total (times_in n) (slice_set views id w)) (total (times_in n) views) (times_in n v) (times_in n w) (times_in n u)
      (total_set (times_in n) (slice_set views id w) other u spent there) (total_set (times_in n) views id v w at) (ap (times n) same ∙ times_append n (claims_in v) (claims_in u)) ∙ c.each n;
}
  where
    moved : (a b c v w u : ℕ) → a + u ≡ b + 0 → b + v ≡ c + w → w ≡ v + u → a ≡ c
    moved a b c v w u x y z = omega arith

-- 13: the number that was found is the next
pub claims_drawn : (words : List ℕ) (views : List View) (id : ℕ) (v : Worker) → claim_word < length words → get_elem? views id ≡ some (worker v) → IsClaimed words views → IsClaimed (slice_set words claim_word (slice_index words claim_word + 1)) (slice_set views id (worker (claimed v (slice_index words claim_word))))
claims_drawn words views id v room at c =
    let now : slice_index (slice_set words claim_word (slice_index words claim_word + 1)) claim_word ≡ slice_index words claim_word + 1 = get_or-set_same words claim_word (slice_index words claim_word + 1) 0 room in
    let w : View = worker (claimed v (slice_index words claim_word)) in
    record {
      all = now ∙ more (total count_in (slice_set views id w)) (length v.claims) (total count_in views) (length (v.claims ++ slice_index words claim_word ∷ [])) (slice_index words claim_word) (total_set count_in views id (worker v) w at) (length-append v.claims (slice_index words claim_word ∷ [])) c.all;
      each = λ n. each n (total (times_in n) (slice_set views id w)) (times n v.claims) (total (times_in n) views) (times n (v.claims ++ slice_index words claim_word ∷ [])) (slice_index words claim_word) (total_set (times_in n) views id (worker v) w at) (times_append n v.claims (slice_index words claim_word ∷ [])) (c.each n)
          ∙ ap (λ m. if nat_lt n m then 1 else 0) (sym now);
    }
  where
    more : (a b c d w : ℕ) → a + b ≡ c + d → d ≡ b + 1 → w ≡ c → w + 1 ≡ a
    more a b c d w x y z = omega arith

    each : (n a b c d w : ℕ) → a + b ≡ c + d → d ≡ b + ((if eqb w n then 1 else 0) + 0) → c ≡ (if nat_lt n w then 1 else 0) → a ≡ (if nat_lt n (w + 1) then 1 else 0)
    each n a b c d w x y z = grind (arith, nat_tests)
