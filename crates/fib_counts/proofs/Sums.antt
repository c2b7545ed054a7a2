-- Sums over all views, and over the numbers that are out.
use Rattle.std.proofs.Common.{◌≡◌, ℕ, zero, suc, ◌+◌, ◌<◌, ◌≤◌, Bool, true, false, true≢false, eqb, eq-eqb, ne_eqb, List, [], ◌∷◌, ◌++◌, length, refl, sym, ap, ◌∙◌, subst, arith, get_or-set_same, get_or-set_other}
use Rattle.std.specs.Prelude.{slice_index_or, slice_set, drop, if◌then◌else◌}
use mathlib.Core.Option.{some, some-injective, some-ne-none}
use mathlib.Core.Logic.{dite}
use native.Mathlib.Decide.{ℕ_discrete}
use lib.ListN.{get_elem?}
use Rattle.fib_counts.specs.Counts.{View, keeper, seat, spent, times_in, total, one_if, keeps, outs, free_in}
use Rattle.fib_counts.specs.inner.Told.{is_seat}
use Rattle.fib_core_lawful.specs.Claims.{times}

module _ {V : Type 0} (f : V → ℕ) where
  pub total_set : (views : List V) (id : ℕ) (v w : V) → get_elem? views id ≡ some v → total f (slice_set views id w) + f v ≡ total f views + f w
  total_set [] id v w at = absurd (some-ne-none v (sym at))
  total_set (x ∷ xs) zero v w at = let e : f x ≡ f v = ap f (some-injective x v at) in swap (f w) (total f xs) (f v) (f x) e
    where
      swap : (a b c d : ℕ) → d ≡ c → a + b + c ≡ d + b + a
      swap a b c d e = omega arith
  total_set (x ∷ xs) (suc id) v w at = more (f x) (total f (slice_set xs id w)) (f v) (total f xs) (f w) (total_set xs id v w at)
    where
      more : (a b c d e : ℕ) → b + c ≡ d + e → a + b + c ≡ a + d + e
      more a b c d e h = omega arith

  pub total_end : (views : List V) (v : V) → total f (views ++ v ∷ []) ≡ total f views + f v
  total_end [] v = omega arith
  total_end (x ∷ xs) v = let t = total_end xs v in more (f x) (total f (xs ++ v ∷ [])) (total f xs) (f v) t
    where
      more : (a b c d : ℕ) → b ≡ c + d → a + b ≡ a + c + d
      more a b c d h = omega arith

-- no sum is greater
pub total_le : {V : Type 0} (f g : V → ℕ) → ((v : V) → f v ≤ g v) → (views : List V) → total f views ≤ total g views
total_le f g h [] = omega arith
total_le f g h (v ∷ vs) = let a = h v in let r = total_le f g h vs in omega arith

pub times_most : (n : ℕ) (xs : List ℕ) → times n xs ≤ length xs
times_most n [] = omega arith
times_most n (x ∷ xs) = let t = times_most n xs in step (eqb x n) (times n xs) (length xs) t
  where
    step : (b : Bool) (m l : ℕ) → m ≤ l → (if b then 1 else 0) + m ≤ suc l
    step true m l h = omega arith
    step false m l h = omega arith

-- where there is neither a keeper nor a seat nothing was counted
pub none_counted : (w : ℕ) (views : List View) → total keeps views ≡ 0 → total is_seat views ≡ 0 → total (times_in w) views ≡ 0
none_counted w [] k s = refl
none_counted w (keeper d ∷ vs) k s = absurd (omega arith)
none_counted w (seat t ∷ vs) k s = absurd (omega arith)
none_counted w (spent ∷ vs) k s = let r = none_counted w vs (omega arith) (omega arith) in omega arith

-- where the one keeper is this and no seat is out
pub keeper_alone : (f : View → ℕ) (views : List View) (id : ℕ) (v : View) → get_elem? views id ≡ some v → f spent ≡ 0 → total f (slice_set views id spent) + f v ≡ total f views
keeper_alone f views id v at gone = let t = total_set f views id v spent at in omega arith

-- a number leaves
pub free_small : (out : List Bool) → outs out < length out → free_in out < length out
free_small [] h = absurd (omega arith)
free_small (true ∷ bs) h = let r = free_small bs (omega arith) in omega arith
free_small (false ∷ bs) h = omega arith

pub free_home : (out : List Bool) → slice_index_or out (free_in out) false ≡ false
free_home [] = refl
free_home (true ∷ bs) = free_home bs
free_home (false ∷ bs) = refl

pub out_more : (out : List Bool) (m : ℕ) → m < length out → slice_index_or out m false ≡ false → (n : ℕ) → one_if (slice_index_or (slice_set out m true) n false) ≡ one_if (slice_index_or out n false) + one_if (eqb m n)
out_more out m lt home n = dite (ℕ_discrete n m)
    (λ e. subst (λ i. one_if (slice_index_or (slice_set out m true) i false) ≡ one_if (slice_index_or out i false) + one_if (eqb m i)) (sym e)
    (ap one_if (get_or-set_same out m true false lt) ∙ sym (ap (λ b. one_if b + one_if (eqb m m)) home ∙ ap (λ b. 0 + one_if b) (eq-eqb m m refl))))
    (λ ne. ap one_if (get_or-set_other out m n true false ne) ∙ sym (ap (λ b. one_if (slice_index_or out n false) + one_if b) (ne_eqb m n (λ e. ne (sym e))) ∙ plain (one_if (slice_index_or out n false))))
  where
    plain : (a : ℕ) → a + 0 ≡ a
    plain a = omega arith

pub outs_more : (out : List Bool) (m : ℕ) → m < length out → slice_index_or out m false ≡ false → outs (slice_set out m true) ≡ outs out + 1
outs_more [] m lt home = absurd (omega arith)
outs_more (true ∷ bs) zero lt home = absurd (true≢false home)
outs_more (false ∷ bs) zero lt home = omega arith
outs_more (b ∷ bs) (suc m) lt home = let r = outs_more bs m (omega arith) home in omega arith

-- a number comes home
pub out_less : (out : List Bool) (m : ℕ) → m < length out → slice_index_or out m false ≡ true → (n : ℕ) → one_if (slice_index_or out n false) ≡ one_if (slice_index_or (slice_set out m false) n false) + one_if (eqb m n)
out_less out m lt away n = dite (ℕ_discrete n m)
    (λ e. subst (λ i. one_if (slice_index_or out i false) ≡ one_if (slice_index_or (slice_set out m false) i false) + one_if (eqb m i)) (sym e)
    (ap one_if away ∙ sym (ap (λ b. one_if b + one_if (eqb m m)) (get_or-set_same out m false false lt) ∙ ap (λ b. 0 + one_if b) (eq-eqb m m refl))))
    (λ ne. sym (ap (λ b. one_if (slice_index_or (slice_set out m false) n false) + one_if b) (ne_eqb m n (λ e. ne (sym e))) ∙ plain (one_if (slice_index_or (slice_set out m false) n false)) ∙ ap one_if (get_or-set_other out m n false false ne)))
  where
    plain : (a : ℕ) → a + 0 ≡ a
    plain a = omega arith

pub outs_less : (out : List Bool) (m : ℕ) → slice_index_or out m false ≡ true → outs (slice_set out m false) + 1 ≡ outs out
outs_less [] m away = absurd (true≢false (sym away))
outs_less (b ∷ bs) zero away = head b away
  where
    head : (b : Bool) → b ≡ true → 0 + outs bs + 1 ≡ one_if b + outs bs
    head true is = omega arith
    head false is = absurd (true≢false (sym is))
outs_less (b ∷ bs) (suc m) away = let r = outs_less bs m away in omega arith

pub away_inside : (out : List Bool) (m : ℕ) → slice_index_or out m false ≡ true → m < length out
away_inside [] m away = absurd (true≢false (sym away))
away_inside (b ∷ bs) zero away = omega arith
away_inside (b ∷ bs) (suc m) away = let r = away_inside bs m away in omega arith

pub outs_most : (out : List Bool) → outs out ≤ length out
outs_most [] = omega arith
outs_most (true ∷ bs) = let r = outs_most bs in omega arith
outs_most (false ∷ bs) = let r = outs_most bs in omega arith

-- the least number that isn't out, from one on
pub free_taken : (out : List Bool) (n : ℕ) → n < length out → slice_index_or out n false ≡ true → free_in (drop n out) ≡ suc (free_in (drop (suc n) out))
free_taken [] n lt is = absurd (omega arith)
free_taken (true ∷ bs) zero lt is = refl
free_taken (false ∷ bs) zero lt is = absurd (true≢false (sym is))
free_taken (b ∷ bs) (suc n) lt is = free_taken bs n (omega arith) is

pub free_found : (out : List Bool) (n : ℕ) → n < length out → slice_index_or out n false ≡ false → free_in (drop n out) ≡ 0
free_found [] n lt is = absurd (omega arith)
free_found (true ∷ bs) zero lt is = absurd (true≢false is)
free_found (false ∷ bs) zero lt is = refl
free_found (b ∷ bs) (suc n) lt is = free_found bs n (omega arith) is
