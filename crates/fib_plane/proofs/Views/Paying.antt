-- What is cleared is paid by what becomes free: sixteen cells at most for each object.
use Rattle.std.proofs.Common.{arith, ◌≡◌, ℕ, suc, ◌+◌, ◌*◌, ◌<◌, ◌≤◌, ◌⊎◌, inl, inr, ⊎_elim, Bool, true, false, cond, List, [], ◌∷◌, length, take, drop, get_or, Option, Some, None, refl, sym, ◌∙◌, ap, subst}
use Rattle.std.specs.Prelude.{count_by}
use Rattle.std.proofs.lemmas.Bool.{false≢true}
use Rattle.std.proofs.lemmas.List.{take-append-drop, length-take-le, length-drop, get_or-take, get_or-drop}
use Rattle.std.proofs.lemmas.List.Sums.{sum_by-append, count_by-le-length}
use Rattle.fib_base_list.proofs.Booleans.{count_by-cons, unit_of}
use Rattle.fib_pool.specs.declared.object.Object.{Object}
use Rattle.fib_pool.specs.Objects.{at, is_free, free_in}

module _ {A : Type 0} (f : A → Bool) (d : A) where
  -- at most as many pass where each that passes did before
  pub count_fewer : (bs cs : List A) → length cs ≡ length bs → ((k : ℕ) → k < length bs → f (get_or cs k d) ≡ true → f (get_or bs k d) ≡ true) → count_by f cs ≤ count_by f bs
  count_fewer [] [] e h = omega arith
  count_fewer [] (c ∷ cs) e h = absurd (let bad : ⊥ = omega arith in bad)
  count_fewer (b ∷ bs) [] e h = absurd (let bad : ⊥ = omega arith in bad)
  count_fewer (b ∷ bs) (c ∷ cs) e h =
      let x = count_by-cons f b bs in
      let y = count_by-cons f c cs in
      let rest = count_fewer bs cs (omega arith) (λ k lt. h (suc k) (omega arith)) in
      let here : unit_of (f c) ≤ unit_of (f b) = one (f c) (f b) (h 0 (omega arith)) in
      omega arith
    where
      one : (x y : Bool) → (x ≡ true → y ≡ true) → unit_of x ≤ unit_of y
      one true y h = (let e : unit_of y ≡ 1 = ap unit_of (h refl) in omega arith)
      one false y h = omega arith

  pub count_equal : (bs cs : List A) → length cs ≡ length bs → ((k : ℕ) → k < length bs → f (get_or cs k d) ≡ f (get_or bs k d)) → count_by f cs ≡ count_by f bs
  count_equal [] [] e h = refl
  count_equal [] (c ∷ cs) e h = absurd (let bad : ⊥ = omega arith in bad)
  count_equal (b ∷ bs) [] e h = absurd (let bad : ⊥ = omega arith in bad)
  count_equal (b ∷ bs) (c ∷ cs) e h =
      let x = count_by-cons f b bs in
      let y = count_by-cons f c cs in
      let rest = count_equal bs cs (omega arith) (λ k lt. h (suc k) (omega arith)) in
      let here : unit_of (f c) ≡ unit_of (f b) = ap unit_of (h 0 (omega arith)) in
      omega arith

  pub count_none : (bs : List A) → ((k : ℕ) → k < length bs → f (get_or bs k d) ≡ false) → count_by f bs ≡ 0
  count_none [] h = refl
  count_none (b ∷ bs) h =
      let x = count_by-cons f b bs in
      let rest = count_none bs (λ k lt. h (suc k) (omega arith)) in
      let here : unit_of (f b) ≡ 0 = ap unit_of (h 0 (omega arith)) in
      omega arith

  -- the first sixteen, and the others
  module _ (bs : List A) (long : 16 ≤ length bs) where
    pub split_count : count_by f bs ≡ count_by f (take 16 bs) + count_by f (drop 16 bs)
    split_count = ap (count_by f) (sym (take-append-drop 16 bs)) ∙ sum_by-append (λ (x : A). cond (f x) 1 0) (take 16 bs) (drop 16 bs)

    pub front_long : length (take 16 bs) ≡ 16
    front_long = length-take-le 16 bs long

    pub front_few : count_by f (take 16 bs) ≤ 16
    front_few = (let a = count_by-le-length f (take 16 bs) in let l = front_long in omega arith)

    pub front_at : (s : ℕ) → s < 16 → get_or (take 16 bs) s d ≡ get_or bs s d
    front_at s lt = get_or-take 16 bs s d lt

    pub back_long : length (drop 16 bs) + 16 ≡ length bs
    back_long = (let e = length-drop 16 bs in omega arith)

    pub back_at : (o s : ℕ) → get_or (drop 16 bs) (16 * o + s) d ≡ get_or bs (16 * suc o + s) d
    back_at o s = get_or-drop 16 bs (16 * o + s) d ∙ ap (λ (i : ℕ). get_or bs i d) (let e : 16 + (16 * o + s) ≡ 16 * suc o + s = omega arith in e)

  at_front : (s : ℕ) → 16 * 0 + s ≡ s
  at_front s = omega arith

  -- one object more
  one_object : (x y : Option Object) (bs cs : List A) → 16 ≤ length bs → 16 ≤ length cs
      → ((s : ℕ) → s < 16 → (y ≡ None) ⊎ (f (get_or cs s d) ≡ f (get_or bs s d)))
      → ((s : ℕ) → s < 16 → x ≡ None → f (get_or bs s d) ≡ false) → (x ≡ None → y ≡ None)
      → count_by f (take 16 bs) + 16 * unit_of (is_free x) ≤ count_by f (take 16 cs) + 16 * unit_of (is_free y)
  one_object None y bs cs lb lc same none taken =
      let z : unit_of (is_free y) ≡ 1 = ap (λ (e : Option Object). unit_of (is_free e)) (taken refl) in
      let n = count_none (take 16 bs) (λ s lt. (let l = front_long bs lb in let small : s < 16 = omega arith in ap f (front_at bs lb s small) ∙ none s small refl)) in
      omega arith
  one_object (Some x) None bs cs lb lc same none taken = (let n = front_few bs lb in omega arith)
  one_object (Some x) (Some y) bs cs lb lc same none taken =
      let lb' = front_long bs lb in
      let lc' = front_long cs lc in
      let e = count_equal (take 16 bs) (take 16 cs) (omega arith) (λ s lt. (let small : s < 16 = omega arith in ap f (front_at cs lc s small) ∙ (⊎_elim (λ (q : Some y ≡ None). absurd (let bad : ⊥ = cc in bad)) (λ (q : f (get_or cs s d) ≡ f (get_or bs s d)). q) (same s small) ∙ sym (ap f (front_at bs lb s small))))) in
      omega arith

  pub paid : (xs ys : List (Option Object)) (bs cs : List A) → length ys ≡ length xs → length bs ≡ 16 * length xs → length cs ≡ 16 * length xs
      → ((o s : ℕ) → s < 16 → (at ys o ≡ None) ⊎ (f (get_or cs (16 * o + s) d) ≡ f (get_or bs (16 * o + s) d)))
      → ((o s : ℕ) → s < 16 → at xs o ≡ None → f (get_or bs (16 * o + s) d) ≡ false)
      → ((o : ℕ) → at xs o ≡ None → at ys o ≡ None)
      → count_by f bs + 16 * count_by is_free xs ≤ count_by f cs + 16 * count_by is_free ys
  paid [] [] bs cs ly lb lc same none taken = (let n = count_by-le-length f bs in omega arith)
  paid [] (y ∷ ys) bs cs ly lb lc same none taken = absurd (let bad : ⊥ = omega arith in bad)
  paid (x ∷ xs) [] bs cs ly lb lc same none taken = absurd (let bad : ⊥ = omega arith in bad)
  paid (x ∷ xs) (y ∷ ys) bs cs ly lb lc same none taken =
      let long : 16 ≤ length bs = omega arith in
      let long' : 16 ≤ length cs = omega arith in
      let rb = back_long bs long in
      let rc = back_long cs long' in
      let rest = paid xs ys (drop 16 bs) (drop 16 cs) (omega arith) (omega arith) (omega arith)
      (λ o s lt. ⊎_elim (λ (q : at (y ∷ ys) (suc o) ≡ None). inl q)
      (λ (q : f (get_or cs (16 * suc o + s) d) ≡ f (get_or bs (16 * suc o + s) d)). inr (ap f (back_at cs long' o s) ∙ (q ∙ sym (ap f (back_at bs long o s))))) (same (suc o) s lt))
      (λ o s lt e. ap f (back_at bs long o s) ∙ none (suc o) s lt e)
      (λ o e. taken (suc o) e) in
      let here = one_object x y bs cs long long' (λ s lt. subst (λ (i : ℕ). (y ≡ None) ⊎ (f (get_or cs i d) ≡ f (get_or bs i d))) (at_front s) (same 0 s lt)) (λ s lt e. subst (λ (i : ℕ). f (get_or bs i d) ≡ false) (at_front s) (none 0 s lt e)) (taken 0) in
      let sb = split_count bs long in
      let sc = split_count cs long' in
      let fx = count_by-cons is_free x xs in
      let fy = count_by-cons is_free y ys in
      omega arith

-- no fewer are free
pub free_grows : (xs ys : List (Option Object)) → length ys ≡ length xs → ((o : ℕ) → at xs o ≡ None → at ys o ≡ None) → free_in xs ≤ free_in ys
unfolding free_in
free_grows xs ys e taken = count_fewer is_free None ys xs (sym e) (λ k lt h. by_case k (at xs k) refl h)
  where
    by_case : (k : ℕ) (x : Option Object) → at xs k ≡ x → is_free (at xs k) ≡ true → is_free (at ys k) ≡ true
    by_case k None is h = ap is_free (taken k is)
    by_case k (Some x) is h = absurd (false≢true (sym (ap is_free is) ∙ h))
