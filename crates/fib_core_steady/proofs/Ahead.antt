-- Retirements leave oldest first.
use Rattle.std.proofs.Common.{◌&&◌, ◌≡◌, Bool, true, false, true≢false, cond, eqb, eqb-true, ℕ, zero, suc, List, [], ◌∷◌, length, refl, sym, ap, ◌∙◌, subst, arith}
use Rattle.std.specs.Prelude.{replicate}
use Rattle.std.specs.List.{AllByRecursion}
use Rattle.fib_union.specs.Marks.{is_even, Mark, unseen, first, passed, next_mark, looked, is_passed, all_passed}
use Rattle.fib_core.specs.Union.{Retired, Union, drop_if, remark, scan_retired, scanned}
use Rattle.fib_core_steady.specs.Names.{LeadsNow}
use Rattle.fib_core_steady.specs.inner.Backed.{IsBacked, AreNewest, IsAhead, IsFit, AreAhead, AreOrdered}
use Rattle.fib_core_steady.proofs.Backed.{backed_newest}

-- one mark

both_unseen : (w : ℕ) (b : Bool) → IsAhead (cond b passed (first w)) (cond b passed (first w))
both_unseen w true = tt
both_unseen w false = refl

first_unseen : (w v : ℕ) (b c : Bool) → eqb v w ≡ b → is_even w ≡ c → is_even v ≡ false → IsAhead (cond b (first v) passed) (cond c passed (first w))
first_unseen w v true true e f odd = absurd (true≢false (sym f ∙ ap is_even (sym (eqb-true v w e)) ∙ odd))
first_unseen w v true false e f odd = eqb-true v w e
first_unseen w v false c e f odd = tt

both_first : (v : ℕ) (b : Bool) → IsAhead (cond b (first v) passed) (cond b (first v) passed)
both_first v true = refl
both_first v false = tt

ahead_next : (w : ℕ) (m k : Mark) → IsFit m → IsAhead m k → IsAhead (next_mark w m) (next_mark w k)
ahead_next w passed k fit h = tt
ahead_next w unseen unseen fit h = both_unseen w (is_even w)
ahead_next w (first v) unseen fit h = first_unseen w v (eqb v w) (is_even w) refl refl fit
ahead_next w (first v) (first x) fit h = subst (λ (i : ℕ). IsAhead (cond (eqb v w) (first v) passed) (cond (eqb i w) (first i) passed)) h (both_first v (eqb v w))
ahead_next w unseen (first x) fit h = absurd h
ahead_next w unseen passed fit h = absurd h
ahead_next w (first v) passed fit h = absurd h

fit_unseen : (w : ℕ) (b : Bool) → is_even w ≡ b → IsFit (cond b passed (first w))
fit_unseen w true e = tt
fit_unseen w false e = e

fit_first : (v : ℕ) (b : Bool) → is_even v ≡ false → IsFit (cond b (first v) passed)
fit_first v true odd = odd
fit_first v false odd = tt

fit_next : (w : ℕ) (m : Mark) → IsFit m → IsFit (next_mark w m)
fit_next w passed fit = tt
fit_next w unseen fit = fit_unseen w (is_even w) refl
fit_next w (first v) fit = fit_first v (eqb v w) fit

passed_ahead : (m k : Mark) → IsAhead m k → is_passed k ≡ true → is_passed m ≡ true
passed_ahead passed k h e = refl
passed_ahead unseen unseen h e = e
passed_ahead (first v) unseen h e = absurd (true≢false (sym e))
passed_ahead (first v) (first x) h e = e
passed_ahead unseen (first x) h e = absurd h
passed_ahead unseen passed h e = absurd h
passed_ahead (first v) passed h e = absurd h

-- all marks of a retirement

and_split : (a b : Bool) → a && b ≡ true → (a ≡ true) × (b ≡ true)
and_split true b e = (refl, e)
and_split false b e = absurd (true≢false (sym e))

and_join : (a b : Bool) → a ≡ true → b ≡ true → a && b ≡ true
and_join true b e h = h
and_join false b e h = absurd (true≢false (sym e))

all_ahead : (ms ks : List Mark) → AreAhead ms ks → all_passed ks ≡ true → all_passed ms ≡ true
all_ahead [] [] h e = refl
all_ahead [] (k ∷ ks) h e = absurd h
all_ahead (m ∷ ms) [] h e = absurd h
all_ahead (m ∷ ms) (k ∷ ks) h e = let both = and_split (is_passed k) (all_passed ks) e in and_join (is_passed m) (all_passed ms) (passed_ahead m k h.0 both.0) (all_ahead ms ks h.1 both.1)

marked_ahead : (n w : ℕ) (ms ks : List Mark) → AllByRecursion IsFit ms → AreAhead ms ks → AreAhead (looked n w ms) (looked n w ks)
marked_ahead n w [] [] fit h = tt
marked_ahead n w [] (k ∷ ks) fit h = absurd h
marked_ahead n w (m ∷ ms) [] fit h = absurd h
marked_ahead zero w (m ∷ ms) (k ∷ ks) fit h = (ahead_next w m k fit.0 h.0, h.1)
marked_ahead (suc n) w (m ∷ ms) (k ∷ ks) fit h = (h.0, marked_ahead n w ms ks fit.1 h.1)

marked_fit : (n w : ℕ) (ms : List Mark) → AllByRecursion IsFit ms → AllByRecursion IsFit (looked n w ms)
marked_fit n w [] fit = tt
marked_fit zero w (m ∷ ms) fit = (fit_next w m fit.0, fit.1)
marked_fit (suc n) w (m ∷ ms) fit = (fit.0, marked_fit n w ms fit.1)

fit_of : (r : Retired) (rs : List Retired) → AreOrdered (r ∷ rs) → AllByRecursion IsFit r.marks
fit_of r [] h = h
fit_of r (q ∷ rs) h = h.0

tail_of : (r : Retired) (rs : List Retired) → AreOrdered (r ∷ rs) → AreOrdered rs
tail_of r [] h = tt
tail_of r (q ∷ rs) h = h.2

-- where one is dropped, all older ones are
dropped_all : (n w : ℕ) (r : Retired) (rs : List Retired) → AreOrdered (r ∷ rs) → all_passed (looked n w r.marks) ≡ true → scan_retired n w rs ≡ []
dropped_all n w r [] h e = refl
dropped_all n w r (q ∷ rs) h e =
    let also : all_passed (looked n w q.marks) ≡ true = all_ahead (looked n w q.marks) (looked n w r.marks) (marked_ahead n w q.marks r.marks (fit_of q rs h.2) h.1) e in
    ap (λ b. drop_if b (remark n w q) (scan_retired n w rs)) also ∙ dropped_all n w q rs h.2 also

drops : (n w : ℕ) (r : Retired) (rs : List Retired) (b : Bool) → all_passed (looked n w r.marks) ≡ b → AreOrdered (r ∷ rs) → AreNewest (scan_retired n w rs) rs → AreNewest (drop_if b (remark n w r) (scan_retired n w rs)) (r ∷ rs)
drops n w r rs true e h later = subst (λ (qs : List Retired). AreNewest qs (r ∷ rs)) (sym (dropped_all n w r rs h e)) tt
drops n w r rs false e h later = (refl, refl, later)

-- what a scan leaves are the newest
pub scan_newest : (n w : ℕ) (rs : List Retired) → AreOrdered rs → AreNewest (scan_retired n w rs) rs
scan_newest n w [] h = tt
scan_newest n w (r ∷ rs) h = drops n w r rs (all_passed (looked n w r.marks)) refl h (scan_newest n w rs (tail_of r rs h))

-- and they stay in order

ordered_cons : (n w : ℕ) (r : Retired) (rs qs : List Retired) → AreOrdered (r ∷ rs) → ((q : Retired) (more : List Retired) → qs ≡ q ∷ more → AreAhead q.marks (looked n w r.marks)) → AreOrdered qs → AreOrdered (remark n w r ∷ qs)
ordered_cons n w r rs [] h next ok = marked_fit n w r.marks (fit_of r rs h)
ordered_cons n w r rs (q ∷ qs) h next ok = (marked_fit n w r.marks (fit_of r rs h), next q qs refl, ok)

head_next : (n w : ℕ) (r : Retired) (rs : List Retired) → AreOrdered (r ∷ rs) → (q : Retired) (more : List Retired) → scan_retired n w rs ≡ q ∷ more → AreAhead q.marks (looked n w r.marks)
head_next n w r [] h q more is = absurd (cc)
head_next n w r (p ∷ rs) h q more is = by_drop (all_passed (looked n w p.marks)) refl is
  where
    by_drop : (b : Bool) → all_passed (looked n w p.marks) ≡ b → drop_if b (remark n w p) (scan_retired n w rs) ≡ q ∷ more → AreAhead q.marks (looked n w r.marks)
    by_drop true e is' = absurd (none (sym (dropped_all n w p rs h.2 e) ∙ is'))
      where
        none : [] ≡ q ∷ more → ⊥
        none e' = cc
    by_drop false e is' = subst (λ (x : Retired). AreAhead x.marks (looked n w r.marks)) (first_same is') (marked_ahead n w p.marks r.marks (fit_of p rs h.2) h.1)
      where
        first_same : remark n w p ∷ scan_retired n w rs ≡ q ∷ more → remark n w p ≡ q
        first_same e' = cc

ordered_drop : (n w : ℕ) (r : Retired) (rs : List Retired) → AreOrdered (r ∷ rs) → AreOrdered (scan_retired n w rs) → (b : Bool) → all_passed (looked n w r.marks) ≡ b → AreOrdered (drop_if b (remark n w r) (scan_retired n w rs))
ordered_drop n w r rs h later true e = later
ordered_drop n w r rs h later false e = ordered_cons n w r rs (scan_retired n w rs) h (head_next n w r rs h) later

pub scan_ordered : (n w : ℕ) (rs : List Retired) → AreOrdered rs → AreOrdered (scan_retired n w rs)
scan_ordered n w [] h = tt
scan_ordered n w (r ∷ rs) h = ordered_drop n w r rs h (scan_ordered n w rs (tail_of r rs h)) (all_passed (looked n w r.marks)) refl

-- so a scan keeps retired edges to plies backed
pub backed_scanned : (u : Union) (n w : ℕ) → AreOrdered u.retired → IsBacked u → IsBacked (scanned u n w)
backed_scanned u n w ordered ok = backed_newest (LeadsNow u.cells) (scan_retired n w u.retired) u.retired (scan_newest n w u.retired ordered) ok

-- a store's retirement is behind all older ones

pub fresh_ahead : (ms : List Mark) (k : ℕ) → length ms ≡ k → AreAhead ms (replicate k unseen)
fresh_ahead [] zero e = tt
fresh_ahead [] (suc k) e = absurd (omega arith)
fresh_ahead (m ∷ ms) zero e = absurd (omega arith)
fresh_ahead (passed ∷ ms) (suc k) e = (tt, fresh_ahead ms k (omega arith))
fresh_ahead (unseen ∷ ms) (suc k) e = (tt, fresh_ahead ms k (omega arith))
fresh_ahead (first v ∷ ms) (suc k) e = (tt, fresh_ahead ms k (omega arith))

fresh_fit : (k : ℕ) → AllByRecursion IsFit (replicate k unseen)
fresh_fit zero = tt
fresh_fit (suc k) = (tt, fresh_fit k)

pub ordered_stored : (cell word k : ℕ) (rs : List Retired) → AllByRecursion (λ r. length r.marks ≡ k) rs → AreOrdered rs → AreOrdered (record { cell = cell; word = word; marks = replicate k unseen } ∷ rs)
ordered_stored cell word k [] all ok = fresh_fit k
ordered_stored cell word k (q ∷ rs) all ok = (fresh_fit k, fresh_ahead q.marks k all.0, ok)
