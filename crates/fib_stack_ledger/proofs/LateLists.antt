-- The list of deferred buckets as one comes, or goes.
use Rattle.std.proofs.Common.{◌≡◌, ℕ, zero, suc, ◌<◌, ◌≤◌, inl, inr, Bool, true, false, true≢false, ◌&&◌, eqb-true, eq-eqb, List, [], ◌∷◌, ◌++◌, length, take, get_or, refl, sym, ap, ◌∙◌, subst, arith}
use Rattle.std.specs.Prelude.{Some, None, remove, ◌==◌, if◌then◌else◌}
use Rattle.std.specs.List.{AllByRecursion}
use Rattle.fib_base_list.proofs.Lists.{either}
use Rattle.fib_base_list.proofs.Booleans.{and_both}
use Rattle.fib_addr.specs.Prefixes.{Prefix, same_prefix}
use Rattle.fib_addr.proofs.PrefixLaws.{same_prefix-Decides}
use Rattle.fib_stack_ledger.specs.declared.late.Late.{Late}
use Rattle.fib_stack_ledger.specs.Deferred.{is_at, late_at, AreApart, AreSlots}

and_join : (a b : Bool) → a ≡ true → b ≡ true → a && b ≡ true
and_join true b e h = h
and_join false b e h = e

prefix_is : (d e : Prefix) → same_prefix d e ≡ true → d ≡ e
prefix_is d e h = (same_prefix-Decides d e).0 h

prefix_self : (d e : Prefix) → d ≡ e → same_prefix d e ≡ true
prefix_self d e h = (same_prefix-Decides d e).1 h

pub at_self : (x : Late) → is_at x x.entry x.slot ≡ true
at_self x = and_join (same_prefix x.entry x.entry) (x.slot == x.slot) (prefix_self x.entry x.entry refl) (eq-eqb x.slot x.slot refl)

-- which bucket it is
pub at_is : (x : Late) (e : Prefix) (k : ℕ) → is_at x e k ≡ true → (x.entry ≡ e) × (x.slot ≡ k)
at_is x e k h = let both = and_both (same_prefix x.entry e) (x.slot == k) h in (prefix_is x.entry e both.0, eqb-true x.slot k both.1)

pub at_when : (x : Late) (e : Prefix) (k : ℕ) → x.entry ≡ e → x.slot ≡ k → is_at x e k ≡ true
at_when x e k p q = and_join (same_prefix x.entry e) (x.slot == k) (prefix_self x.entry e p) (eq-eqb x.slot k q)

not_other : (x : Late) (e : Prefix) (k : ℕ) → (x.entry ≡ e → ⊥) → is_at x e k ≡ false
not_other x e k ne = elim (either (is_at x e k)) [ inl h ↦ absurd (ne (at_is x e k h).0) | inr h ↦ h ]

none_at : (xs : List Late) (e : Prefix) (k : ℕ) → AllByRecursion (λ y. is_at y e k ≡ false) xs → late_at xs e k ≡ None
none_at [] e k h = refl
none_at (x ∷ xs) e k h = ap (λ b. if b then Some x.word else late_at xs e k) h.0 ∙ none_at xs e k h.1

pub at_index : (P : Late → Type 0) (xs : List Late) (i : ℕ) (d : Late) → i < length xs → AllByRecursion P xs → P (get_or xs i d)
at_index P [] i d lt h = absurd (omega arith)
at_index P (x ∷ xs) zero d lt h = h.0
at_index P (x ∷ xs) (suc i) d lt h = let below : i < length xs = omega arith in at_index P xs i d below h.1

all_removed : (P : Late → Type 0) (xs : List Late) (i : ℕ) → AllByRecursion P xs → AllByRecursion P (remove xs i)
all_removed P [] zero h = tt
all_removed P [] (suc i) h = tt
all_removed P (x ∷ xs) zero h = h.1
all_removed P (x ∷ xs) (suc i) h = (h.0, all_removed P xs i h.1)

pub of_removed : (xs : List Late) (i : ℕ) → AreSlots xs → AreSlots (remove xs i)
of_removed xs i h = all_removed _ xs i h

pub apart_removed : (xs : List Late) (i : ℕ) → AreApart xs → AreApart (remove xs i)
apart_removed [] zero h = tt
apart_removed [] (suc i) h = tt
apart_removed (x ∷ xs) zero h = h.1
apart_removed (x ∷ xs) (suc i) h = (all_removed _ xs i h.0, apart_removed xs i h.1)

flip : (a b : Late) → is_at b a.entry a.slot ≡ false → is_at a b.entry b.slot ≡ false
flip a b isn = elim (either (is_at a b.entry b.slot)) [
  | inl is ↦ absurd (let both = at_is a b.entry b.slot is in true≢false (sym (at_when b a.entry a.slot (sym both.0) (sym both.1)) ∙ isn))
  | inr isnt ↦ isnt
]

-- the word of the one at i is found
pub late_there : (xs : List Late) (i : ℕ) (d : Late) → i < length xs → AreApart xs → late_at xs (get_or xs i d).entry (get_or xs i d).slot ≡ Some (get_or xs i d).word
late_there [] i d lt h = absurd (omega arith)
late_there (x ∷ xs) zero d lt h = ap (λ b. if b then Some x.word else late_at xs x.entry x.slot) (at_self x)
late_there (x ∷ xs) (suc i) d lt h =
    let below : i < length xs = omega arith in
    let y = get_or xs i d in
    ap (λ b. if b then Some x.word else late_at xs y.entry y.slot) (flip x y (at_index (λ z. is_at z x.entry x.slot ≡ false) xs i d below h.0)) ∙ late_there xs i d below h.1

gone_at : (x : Late) (xs : List Late) (e : Prefix) (k : ℕ) → AllByRecursion (λ y. is_at y x.entry x.slot ≡ false) xs → is_at x e k ≡ true → late_at xs e k ≡ None
gone_at x xs e k h is =
    let both = at_is x e k is in
    subst (λ i. late_at xs i k ≡ None) both.0 (subst (λ j. late_at xs x.entry j ≡ None) both.1 (none_at xs x.entry x.slot h))

-- after it is taken out, its bucket has none, and the others have what they had
pub late_removed_here : (xs : List Late) (i : ℕ) (d : Late) → i < length xs → AreApart xs → late_at (remove xs i) (get_or xs i d).entry (get_or xs i d).slot ≡ None
late_removed_here [] i d lt h = absurd (omega arith)
late_removed_here (x ∷ xs) zero d lt h = none_at xs x.entry x.slot h.0
late_removed_here (x ∷ xs) (suc i) d lt h =
    let below : i < length xs = omega arith in
    let y = get_or xs i d in
    elim (either (is_at x y.entry y.slot)) [
      | inl is ↦ absurd (let some = late_there xs i d below h.1 in let none : late_at xs y.entry y.slot ≡ None = gone_at x xs y.entry y.slot h.0 is in let both : Some y.word ≡ None = sym some ∙ none in cc)
      | inr isnt ↦ ap (λ b. if b then Some x.word else late_at (remove xs i) y.entry y.slot) isnt ∙ late_removed_here xs i d below h.1
    ]

pub late_removed_there : (xs : List Late) (i : ℕ) (d : Late) (e : Prefix) (k : ℕ) → i < length xs → is_at (get_or xs i d) e k ≡ false → late_at (remove xs i) e k ≡ late_at xs e k
late_removed_there [] i d e k lt isn = absurd (omega arith)
late_removed_there (x ∷ xs) zero d e k lt isn = sym (ap (λ b. if b then Some x.word else late_at xs e k) isn)
late_removed_there (x ∷ xs) (suc i) d e k lt isn =
    let below : i < length xs = omega arith in
    ap (λ l. if is_at x e k then Some x.word else l) (late_removed_there xs i d e k below isn)

-- one comes at the end
all_pushed : (P : Late → Type 0) (xs : List Late) (y : Late) → AllByRecursion P xs → P y → AllByRecursion P (xs ++ y ∷ [])
all_pushed P [] y h p = (p, tt)
all_pushed P (x ∷ xs) y h p = (h.0, all_pushed P xs y h.1 p)

pub of_pushed : (xs : List Late) (y : Late) → y.slot < 16 → AreSlots xs → AreSlots (xs ++ y ∷ [])
of_pushed xs y lt h = all_pushed (λ x. x.slot < 16) xs y h lt

absent_apart : (x : Late) (xs : List Late) (y : Late) → late_at (x ∷ xs) y.entry y.slot ≡ None → (is_at x y.entry y.slot ≡ false) × (late_at xs y.entry y.slot ≡ None)
absent_apart x xs y h = by (is_at x y.entry y.slot) refl
  where
    by : (b : Bool) → is_at x y.entry y.slot ≡ b → (is_at x y.entry y.slot ≡ false) × (late_at xs y.entry y.slot ≡ None)
    by true e = absurd (let bad : Some x.word ≡ None = sym (ap (λ c. if c then Some x.word else late_at xs y.entry y.slot) e) ∙ h in cc)
    by false e = (e, sym (ap (λ c. if c then Some x.word else late_at xs y.entry y.slot) e) ∙ h)

pub apart_pushed : (xs : List Late) (y : Late) → late_at xs y.entry y.slot ≡ None → AreApart xs → AreApart (xs ++ y ∷ [])
apart_pushed [] y none h = (tt, tt)
apart_pushed (x ∷ xs) y none h =
    let both = absent_apart x xs y none in
    (all_pushed (λ z. is_at z x.entry x.slot ≡ false) xs y h.0 (flip y x both.0), apart_pushed xs y both.1 h.1)

pub late_pushed : (xs : List Late) (y : Late) (e : Prefix) (k : ℕ) → late_at xs y.entry y.slot ≡ None → late_at (xs ++ y ∷ []) e k ≡ (if is_at y e k then Some y.word else late_at xs e k)
late_pushed [] y e k none = refl
late_pushed (x ∷ xs) y e k none =
    let both = absent_apart x xs y none in
    ap (λ l. if is_at x e k then Some x.word else l) (late_pushed xs y e k both.1) ∙ swap (is_at x e k) (is_at y e k) apart_both
  where
    apart_both : is_at x e k ≡ true → is_at y e k ≡ true → ⊥
    apart_both p q =
        let a = at_is x e k p in
        let b = at_is y e k q in
        true≢false (sym (at_when x y.entry y.slot (a.0 ∙ sym b.0) (a.1 ∙ sym b.1)) ∙ (absent_apart x xs y none).0)

    swap : (p q : Bool) → (p ≡ true → q ≡ true → ⊥) → (if p then Some x.word else (if q then Some y.word else late_at xs e k)) ≡ (if q then Some y.word else (if p then Some x.word else late_at xs e k))
    swap true true ne = absurd (ne refl refl)
    swap true false ne = refl
    swap false true ne = refl
    swap false false ne = refl

-- clearing: those before the place are others'
abbrev pub AreOthers : Prefix → List Late → Type 0
AreOthers e xs = AllByRecursion (λ x. same_prefix x.entry e ≡ false) xs

pub others_none : (xs : List Late) (e : Prefix) (k : ℕ) → AreOthers e xs → late_at xs e k ≡ None
others_none xs e k h = none_at xs e k (each xs h)
  where
    each : (ys : List Late) → AreOthers e ys → AllByRecursion (λ y. is_at y e k ≡ false) ys
    each [] g = tt
    each (y ∷ ys) g = (not_other y e k (λ is. true≢false (sym (prefix_self y.entry e is) ∙ g.0)), each ys g.1)

pub others_next : (xs : List Late) (i : ℕ) (d : Late) (e : Prefix) → i < length xs → AreOthers e (take i xs) → same_prefix (get_or xs i d).entry e ≡ false → AreOthers e (take (suc i) xs)
others_next [] i d e lt h n = absurd (omega arith)
others_next (x ∷ xs) zero d e lt h n = (n, tt)
others_next (x ∷ xs) (suc i) d e lt h n = let below : i < length xs = omega arith in (h.0, others_next xs i d e below h.1 n)

pub others_removed : (xs : List Late) (i : ℕ) (e : Prefix) → AreOthers e (take i xs) → AreOthers e (take i (remove xs i))
others_removed [] zero e h = tt
others_removed [] (suc i) e h = tt
others_removed (x ∷ xs) zero e h = empty xs
  where
    empty : (ys : List Late) → AreOthers e (take 0 ys)
    empty [] = tt
    empty (y ∷ ys) = tt
others_removed (x ∷ xs) (suc i) e h = (h.0, others_removed xs i e h.1)

pub others_begun : (xs : List Late) (e : Prefix) → AreOthers e (take 0 xs)
others_begun [] e = tt
others_begun (x ∷ xs) e = tt

pub others_all : (xs : List Late) (i : ℕ) (e : Prefix) → length xs ≤ i → AreOthers e (take i xs) → AreOthers e xs
others_all [] i e le h = tt
others_all (x ∷ xs) zero e le h = absurd (omega arith)
others_all (x ∷ xs) (suc i) e le h = let le' : length xs ≤ i = omega arith in (h.0, others_all xs i e le' h.1)

-- one of the prefix is taken out: the others' stay
pub cleared_one : (xs : List Late) (i : ℕ) (d : Late) (e c : Prefix) (k : ℕ) → i < length xs → (get_or xs i d).entry ≡ e → (c ≡ e → ⊥) → late_at (remove xs i) c k ≡ late_at xs c k
cleared_one xs i d e c k lt is ne = late_removed_there xs i d c k lt (not_other (get_or xs i d) c k (λ h. ne (sym h ∙ is)))
