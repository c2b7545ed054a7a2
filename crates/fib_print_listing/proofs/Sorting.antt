-- Elements put in one by one, each in front of the first that it stands before, are in order.
use Rattle.std.proofs.Common.{arith, ◌≡◌, ℕ, ◌+◌, zero, suc, Bool, true, false, not, cond, List, [], ◌∷◌, ◌++◌, length, take, drop, ◌⊎◌, inl, inr, refl, sym, ◌∙◌, ap, subst, ◌↔◌}
use Rattle.std.specs.Prelude.{Contains, fold, position, unwrap_or}
use Rattle.std.specs.List.{AllByRecursion, IsDistinct, position_or_len, prefix_len}
use Rattle.std.proofs.lemmas.Bool.{false≢true}
use Rattle.std.proofs.lemmas.Bool.{lt-ltb, le-ltb, cases_lt}
use Rattle.std.proofs.lemmas.List.Sums.{prefix_len-le-length}
use Rattle.fib_base_list.proofs.Lists.{either, Contains-nil, each-weaker}
use Rattle.fib_print_listing.specs.Order.{put_in, in_order, IsOrderedBy, IsListed}

-- the place of the first that passes, and the end where none does
at_place : {X : Type 0} (p : X → Bool) (xs : List X) → unwrap_or (position p xs) (length xs) ≡ position_or_len p xs
at_place p xs =
    let le = prefix_len-le-length (λ x. not (p x)) xs in
    elim (cases_lt (position_or_len p xs) (length xs)) [
      | inl lt ↦ rw (lt-ltb (position_or_len p xs) (length xs) lt) refl
      | inr ge ↦ rw (le-ltb (position_or_len p xs) (length xs) ge) (omega (arith, ge, le))
    ]

-- the first, or one behind it
pub cases : {X : Type 0} (x z : X) (xs : List X) → Contains (x ∷ xs) z → (x ≡ z) ⊎ Contains xs z
cases x z xs (zero, lt, is) = inl is
cases x z xs (suc k, lt, is) = inr (k, omega (arith, lt), is)

pub behind : {X : Type 0} (x z : X) (xs : List X) → Contains xs z → Contains (x ∷ xs) z
behind x z xs c = (suc c.0, omega (arith, c.1), c.2)

module _ {X : Type 0} (before : X → X → Bool) where
  -- the same from the front on
  abbrev pub put : List X → X → List X
  put [] x = x ∷ []
  put (y ∷ ys) x = cond (before x y) (x ∷ y ∷ ys) (y ∷ put ys x)

  split : (xs : List X) (x : X) → take (prefix_len (λ y. not (before x y)) xs) xs ++ x ∷ drop (prefix_len (λ y. not (before x y)) xs) xs ≡ put xs x
  split [] x = refl
  split (y ∷ ys) x =
      elim (either (before x y)) [
        | inl is ↦ rw is refl
        | inr isnt ↦
            let n = prefix_len (λ z. not (before x z)) ys in
            let one : 1 + n ≡ suc n = omega arith in
            rw isnt (ap (λ (m : ℕ). take m (y ∷ ys) ++ x ∷ drop m (y ∷ ys)) one ∙ ap (λ (zs : List X). y ∷ zs) (split ys x))
      ]

  puts : (xs : List X) (x : X) → put_in before xs x ≡ put xs x
  puts xs x = ap (λ (k : ℕ). take k xs ++ x ∷ drop k xs) (at_place (before x) xs) ∙ split xs x

  each-put : (P : X → Type 0) (xs : List X) (x : X) → P x → AllByRecursion P xs → AllByRecursion P (put xs x)
  each-put P [] x p h = (p, tt)
  each-put P (y ∷ ys) x p h = elim (either (before x y)) [
    | inl is ↦ rw is (p, h)
    | inr isnt ↦ rw isnt (h.0, each-put P ys x p h.1)
  ]

  member-put : (xs : List X) (x z : X) → Contains (put xs x) z ↔ (Contains xs z ⊎ (x ≡ z))
  member-put [] x z = (λ c. elim (cases x z [] c) [ inl e ↦ inr e | inr c ↦ inl c ], λ h. elim h [ inl c ↦ absurd (Contains-nil z c) | inr e ↦ (0, omega arith, e) ])
  member-put (y ∷ ys) x z = elim (either (before x y)) [
    | inl is ↦ rw is (λ c. elim (cases x z (y ∷ ys) c) [ inl e ↦ inr e | inr c ↦ inl c ], λ h. elim h [ inl c ↦ behind x z (y ∷ ys) c | inr e ↦ (0, omega arith, e) ])
    | inr isnt ↦ rw isnt (
      λ c. elim (cases y z (put ys x) c) [
        | inl e ↦ inl (0, omega arith, e)
        | inr c ↦ elim ((member-put ys x z).0 c) [ inl d ↦ inl (behind y z ys d) | inr e ↦ inr e ]
      ],
      λ h. elim h [
        | inl c ↦ elim (cases y z ys c) [ inl e ↦ (0, omega arith, e) | inr d ↦ behind y z (put ys x) ((member-put ys x z).1 (inl d)) ]
        | inr e ↦ behind y z (put ys x) ((member-put ys x z).1 (inr e))
      ],
    )
  ]

  module _ (same : X → X → Bool) (trans : (x y z : X) → before x y ≡ true → before y z ≡ true → before x z ≡ true) (apart : (x y : X) → same y x ≡ false → before x y ≡ false → before y x ≡ true) where
    ordered-put : (xs : List X) (x : X) → AllByRecursion (λ y. same y x ≡ false) xs → IsOrderedBy before xs → IsOrderedBy before (put xs x)
    ordered-put [] x off h = (tt, tt)
    ordered-put (y ∷ ys) x off h = elim (either (before x y)) [
      | inl is ↦ rw is ((is, each-weaker (λ z. before y z ≡ true) (λ z. before x z ≡ true) (λ z b. trans x y z is b) ys h.0), h)
      | inr isnt ↦ rw isnt (each-put (λ z. before y z ≡ true) ys x (apart x y off.0 isnt) h.0, ordered-put ys x off.1 h.1)
    ]

    -- those that are in order, and those still to come
    ordered-fold : (xs acc : List X) → IsDistinct same xs → AllByRecursion (λ x. AllByRecursion (λ y. same y x ≡ false) acc) xs → IsOrderedBy before acc → IsOrderedBy before (fold (put_in before) acc xs)
    unfolding IsDistinct
    ordered-fold [] acc d off h = h
    ordered-fold (x ∷ xs) acc d off h =
        subst (λ (l : List X). IsOrderedBy before (fold (put_in before) l xs)) (sym (puts acc x))
        (ordered-fold xs (put acc x) d.1 (still xs d.0 off.1) (ordered-put acc x off.0 h))
      where
        still : (zs : List X) → AllByRecursion (λ z. same x z ≡ false) zs → AllByRecursion (λ z. AllByRecursion (λ y. same y z ≡ false) acc) zs → AllByRecursion (λ z. AllByRecursion (λ y. same y z ≡ false) (put acc x)) zs
        still [] a b = tt
        still (z ∷ zs) a b = (each-put (λ y. same y z ≡ false) acc x a.0 b.0, still zs a.1 b.1)

    member-fold : (xs acc : List X) (z : X) → Contains (fold (put_in before) acc xs) z ↔ (Contains acc z ⊎ Contains xs z)
    member-fold [] acc z = (λ c. inl c, λ h. elim h [ inl c ↦ c | inr c ↦ absurd (Contains-nil z c) ])
    member-fold (x ∷ xs) acc z =
        let step = subst (λ (l : List X). Contains (fold (put_in before) l xs) z ↔ (Contains (put acc x) z ⊎ Contains xs z)) (sym (puts acc x)) (member-fold xs (put acc x) z) in (
          λ c. elim (step.0 c) [
            | inl d ↦ elim ((member-put acc x z).0 d) [ inl e ↦ inl e | inr e ↦ inr (0, omega arith, e) ]
            | inr d ↦ inr (behind x z xs d)
          ],
          λ h. elim h [
            | inl d ↦ step.1 (inl ((member-put acc x z).1 (inl d)))
            | inr d ↦ elim (cases x z xs d) [ inl e ↦ step.1 (inl ((member-put acc x z).1 (inr e))) | inr e ↦ step.1 (inr e) ]
          ],
        )

    pub listed : (xs : List X) → IsDistinct same xs → IsListed before xs (in_order before xs)
    listed xs d = record {
      ordered = ordered-fold xs [] d (none xs) tt;
      members = λ z. (
        λ c. elim ((member-fold xs [] z).0 c) [ inl e ↦ absurd (Contains-nil z e) | inr e ↦ e ],
        λ c. (member-fold xs [] z).1 (inr c),
      );
    }
      where
        none : (zs : List X) → AllByRecursion (λ z. AllByRecursion (λ y. same y z ≡ false) []) zs
        none [] = tt
        none (z ∷ zs) = (tt, none zs)

-- a list that is in order is told by its members
module _ {X : Type 0} (before : X → X → Bool) (off : (x : X) → before x x ≡ false) (trans : (x y z : X) → before x y ≡ true → before y z ≡ true → before x z ≡ true) where
  pub stands : (x z : X) (xs : List X) → AllByRecursion (λ y. before x y ≡ true) xs → Contains xs z → before x z ≡ true
  stands x z [] h c = absurd (Contains-nil z c)
  stands x z (y ∷ ys) h c = elim (cases y z ys c) [ inl e ↦ subst (λ w. before x w ≡ true) e h.0 | inr d ↦ stands x z ys h.1 d ]

  never : {A : Type 0} (x y : X) → x ≡ y → before x y ≡ true → A
  never x y e h = absurd (false≢true (sym (off y) ∙ subst (λ w. before w y ≡ true) e h))

  pub only : (xs ys : List X) → IsOrderedBy before xs → IsOrderedBy before ys → ((z : X) → Contains xs z ↔ Contains ys z) → xs ≡ ys
  only [] [] o p m = refl
  only [] (y ∷ ys) o p m = absurd (Contains-nil y ((m y).1 (0, omega arith, refl)))
  only (x ∷ xs) [] o p m = absurd (Contains-nil x ((m x).0 (0, omega arith, refl)))
  only (x ∷ xs) (y ∷ ys) o p m = ap (λ w. w ∷ xs) heads ∙ ap (λ (ws : List X). y ∷ ws) (only xs ys o.1 p.1 (λ z. (there z, back z)))
    where
      heads : x ≡ y
      heads =
          elim (cases y x ys ((m x).0 (0, omega arith, refl))) [
            | inl e ↦ sym e
            | inr c ↦ elim (cases x y xs ((m y).1 (0, omega arith, refl))) [
              | inl e ↦ e
              | inr d ↦ never x x refl (trans x y x (stands x y xs o.0 d) (stands y x ys p.0 c))
            ]
          ]

      there : (z : X) → Contains xs z → Contains ys z
      there z c = elim (cases y z ys ((m z).0 (behind x z xs c))) [ inl e ↦ never x z (heads ∙ e) (stands x z xs o.0 c) | inr d ↦ d ]

      back : (z : X) → Contains ys z → Contains xs z
      back z c = elim (cases x z xs ((m z).1 (behind y z ys c))) [ inl e ↦ never y z (sym heads ∙ e) (stands y z ys p.0 c) | inr d ↦ d ]

  pub only_listed : (all xs ys : List X) → IsListed before all xs → IsListed before all ys → xs ≡ ys
  only_listed all xs ys h l = only xs ys h.ordered l.ordered (λ z. (λ c. (l.members z).1 ((h.members z).0 c), λ c. (h.members z).1 ((l.members z).0 c)))
