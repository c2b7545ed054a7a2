-- Row by row: the prefix comes to the dependants of some, and goes from those of others.
use Rattle.std.proofs.Common.{arith, ◌≡◌, ◌≢◌, ℕ, zero, suc, ◌+◌, ◌-◌, true, List, [], ◌∷◌, ◌++◌, map, take, length, Some, None, inl, inr, refl, sym, ◌∙◌, ap, subst, slice_get}
use Rattle.std.specs.Prelude.{Contains, slice_set}
use Rattle.std.specs.List.{AllZip}
use Rattle.std.specs.Set.{is_member}
use Rattle.std.proofs.lemmas.Map.Views.{Contains-from_any}
use Rattle.fib_base_list.proofs.Lists.{Contains-nil}
use Rattle.fib_addr.specs.Prefixes.{Prefix, same_prefix}
use Rattle.fib_addr.proofs.PrefixLaws.{same_prefix-Decides}
use Rattle.fib_cover.specs.Covers.{IsAscending}
use Rattle.fib_resolve_changes.proofs.Edits.{in_cases, in_front, in_rest}
use Rattle.fib_base_interned.proofs.Finding.{some_is, none_some}
use Rattle.fib_entries_rows.specs.Known.{prefix_of, row_of}
use Rattle.fib_entries_rows.specs.Rows.{Row}
use Rattle.fib_entries_rows.specs.inner.Dependants.{IsWithout}
use Rattle.fib_entries_rows.specs.inner.Leaf.{IsButFor, AreDetached, with_dependants}
use Rattle.fib_entries_rows.proofs.Looking.{one_place}
use Rattle.fib_entries_rows.proofs.Standing.{find_missed}

pub but_self : (p : Prefix) (r : Row) → IsButFor p r r
but_self p r = record { prefix = refl; pairs = refl; looped = refl; met = refl; marked = refl; rank = refl; others = λ d off. (λ c. c, λ c. c); once = λ o. o }

module _ (P : Row → Row → Type 0) where
  zip_same : (rows : List Row) → ((r : Row) → Contains rows r → P r r) → AllZip P rows rows
  zip_same [] f = tt
  zip_same (r ∷ rs) f = (f r (in_front r r rs refl), zip_same rs (λ q c. f q (in_rest r q rs c)))

  -- one row is another
  zip_set : (rows : List Row) (k : ℕ) (r s : Row) → slice_get rows k ≡ Some r → P r s → ((j : ℕ) (q : Row) → slice_get rows j ≡ Some q → j ≢ k → P q q) → AllZip P rows (slice_set rows k s)
  zip_set [] k r s at own f = absurd (none_some r at)
  zip_set (q ∷ qs) zero r s at own f = (subst (λ z. P z s) (some_is r q (sym at)) own, zip_same qs (λ z c. at_later z c))
    where
      at_later : (z : Row) → Contains qs z → P z z
      at_later z c = let g = get_at qs z c in f (suc g.0) z g.1 (λ e. omega (arith, e))
        where
          get_at : (xs : List Row) (z : Row) → Contains xs z → (j : ℕ) × (slice_get xs j ≡ Some z)
          get_at [] z c = absurd (Contains-nil z c)
          get_at (x ∷ xs) z c = elim (in_cases x z xs c) [ inl is ↦ (0, ap Some is) | inr later ↦ (let r = get_at xs z later in (suc r.0, r.1)) ]
  zip_set (q ∷ qs) (suc k) r s at own f = (f 0 q refl (λ e. omega (arith, e)), zip_set qs k r s at own (λ j z there off. f (suc j) z there (λ e. off (omega (arith, e)))))

pub zip_then : (P Q R : Row → Row → Type 0) → ((r s t : Row) → P r s → Q s t → R r t) → (xs ys zs : List Row) → AllZip P xs ys → AllZip Q ys zs → AllZip R xs zs
zip_then P Q R f [] [] [] a b = tt
zip_then P Q R f [] [] (z ∷ zs) a b = b
zip_then P Q R f [] (y ∷ ys) zs a b = absurd a
zip_then P Q R f (x ∷ xs) [] zs a b = absurd a
zip_then P Q R f (x ∷ xs) (y ∷ ys) [] a b = absurd b
zip_then P Q R f (x ∷ xs) (y ∷ ys) (z ∷ zs) a b = (f x y z a.0 b.0, zip_then P Q R f xs ys zs a.1 b.1)

pub zip_from : (P : Row → Row → Type 0) (xs ys : List Row) → AllZip P xs ys → (y : Row) → Contains ys y → (x : Row) × Contains xs x × P x y
zip_from P [] [] a y c = absurd (Contains-nil y c)
zip_from P [] (z ∷ zs) a y c = absurd a
zip_from P (x ∷ xs) [] a y c = absurd a
zip_from P (x ∷ xs) (z ∷ zs) a y c = elim (in_cases z y zs c) [
  | inl is ↦ (x, in_front x x xs refl, subst (P x) is a.0)
  | inr later ↦ (let r = zip_from P xs zs a.1 y later in (r.0, in_rest x r.0 xs r.1, r.2))
]

other_row : (rows : List Row) → IsAscending (map prefix_of rows) → (k j : ℕ) (r q : Row) → slice_get rows k ≡ Some r → slice_get rows j ≡ Some q → j ≢ k → (q.prefix ≡ r.prefix → ⊥)
other_row rows asc k j r q at there off same = off (one_place prefix_of rows asc j k q r there at same)

pub member_in : (list : List Prefix) (p : Prefix) → is_member same_prefix list p ≡ true → Contains list p
member_in list p is = Contains-from_any (λ x y. (same_prefix-Decides x y).0) p list is

one_goal : (t e : Prefix) → Contains (t ∷ []) e → t ≡ e
one_goal t e c = elim (in_cases t e [] c) [ inl is ↦ is | inr none ↦ absurd (Contains-nil e none) ]

module _ (p : Prefix) where
  but_without : (r : Row) (list : List Prefix) → IsWithout p r.dependants list → IsButFor p r (with_dependants r list)
  but_without r list w = record { prefix = refl; pairs = refl; looped = refl; met = refl; marked = refl; rank = refl; others = w.others; once = λ o. w.once }

  pub detached_absent : (kept : List Prefix) (rows : List Row) (t : Prefix) → ((r : Row) → Contains rows r → t ≢ r.prefix) → AreDetached p (t ∷ []) kept rows rows
  detached_absent kept rows t off = zip_same _ rows (λ r c. (but_self p r, (λ d. (d, λ it. absurd (off r c (one_goal t r.prefix it))), λ d. d.0)))

  pub detached_one : (kept : List Prefix) (rows : List Row) → IsAscending (map prefix_of rows) → (k : ℕ) (r : Row) (list : List Prefix) → slice_get rows k ≡ Some r → IsWithout p r.dependants list → (Contains kept r.prefix → ⊥)
      → AreDetached p (r.prefix ∷ []) kept rows (slice_set rows k (with_dependants r list))
  detached_one kept rows asc k r list at w off_kept = zip_set _ rows k r (with_dependants r list) at
      (but_without r list w, (λ d. absurd (w.gone d), λ d. absurd (off_kept (d.1 (in_front r.prefix r.prefix [] refl)))))
      (λ j q there off. (but_self p q, (λ d. (d, λ it. absurd (other_row rows asc k j r q at there off (sym (one_goal r.prefix q.prefix it)))), λ d. d.0)))

pub pop_push : (xs : List Prefix) (p : Prefix) → take (length (xs ++ p ∷ []) - 1) (xs ++ p ∷ []) ≡ xs
pop_push xs p = ap (λ n. take n (xs ++ p ∷ [])) (less xs) ∙ front xs
  where
    len : (xs : List Prefix) → length (xs ++ p ∷ []) ≡ length xs + 1
    len [] = refl
    len (x ∷ xs) = let e = len xs in omega (arith, e)

    less : (xs : List Prefix) → length (xs ++ p ∷ []) - 1 ≡ length xs
    less xs = let e = len xs in omega (arith, e)

    front : (xs : List Prefix) → take (length xs) (xs ++ p ∷ []) ≡ xs
    front [] = refl
    front (x ∷ xs) = ap (λ l. x ∷ l) (front xs)

pub no_row_at : (rows : List Row) (t : Prefix) → None ≡ row_of rows t → (r : Row) → Contains rows r → t ≢ r.prefix
no_row_at rows t none r c is = find_missed (λ z. same_prefix t z.prefix) rows r c ((same_prefix-Decides t r.prefix).1 is) (sym none)
