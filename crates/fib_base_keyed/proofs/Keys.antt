-- Keys that come and go, and where they stand.
use Rattle.std.proofs.Common.{arith, ◌≡◌, ℕ, zero, suc, ◌<◌, ◌≤◌, Bool, true, false, List, [], ◌∷◌, ◌++◌, length, map, Option, Some, None, cond, inl, inr, refl, sym, ◌∙◌, ap, subst}
use Rattle.std.specs.Prelude.{slice_index_or}
use Rattle.std.specs.Cmp.{IsEquivalence}
use Rattle.std.specs.List.{AllByRecursion, insert, remove, position_or_len}
use Rattle.std.specs.HashMap.{HashMap, get}
use Rattle.std.specs.Map.{lookup}
use Rattle.fib_base_list.proofs.Lists.{either}
use Rattle.fib_base_keyed.specs.inner.Rows.{AreApart, AreKnown, Notes, key_of}
use Rattle.fib_base_keyed.specs.declared.rows.Row.{Row}

module _ {X Y : Type 0} (f : X → Y) where
  pub map_put : (xs : List X) (i : ℕ) (x : X) → map f (insert xs i x) ≡ insert (map f xs) i (f x)
  map_put [] zero x = refl
  map_put [] (suc i) x = refl
  map_put (y ∷ xs) zero x = refl
  map_put (y ∷ xs) (suc i) x = ap (λ (ys : List Y). f y ∷ ys) (map_put xs i x)

  pub map_out : (xs : List X) (i : ℕ) → map f (remove xs i) ≡ remove (map f xs) i
  map_out [] zero = refl
  map_out [] (suc i) = refl
  map_out (y ∷ xs) zero = refl
  map_out (y ∷ xs) (suc i) = ap (λ (ys : List Y). f y ∷ ys) (map_out xs i)

pub long : {K : Type 0} (rows : List (Row K)) → length (map key_of rows) ≡ length rows
long [] = refl
long (x ∷ xs) = ap suc (long xs)

module _ {K : Type 0} (eq : K → K → Bool) (laws : IsEquivalence eq) where
  same_lookup : {X : Type 0} (es : List (K × X)) (q k : K) → eq q k ≡ true → lookup (eq q) es ≡ lookup (eq k) es
  same_lookup [] q k same = refl
  same_lookup (e ∷ es) q k same = rw (laws.congr q k e.0 same, same_lookup es q k same) refl

  module _ {S : Type 0} (m : HashMap K ℕ S) where
    -- a key without a number is none of the rows'
    pub none_equal : (rows : List (Row K)) (key : K) → get eq m key ≡ None → AllByRecursion (λ r. get eq m r.key ≡ None → ⊥) rows → AllByRecursion (λ r. eq key r.key ≡ false) rows
    none_equal [] key none known = tt
    none_equal (r ∷ rs) key none known = (
      elim (either (eq key r.key)) [
        | inl same ↦ absurd (known.0 (sym (same_lookup m.entries key r.key same) ∙ none))
        | inr other ↦ other
      ],
      none_equal rs key none known.1,
    )

  pub beyond : (rows : List (Row K)) (key : K) → AllByRecursion (λ r. eq key r.key ≡ false) rows → position_or_len (eq key) (map key_of rows) ≡ length rows
  beyond [] key none = refl
  beyond (r ∷ rs) key none = rw none.0 (let e = beyond rs key none.1 in omega (arith, e))

  -- the place of a key is where it stands
  pub place_is : (rows : List (Row K)) (key : K) (i : ℕ) (r : Row K) → AreApart eq rows → i < length rows → r ≡ slice_index_or rows i r → eq key r.key ≡ true → i ≡ position_or_len (eq key) (map key_of rows)
  place_is [] key i r apart lt at same = absurd (omega arith)
  place_is (x ∷ xs) key zero r apart lt at same = let here : eq key x.key ≡ true = subst (λ (z : Row K). eq key z.key ≡ true) at same in rw here refl
  place_is (x ∷ xs) key (suc i) r apart lt at same =
      elim (either (eq key x.key)) [
        | inl here ↦ absurd (clash (sym (others xs i r apart.0 (omega arith) at) ∙ (sym (laws.congr key x.key r.key here) ∙ same)))
        | inr other ↦ rw other (let e = place_is xs key i r apart.1 (omega arith) at same in omega (arith, e))
      ]
    where
      clash : false ≡ true → ⊥
      clash e = (cc)

      others : (ys : List (Row K)) (j : ℕ) (y : Row K) → AllByRecursion (λ q. eq x.key q.key ≡ false) ys → j < length ys → y ≡ slice_index_or ys j y → eq x.key y.key ≡ false
      others [] j y all l a = absurd (omega arith)
      others (q ∷ qs) zero y all l a = ap (λ (z : Row K). eq x.key z.key) a ∙ all.0
      others (q ∷ qs) (suc j) y all l a = others qs j y all.1 (omega arith) a

  all_put : (P : Row K → Type 0) (rows : List (Row K)) (i : ℕ) (r : Row K) → P r → AllByRecursion P rows → AllByRecursion P (insert rows i r)
  all_put P [] zero r p all = (p, tt)
  all_put P [] (suc i) r p all = (p, tt)
  all_put P (x ∷ xs) zero r p all = (p, all)
  all_put P (x ∷ xs) (suc i) r p all = (all.0, all_put P xs i r p all.1)

  all_out : (P : Row K → Type 0) (rows : List (Row K)) (i : ℕ) → AllByRecursion P rows → AllByRecursion P (remove rows i)
  all_out P [] zero all = tt
  all_out P [] (suc i) all = tt
  all_out P (x ∷ xs) zero all = all.1
  all_out P (x ∷ xs) (suc i) all = (all.0, all_out P xs i all.1)

  apart_put : (rows : List (Row K)) (i : ℕ) (r : Row K) → AllByRecursion (λ q. eq r.key q.key ≡ false) rows → AreApart eq rows → AreApart eq (insert rows i r)
  apart_put [] zero r other apart = (tt, tt)
  apart_put [] (suc i) r other apart = (tt, tt)
  apart_put (x ∷ xs) zero r other apart = (other, apart)
  apart_put (x ∷ xs) (suc i) r other apart = (all_put (λ q. eq x.key q.key ≡ false) xs i r (laws.symm x.key r.key ∙ other.0) apart.0, apart_put xs i r other.1 apart.1)

  apart_out : (rows : List (Row K)) (i : ℕ) → AreApart eq rows → AreApart eq (remove rows i)
  apart_out [] zero apart = tt
  apart_out [] (suc i) apart = tt
  apart_out (x ∷ xs) zero apart = apart.1
  apart_out (x ∷ xs) (suc i) apart = (all_out (λ q. eq x.key q.key ≡ false) xs i apart.0, apart_out xs i apart.1)

  module _ {S : Type 0} (old new : HashMap K ℕ S) where
    still_known : (key : K) (stamp : ℕ) → Notes eq old new key stamp → (rows : List (Row K)) → AllByRecursion (λ r. get eq old r.key ≡ None → ⊥) rows → AllByRecursion (λ r. get eq new r.key ≡ None → ⊥) rows
    still_known key stamp notes [] known = tt
    still_known key stamp notes (r ∷ rs) known = (
      λ none. elim (either (eq key r.key)) [
        | inl same ↦ clash (rw same at (sym (notes.noted r.key) ∙ none))
        | inr other ↦ known.0 (rw other at (sym (notes.noted r.key) ∙ none))
      ],
      still_known key stamp notes rs known.1,
    )
      where
        clash : Some stamp ≡ None → ⊥
        clash e = (cc)

    -- a key more
    pub known_put : (rows : List (Row K)) (i : ℕ) (r : Row K) → AreKnown eq rows (get eq old) → Notes eq old new r.key r.stamp → AreKnown eq (insert rows i r) (get eq new)
    known_put rows i r was notes = record {
      apart = apart_put rows i r (none_equal old rows r.key notes.absent was.known) was.apart;
      known = all_put (λ q. get eq new q.key ≡ None → ⊥) rows i r (λ none. clash (rw (laws.refl r.key) at (sym (notes.noted r.key) ∙ none))) (still_known r.key r.stamp notes rows was.known);
    }
      where
        clash : Some r.stamp ≡ None → ⊥
        clash e = (cc)

    -- or one less
    kept : (key : K) → ((q : K) → get eq new q ≡ cond (eq key q) None (get eq old q)) → (rows : List (Row K)) → AllByRecursion (λ r. eq key r.key ≡ false) rows → AllByRecursion (λ r. get eq old r.key ≡ None → ⊥) rows → AllByRecursion (λ r. get eq new r.key ≡ None → ⊥) rows
    kept key gone [] other known = tt
    kept key gone (r ∷ rs) other known = (λ none. known.0 (rw other.0 at (sym (gone r.key) ∙ none)), kept key gone rs other.1 known.1)

    known_without : (key : K) → ((q : K) → get eq new q ≡ cond (eq key q) None (get eq old q)) → (rows : List (Row K)) (i : ℕ) (r : Row K) → i < length rows → r ≡ slice_index_or rows i r → key ≡ r.key
        → AreApart eq rows → AllByRecursion (λ q. get eq old q.key ≡ None → ⊥) rows → AllByRecursion (λ q. get eq new q.key ≡ None → ⊥) (remove rows i)
    known_without key gone [] i r lt at is apart known = absurd (omega arith)
    known_without key gone (x ∷ xs) zero r lt at is apart known =
        kept key gone xs (subst (λ k. AllByRecursion (λ q. eq k q.key ≡ false) xs) (sym (is ∙ ap key_of at)) apart.0) known.1
    known_without key gone (x ∷ xs) (suc i) r lt at is apart known = (
      λ none. known.0 (rw (laws.symm key x.key ∙ ap (eq x.key) is ∙ others xs i r apart.0 (omega arith) at) at (sym (gone x.key) ∙ none)),
      known_without key gone xs i r (omega arith) at is apart.1 known.1,
    )
      where
        others : (ys : List (Row K)) (j : ℕ) (y : Row K) → AllByRecursion (λ q. eq x.key q.key ≡ false) ys → j < length ys → y ≡ slice_index_or ys j y → eq x.key y.key ≡ false
        others [] j y all l a = absurd (omega arith)
        others (q ∷ qs) zero y all l a = ap (λ (z : Row K). eq x.key z.key) a ∙ all.0
        others (q ∷ qs) (suc j) y all l a = others qs j y all.1 (omega arith) a

    pub known_out : (rows : List (Row K)) (i : ℕ) (r : Row K) → AreKnown eq rows (get eq old) → i < length rows → r ≡ slice_index_or rows i r → ((q : K) → get eq new q ≡ cond (eq r.key q) None (get eq old q))
        → AreKnown eq (remove rows i) (get eq new)
    known_out rows i r was lt at gone = record { apart = apart_out rows i was.apart; known = known_without r.key gone rows i r lt at refl was.apart was.known }
