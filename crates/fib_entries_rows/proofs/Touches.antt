-- The list of touched prefixes.
use Rattle.std.proofs.Common.{arith, ◌≡◌, ◌≢◌, ℕ, zero, suc, ◌+◌, Bool, true, false, List, [], ◌∷◌, ◌++◌, map, filter, take, Option, Some, None, inl, inr, refl, sym, ◌∙◌, ap, subst, slice_get, append_assoc, if◌then◌else◌}
use Rattle.std.specs.Prelude.{Contains, is_none}
use Rattle.std.specs.List.{AllByRecursion}
use Rattle.std.specs.List.Sorted.{IsStrictlySortedBy}
use Rattle.std.specs.declared.cmp.Ordering.TheVariants.{Less}
use Rattle.std.proofs.lemmas.Bool.{false≢true}
use Rattle.std.proofs.lemmas.List.Elements.{Contains-append_left, Contains-append_right, Contains-append_cases}
use Rattle.fib_reach.specs.Walks.{AllDiffer}
use Rattle.fib_base_list.proofs.Booleans.{and_both}
use Rattle.fib_addr.specs.Prefixes.{Prefix, same_prefix}
use Rattle.fib_cover.specs.Covers.{IsAscending, prefix_cmp}
use Rattle.fib_resolve.specs.Touched.{is_touched}
use Rattle.fib_resolve.specs.declared.types.Tables.{Tables}
use Rattle.fib_resolve.proofs.Covering.{filter_in, filter_from}
use Rattle.fib_resolve.proofs.TouchedEntries.{touched_effective}
use Rattle.fib_resolve_changes.proofs.Edits.{in_front, in_rest}
use Rattle.fib_resolve_changes.proofs.SamePairs.{map_in, map_from}
use Rattle.fib_base_interned.proofs.Finding.{some_is, none_some}
use Rattle.fib_entries_rows.specs.Rows.{Row}
use Rattle.fib_entries_rows.specs.Known.{Known, StandsFor, prefix_of, row_of}
use Rattle.fib_entries_rows.specs.Changes.{AreTouched}
use Rattle.fib_entries_rows.specs.inner.Compare.{is_new}
use Rattle.fib_entries_rows.proofs.Anew.{filter_differ}
use Rattle.fib_entries_rows.proofs.Looking.{never}
use Rattle.fib_entries_rows.proofs.Standing.{row_there, find_missed}
use Rattle.fib_addr.proofs.PrefixLaws.{same_prefix-Decides}

differ_less : (p : Prefix) (qs : List Prefix) → AllByRecursion (λ q. prefix_cmp p q ≡ Less) qs → AllByRecursion (λ q. p ≢ q) qs
differ_less p [] all = tt
differ_less p (q ∷ qs) all = (λ is. never q (subst (λ z. prefix_cmp z q ≡ Less) is all.0), differ_less p qs all.1)

pub ascending_differ : (qs : List Prefix) → IsAscending qs → AllDiffer qs
unfolding IsStrictlySortedBy
ascending_differ [] asc = tt
ascending_differ (q ∷ qs) asc = (differ_less q qs asc.0, ascending_differ qs asc.1)

append_each : (P : Prefix → Type 0) (xs ys : List Prefix) → AllByRecursion P xs → ((y : Prefix) → Contains ys y → P y) → AllByRecursion P (xs ++ ys)
append_each P [] [] a f = tt
append_each P [] (y ∷ ys) a f = (f y (in_front y y ys refl), append_each P [] ys tt (λ z c. f z (in_rest y z ys c)))
append_each P (x ∷ xs) ys a f = (a.0, append_each P xs ys a.1 f)

pub append_differ : (xs ys : List Prefix) → AllDiffer xs → AllDiffer ys → ((x y : Prefix) → Contains xs x → Contains ys y → x ≢ y) → AllDiffer (xs ++ ys)
append_differ [] ys a b off = b
append_differ (x ∷ xs) ys a b off =
    (append_each (λ y. x ≢ y) xs ys a.0 (λ y c. off x y (in_front x x xs refl) c), append_differ xs ys a.1 b (λ z y c d. off z y (in_rest x z xs c) d))

none_of : (o : Option Row) → is_none o ≡ true → o ≡ None
none_of None h = refl
none_of (Some r) h = absurd (false≢true h)

none_is : (o : Option Row) → o ≡ None → is_none o ≡ true
none_is o e = ap is_none e

module _ (v w : Known) (S T : Tables) (h : StandsFor v S) (k : StandsFor w T) where
  pub list_touched : AreTouched S T (filter (is_touched S T) (map prefix_of v.rows) ++ filter (is_new v.rows S T) (map prefix_of w.rows))
  list_touched = record {
    once = append_differ (filter (is_touched S T) (map prefix_of v.rows)) (filter (is_new v.rows S T) (map prefix_of w.rows))
        (filter_differ (is_touched S T) (map prefix_of v.rows) (ascending_differ (map prefix_of v.rows) h.ordered)) (filter_differ (is_new v.rows S T) (map prefix_of w.rows) (ascending_differ (map prefix_of w.rows) k.ordered))
        (λ x y c d is. (let mine = (filter_from (is_touched S T) (map prefix_of v.rows) x c).0 in
        let new = and_both (is_none (row_of v.rows y)) (is_touched S T y) (filter_from (is_new v.rows S T) (map prefix_of w.rows) y d).1 in
        missing y (none_of (row_of v.rows y) new.0) (subst (Contains (map prefix_of v.rows)) is mine)));
    touched = λ e. (
      λ c. elim (Contains-append_cases (filter (is_touched S T) (map prefix_of v.rows)) (filter (is_new v.rows S T) (map prefix_of w.rows)) e c) [
        | inl old ↦ (filter_from (is_touched S T) (map prefix_of v.rows) e old).1
        | inr new ↦ (and_both (is_none (row_of v.rows e)) (is_touched S T e) (filter_from (is_new v.rows S T) (map prefix_of w.rows) e new).1).1
      ],
      λ t. listed e (row_of v.rows e) refl t,
    );
  }
    where
      missing : (y : Prefix) → row_of v.rows y ≡ None → Contains (map prefix_of v.rows) y → ⊥
      missing y none c = let m = map_from prefix_of v.rows y c in find_missed (λ z. same_prefix y z.prefix) v.rows m.0 m.1 ((same_prefix-Decides y m.0.prefix).1 (sym m.2)) none

      listed : (e : Prefix) (o : Option Row) → row_of v.rows e ≡ o → is_touched S T e ≡ true → Contains (filter (is_touched S T) (map prefix_of v.rows) ++ filter (is_new v.rows S T) (map prefix_of w.rows)) e
      listed e (Some r) at t = (let x = row_there v.rows e r at in
          Contains-append_left (filter (is_touched S T) (map prefix_of v.rows)) (filter (is_new v.rows S T) (map prefix_of w.rows)) e (filter_in (is_touched S T) (map prefix_of v.rows) e (subst (Contains (map prefix_of v.rows)) (sym x.1) (map_in prefix_of v.rows r x.0)) t))
      listed e None none t = elim (touched_effective S T e t) [
        | inl mine ↦ absurd (missing e none ((h.entries e).1 mine))
        | inr after ↦ Contains-append_right (filter (is_touched S T) (map prefix_of v.rows)) (filter (is_new v.rows S T) (map prefix_of w.rows)) e
            (filter_in (is_new v.rows S T) (map prefix_of w.rows) e ((k.entries e).1 after) (rw none t))
      ]

-- one place more
pub filter_next : (f : Prefix → Bool) (xs : List Prefix) (i : ℕ) (x : Prefix) → slice_get xs i ≡ Some x → filter f (take (i + 1) xs) ≡ (if f x then filter f (take i xs) ++ x ∷ [] else filter f (take i xs))
filter_next f xs i x at = let n : i + 1 ≡ suc i = omega arith in ap (λ k. filter f (take k xs)) n ∙ next xs i at
  where
    next : (xs : List Prefix) (i : ℕ) → slice_get xs i ≡ Some x → filter f (take (suc i) xs) ≡ (if f x then filter f (take i xs) ++ x ∷ [] else filter f (take i xs))
    next [] i at = absurd (none_some x at)
    next (y ∷ ys) zero at = ap (λ z. if f z then z ∷ [] else []) (some_is y x at)
    next (y ∷ ys) (suc i) at = under (f y) (f x) (filter f (take (suc i) ys)) (filter f (take i ys)) (next ys i at)
      where
        under : (b c : Bool) (l m : List Prefix) → l ≡ (if c then m ++ x ∷ [] else m) → (if b then y ∷ l else l) ≡ (if c then (if b then y ∷ m else m) ++ x ∷ [] else (if b then y ∷ m else m))
        under true true l m e = ap (λ z. y ∷ z) e
        under true false l m e = ap (λ z. y ∷ z) e
        under false true l m e = e
        under false false l m e = e

pub more_before : (f : Prefix → Bool) (xs out new : List Prefix) (i : ℕ) (x : Prefix) → slice_get xs i ≡ Some x → out ≡ filter f (take i xs) → new ≡ (if f x then out ++ x ∷ [] else out) → new ≡ filter f (take (i + 1) xs)
more_before f xs out new i x at is made = made ∙ ap (λ l. if f x then l ++ x ∷ [] else l) is ∙ sym (filter_next f xs i x at)

pub more_after : (f : Prefix → Bool) (xs old out new : List Prefix) (i : ℕ) (x : Prefix) → slice_get xs i ≡ Some x → out ≡ old ++ filter f (take i xs) → new ≡ (if f x then out ++ x ∷ [] else out) → new ≡ old ++ filter f (take (i + 1) xs)
more_after f xs old out new i x at is made = made ∙ ap (λ l. if f x then l ++ x ∷ [] else l) is ∙ (spread (f x) ∙ ap (λ l. old ++ l) (sym (filter_next f xs i x at)))
  where
    spread : (b : Bool) → (if b then (old ++ filter f (take i xs)) ++ x ∷ [] else old ++ filter f (take i xs)) ≡ old ++ (if b then filter f (take i xs) ++ x ∷ [] else filter f (take i xs))
    spread true = append_assoc old (filter f (take i xs)) (x ∷ [])
    spread false = refl
