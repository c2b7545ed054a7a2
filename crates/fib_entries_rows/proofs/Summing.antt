-- The plies of entries in order, one entry after the other.
use Rattle.std.proofs.Common.{arith, ◌≡◌, ℕ, zero, suc, ◌+◌, ◌/◌, ◌<◌, ◌≤◌, List, [], ◌∷◌, length, take, Some, None, ◌⊎◌, inl, inr, refl, sym, ◌∙◌, ap, slice_get, ◌↔◌}
use Rattle.std.specs.Prelude.{Contains}
use Rattle.std.specs.List.{AllByRecursion}
use Rattle.std.specs.List.Sorted.{IsStrictlySortedBy}
use Rattle.std.specs.declared.cmp.Ordering.TheVariants.{Less}
use Rattle.std.proofs.lemmas.Option.{slice_get_within}
use Rattle.fib_base_list.proofs.Lists.{Contains-nil}
use Rattle.fib_addr.specs.Prefixes.{Prefix}
use Rattle.fib_cover.specs.Covers.{prefix_cmp, IsAscending, ArePrefixes}
use Rattle.fib_resolve_changes.proofs.Edits.{in_cases, in_front, in_rest}
use Rattle.fib_base_interned.proofs.Finding.{none_some, some_is, contains_at}
use Rattle.fib_entries_rows.specs.inner.Plies.{own_below, before_of, IsGap}
use Rattle.fib_entries_rows.proofs.LeafSizes.{ply_count}
use Rattle.fib_entries_rows.proofs.PlyCounts.{plies_grown}
use Rattle.fib_entries_rows.proofs.PlyOrder.{ordered_at}

taken_each : {X : Type 0} (P : X → Type 0) (xs : List X) (k : ℕ) → AllByRecursion P xs → AllByRecursion P (take k xs)
taken_each P [] zero h = tt
taken_each P [] (suc k) h = tt
taken_each P (x ∷ xs) zero h = tt
taken_each P (x ∷ xs) (suc k) h = (h.0, taken_each P xs k h.1)

taken_ascending : (xs : List Prefix) (k : ℕ) → IsAscending xs → IsAscending (take k xs)
unfolding IsStrictlySortedBy
taken_ascending [] zero asc = tt
taken_ascending [] (suc k) asc = tt
taken_ascending (x ∷ xs) zero asc = tt
taken_ascending (x ∷ xs) (suc k) asc = (taken_each (λ z. prefix_cmp x z ≡ Less) xs k asc.0, taken_ascending xs k asc.1)

taken_in : {X : Type 0} (xs : List X) (k : ℕ) (e : X) → Contains (take k xs) e → Contains xs e
taken_in [] zero e c = c
taken_in [] (suc k) e c = c
taken_in (x ∷ xs) zero e c = absurd (Contains-nil e c)
taken_in (x ∷ xs) (suc k) e c = elim (in_cases x e (take k xs) c) [ inl is ↦ in_front x e xs is | inr later ↦ in_rest x e xs (taken_in xs k e later) ]

taken_length : {X : Type 0} (xs : List X) (k : ℕ) → k ≤ length xs → length (take k xs) ≡ k
taken_length [] zero le = refl
taken_length [] (suc k) le = absurd (omega (arith, le))
taken_length (x ∷ xs) zero le = refl
taken_length (x ∷ xs) (suc k) le = ap suc (taken_length xs k (omega (arith, le)))

taken_at : {X : Type 0} (xs : List X) (k j : ℕ) → j < k → slice_get (take k xs) j ≡ slice_get xs j
taken_at [] zero j lt = refl
taken_at [] (suc k) j lt = refl
taken_at (x ∷ xs) zero j lt = absurd (omega (arith, lt))
taken_at (x ∷ xs) (suc k) zero lt = refl
taken_at (x ∷ xs) (suc k) (suc j) lt = taken_at xs k j (omega (arith, lt))

taken_end : {X : Type 0} (xs : List X) (k : ℕ) → slice_get (take k xs) k ≡ None
taken_end [] zero = refl
taken_end [] (suc k) = refl
taken_end (x ∷ xs) zero = refl
taken_end (x ∷ xs) (suc k) = taken_end xs k

-- the first ones and one more
taken_next : {X : Type 0} (xs : List X) (k : ℕ) (p e : X) → slice_get xs k ≡ Some p → Contains (take (suc k) xs) e ↔ Contains (take k xs) e ⊎ (p ≡ e)
taken_next [] k p e at = absurd (none_some p at)
taken_next (x ∷ xs) zero p e at = (
  λ c. elim (in_cases x e [] c) [ inl is ↦ inr (sym (some_is x p at) ∙ is) | inr none ↦ absurd (Contains-nil e none) ],
  λ d. elim d [ inl none ↦ absurd (Contains-nil e none) | inr is ↦ in_front x e [] (some_is x p at ∙ is) ],
)
taken_next (x ∷ xs) (suc k) p e at = (
  λ c. elim (in_cases x e (take (suc k) xs) c) [
    | inl is ↦ inl (in_front x e (take k xs) is)
    | inr later ↦ elim ((taken_next xs k p e at).0 later) [ inl old ↦ inl (in_rest x e (take k xs) old) | inr is ↦ inr is ]
  ],
  λ d. elim d [
    | inl old ↦ elim (in_cases x e (take k xs) old) [
      | inl is ↦ in_front x e (take (suc k) xs) is
      | inr later ↦ in_rest x e (take (suc k) xs) ((taken_next xs k p e at).1 (inl later))
    ]
    | inr is ↦ in_rest x e (take (suc k) xs) ((taken_next xs k p e at).1 (inr is))
  ],
)

before_taken : (order : List Prefix) (k : ℕ) → before_of (take k order) k ≡ before_of order k
before_taken order zero = refl
before_taken order (suc m) = taken_at order (suc m) m (omega arith)

-- the next one belongs behind the first ones
gap_behind : (order : List Prefix) → IsAscending order → (k : ℕ) (p : Prefix) → slice_get order k ≡ Some p → IsGap (take k order) k p
gap_behind order asc k p at =
    let inside : k < length order = slice_get_within order k p at in
    let n = taken_length order k (omega (arith, inside)) in
    record {
      inside = omega (arith, n);
      before = λ j q there lt. ordered_at order asc j k q p lt (sym (taken_at order k j lt) ∙ there) at;
      after = λ j q there high. (let short = slice_get_within (take k order) j q there in absurd (omega (arith, n, short, high)));
    }

-- the next one makes the plies on its way that aren't on the way to the one before it
pub plies_next : (order : List Prefix) → IsAscending order → ArePrefixes order → (k : ℕ) (p : Prefix) → slice_get order k ≡ Some p
    → ply_count (take (suc k) order) ≡ ply_count (take k order) + own_below p (before_of order k) None ((p.len + 3) / 4)
plies_next order asc good k p at =
    plies_grown (take k order) (taken_ascending order k asc) (λ q c. good q (taken_in order k q c)) k p (gap_behind order asc k p at) (good p (contains_at order k p at)) (take (suc k) order) (λ e. taken_next order k p e at)
    ∙ ap (λ b. ply_count (take k order) + own_below p b (slice_get (take k order) k) ((p.len + 3) / 4)) (before_taken order k)
    ∙ ap (λ b. ply_count (take k order) + own_below p (before_of order k) b ((p.len + 3) / 4)) (taken_end order k)
