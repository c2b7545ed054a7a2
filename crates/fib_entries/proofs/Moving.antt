-- Which prefixes have another rank.
use Rattle.std.proofs.Common.{arith, ◌≡◌, ◌≢◌, ℕ, zero, suc, ◌+◌, Bool, true, false, not, ◌&&◌, ◌==◌, List, [], ◌∷◌, ◌++◌, map, filter, flat_map, take, Option, Some, None, inl, inr, refl, sym, ◌∙◌, ap, subst, slice_get, append_assoc, if◌then◌else◌}
use Rattle.std.specs.Prelude.{Contains, is_none}
use Rattle.std.proofs.lemmas.Bool.{false≢true}
use Rattle.std.proofs.lemmas.Bool.Decides.{Decides-eqb}
use Rattle.std.proofs.lemmas.List.Elements.{Contains-append_left, Contains-append_right, Contains-append_cases}
use Rattle.fib_base_list.proofs.Lists.{Contains-nil, Contains-flat_map}
use Rattle.fib_reach.specs.Walks.{AllDiffer}
use Rattle.fib_base_list.proofs.Booleans.{and_both}
use Rattle.fib_addr.specs.Prefixes.{Prefix, same_prefix}
use Rattle.fib_addr.proofs.PrefixLaws.{same_prefix-Decides}
use Rattle.fib_cover.specs.Covers.{IsAscending}
use Rattle.fib_resolve.proofs.Covering.{filter_from}
use Rattle.fib_resolve_changes.proofs.Edits.{in_cases}
use Rattle.fib_resolve_changes.proofs.SamePairs.{map_in, map_from, flat_map_from}
use Rattle.fib_base_interned.proofs.Finding.{some_is, none_some}
use Rattle.fib_entries_rows.specs.Rows.{Row}
use Rattle.fib_entries_rows.specs.declared.changes.Moved.{Moved}
use Rattle.fib_entries_rows.specs.Known.{prefix_of, row_of, rank_of, rank_in}
use Rattle.fib_entries_rows.specs.Changes.{AreMoved, prefix_moved}
use Rattle.fib_entries_rows.specs.inner.Compare.{moved_one, moved_new}
use Rattle.fib_entries_rows.proofs.Anew.{filter_differ}
use Rattle.fib_entries_rows.proofs.Standing.{row_there, find_missed}
use Rattle.fib_entries_rows.proofs.Touches.{ascending_differ, append_differ}

pub more_moved : (f : Prefix → List Moved) (xs : List Prefix) (old out new : List Moved) (i : ℕ) (x : Prefix) → slice_get xs i ≡ Some x → out ≡ old ++ flat_map f (take i xs) → new ≡ out ++ f x → new ≡ old ++ flat_map f (take (i + 1) xs)
more_moved f xs old out new i x at is made =
    let n : i + 1 ≡ suc i = omega arith in
    made ∙ ap (λ l. l ++ f x) is ∙ append_assoc old (flat_map f (take i xs)) (f x) ∙ ap (λ l. old ++ l) (sym (ap (λ k. flat_map f (take k xs)) n ∙ next xs i at))
  where
    next : (xs : List Prefix) (i : ℕ) → slice_get xs i ≡ Some x → flat_map f (take (suc i) xs) ≡ flat_map f (take i xs) ++ f x
    next [] i at = absurd (none_some x at)
    next (y ∷ ys) zero at = unit (f y) ∙ ap f (some_is y x at)
      where
        unit : (l : List Moved) → l ++ [] ≡ l
        unit [] = refl
        unit (m ∷ ms) = ap (λ z. m ∷ z) (unit ms)
    next (y ∷ ys) (suc i) at = ap (λ l. f y ++ l) (next ys i at) ∙ sym (append_assoc (f y) (flat_map f (take i ys)) (f x))

when_in : (b : Bool) (l : List Moved) (m : Moved) → b ≡ true → Contains l m → Contains (if b then l else []) m
when_in true l m e c = c
when_in false l m e c = absurd (false≢true e)

module _ (old new : List Row) where
  other : Prefix → Bool
  other e = not (rank_of old e == rank_of new e)

  came : Prefix → Bool
  came e = is_none (row_of old e) && not (rank_of old e == rank_of new e)

  one_in : (m : Moved) (e : Prefix) → Contains (moved_one old new e) m → (record { prefix = e; rank = rank_of old e } ≡ m) × ((rank_of old e == rank_of new e) ≡ false)
  one_in m e c = by (rank_of old e == rank_of new e) refl c
    where
      by : (b : Bool) → (rank_of old e == rank_of new e) ≡ b → Contains (if b then [] else record { prefix = e; rank = rank_of old e } ∷ []) m → (record { prefix = e; rank = rank_of old e } ≡ m) × ((rank_of old e == rank_of new e) ≡ false)
      by true w d = absurd (Contains-nil m d)
      by false w d = (elim (in_cases (record { prefix = e; rank = rank_of old e }) m [] d) [ inl is ↦ is | inr none ↦ absurd (Contains-nil m none) ], w)

  new_in : (m : Moved) (e : Prefix) → Contains (moved_new old new e) m → Contains (moved_one old new e) m
  new_in m e c = by (is_none (row_of old e)) c
    where
      by : (b : Bool) → Contains (if b then moved_one old new e else []) m → Contains (moved_one old new e) m
      by true d = d
      by false d = absurd (Contains-nil m d)

  apart : (a b : ℕ) → (a == b) ≡ false → b ≢ a
  apart a b h is = false≢true (sym h ∙ (Decides-eqb a b).1 (sym is))

  real_one : (m : Moved) (e : Prefix) → Contains (moved_one old new e) m → (m.rank ≡ rank_of old m.prefix) × (rank_of new m.prefix ≢ m.rank)
  real_one m e c =
      let r = one_in m e c in
      subst (λ (z : Moved). (z.rank ≡ rank_of old z.prefix) × (rank_of new z.prefix ≢ z.rank)) r.0 (refl, apart (rank_of old e) (rank_of new e) r.1)

  one_there : (e : Prefix) → rank_of new e ≢ rank_of old e → Contains {X = Moved} (moved_one old new e) (record { prefix = e; rank = rank_of old e })
  one_there e off = by (rank_of old e == rank_of new e) refl
    where
      by : (b : Bool) → (rank_of old e == rank_of new e) ≡ b → Contains {X = Moved} (if b then [] else record { prefix = e; rank = rank_of old e } ∷ []) (record { prefix = e; rank = rank_of old e })
      by true w = absurd (off (sym ((Decides-eqb (rank_of old e) (rank_of new e)).0 w)))
      by false w = (0, omega arith, refl)

  names_one : (xs : List Prefix) → map prefix_moved (flat_map (moved_one old new) xs) ≡ filter other xs
  unfolding other
  names_one [] = refl
  names_one (x ∷ xs) = step (rank_of old x == rank_of new x) (names_one xs)
    where
      step : (b : Bool) → map prefix_moved (flat_map (moved_one old new) xs) ≡ filter other xs → map prefix_moved ((if b then [] else record { prefix = x; rank = rank_of old x } ∷ []) ++ flat_map (moved_one old new) xs) ≡ (if not b then x ∷ filter other xs else filter other xs)
      step true h = h
      step false h = ap (λ l. x ∷ l) h

  names_new : (xs : List Prefix) → map prefix_moved (flat_map (moved_new old new) xs) ≡ filter came xs
  unfolding came
  names_new [] = refl
  names_new (x ∷ xs) = step (is_none (row_of old x)) (rank_of old x == rank_of new x) (names_new xs)
    where
      step : (a b : Bool) → map prefix_moved (flat_map (moved_new old new) xs) ≡ filter came xs → map prefix_moved ((if a then (if b then [] else record { prefix = x; rank = rank_of old x } ∷ []) else []) ++ flat_map (moved_new old new) xs) ≡ (if a && not b then x ∷ filter came xs else filter came xs)
      step true true h = h
      step true false h = ap (λ l. x ∷ l) h
      step false b h = h

  names_both : (xs ys : List Moved) → map prefix_moved (xs ++ ys) ≡ map prefix_moved xs ++ map prefix_moved ys
  names_both [] ys = refl
  names_both (x ∷ xs) ys = ap (λ l. x.prefix ∷ l) (names_both xs ys)

  missing : (y : Prefix) → is_none (row_of old y) ≡ true → Contains (map prefix_of old) y → ⊥
  missing y none c = let m = map_from prefix_of old y c in find_missed (λ z. same_prefix y z.prefix) old m.0 m.1 ((same_prefix-Decides y m.0.prefix).1 (sym m.2)) (none_of (row_of old y) none)
    where
      none_of : (o : Option Row) → is_none o ≡ true → o ≡ None
      none_of None h = refl
      none_of (Some r) h = absurd (false≢true h)

  list_of : List Moved
  list_of = flat_map (moved_one old new) (map prefix_of old) ++ flat_map (moved_new old new) (map prefix_of new)

  row_in : (rows : List Row) (e : Prefix) (r : Row) → row_of rows e ≡ Some r → Contains (map prefix_of rows) e
  row_in rows e r at = let t = row_there rows e r at in subst (Contains (map prefix_of rows)) (sym t.1) (map_in prefix_of rows r t.0)

  listed : (e : Prefix) → rank_of new e ≢ rank_of old e → Contains {X = Moved} (flat_map (moved_one old new) (map prefix_of old) ++ flat_map (moved_new old new) (map prefix_of new)) (record { prefix = e; rank = rank_of old e })
  listed e off = by (row_of old e) refl
    where
      by : (o : Option Row) → row_of old e ≡ o → Contains {X = Moved} (flat_map (moved_one old new) (map prefix_of old) ++ flat_map (moved_new old new) (map prefix_of new)) (record { prefix = e; rank = rank_of old e })
      by (Some r) at = Contains-append_left (flat_map (moved_one old new) (map prefix_of old)) (flat_map (moved_new old new) (map prefix_of new)) _
          (Contains-flat_map (moved_one old new) (map prefix_of old) e _ (row_in old e r at) (one_there e off))
      by None none = after (row_of new e) refl
        where
          after : (q : Option Row) → row_of new e ≡ q → Contains {X = Moved} (flat_map (moved_one old new) (map prefix_of old) ++ flat_map (moved_new old new) (map prefix_of new)) (record { prefix = e; rank = rank_of old e })
          after None none2 = absurd (off (ap rank_in none2 ∙ sym (ap rank_in none)))
          after (Some s) at = Contains-append_right (flat_map (moved_one old new) (map prefix_of old)) (flat_map (moved_new old new) (map prefix_of new)) _
              (Contains-flat_map (moved_new old new) (map prefix_of new) e _ (row_in new e s at) (when_in (is_none (row_of old e)) (moved_one old new e) _ (ap is_none none) (one_there e off)))

  came_none : (y : Prefix) → came y ≡ true → is_none (row_of old y) ≡ true
  unfolding came
  came_none y h = (and_both (is_none (row_of old y)) (not (rank_of old y == rank_of new y)) h).0

  pub are_moved : IsAscending (map prefix_of old) → IsAscending (map prefix_of new) → AreMoved old new (flat_map (moved_one old new) (map prefix_of old) ++ flat_map (moved_new old new) (map prefix_of new))
  are_moved asc asc_new = record {
    once = subst AllDiffer (sym (names_both (flat_map (moved_one old new) (map prefix_of old)) (flat_map (moved_new old new) (map prefix_of new))
        ∙ (ap (λ l. l ++ map prefix_moved (flat_map (moved_new old new) (map prefix_of new))) (names_one (map prefix_of old)) ∙ ap (λ l. filter other (map prefix_of old) ++ l) (names_new (map prefix_of new)))))
        (append_differ (filter other (map prefix_of old)) (filter came (map prefix_of new))
        (filter_differ other (map prefix_of old) (ascending_differ (map prefix_of old) asc)) (filter_differ came (map prefix_of new) (ascending_differ (map prefix_of new) asc_new))
        (λ x y c d is. missing y (came_none y (filter_from came (map prefix_of new) y d).1) (subst (Contains (map prefix_of old)) is (filter_from other (map prefix_of old) x c).0)));
    real = λ m c. elim (Contains-append_cases (flat_map (moved_one old new) (map prefix_of old)) (flat_map (moved_new old new) (map prefix_of new)) m c) [
      | inl early ↦ (let r = flat_map_from (moved_one old new) (map prefix_of old) m early in real_one m r.0 r.2)
      | inr late ↦ (let r = flat_map_from (moved_new old new) (map prefix_of new) m late in real_one m r.0 (new_in m r.0 r.2))
    ];
    found = λ e off. map_in prefix_moved (flat_map (moved_one old new) (map prefix_of old) ++ flat_map (moved_new old new) (map prefix_of new)) (record { prefix = e; rank = rank_of old e }) (listed e off);
  }
