-- How much a change can touch and move: each of it was an entry before, or is one after.
use Rattle.std.proofs.Common.{inl, inr, ⊎_elim, ◌≡◌, ℕ, zero, suc, ◌+◌, ◌*◌, ◌<◌, ◌≤◌, Bool, List, [], ◌∷◌, ◌++◌, length, map, take, refl, sym, ap, ◌∙◌, subst, arith}
use Rattle.std.specs.Prelude.{Contains, Option, Some, None, ◌⊎◌}
use Rattle.std.specs.List.{AllByRecursion}
use Rattle.std.proofs.lemmas.List.{length-append, length-map}
use Rattle.std.proofs.lemmas.List.Elements.{Contains-append_left, Contains-append_right}
use Rattle.fib_base_list.proofs.Lists.{each-weaker}
use Rattle.fib_addr.specs.Longest.{everything}
use Rattle.fib_addr.specs.Prefixes.{Prefix}
use Rattle.fib_reach.specs.Walks.{AllDiffer}
use Rattle.fib_reach.proofs.Places.{length-le_from_differ}
use Rattle.fib_resolve.specs.Pairs.{all_pairs, base_pairs, entries, pairs}
use Rattle.fib_resolve.specs.Sizes.{size}
use Rattle.fib_resolve.specs.Tables.{fresh}
use Rattle.fib_resolve.specs.declared.types.Tables.{Tables}
use Rattle.fib_resolve.proofs.OneList.{each-itself}
use Rattle.fib_resolve.proofs.TouchedEntries.{touched_effective}
use Rattle.fib_resolve_changes.proofs.SamePairs.{map_from, map_in}
use Rattle.fib_entries_rows.specs.Known.{Known, StandsFor, prefix_of, rank_in, rank_of, row_of}
use Rattle.fib_entries_rows.specs.Changes.{AreMoved, AreTouched, prefix_moved}
use Rattle.fib_entries_rows.specs.declared.changes.Moved.{Moved}
use Rattle.fib_entries_rows.specs.declared.rows.Row.{Row}
use Rattle.fib_entries_rows.proofs.Standing.{row_there}
use Rattle.fib_entries_rows.proofs.Touches.{ascending_differ}

entries_few : (S : Tables) → length (entries S) ≤ size S
unfolding size
entries_few S = omega arith

-- prefixes that differ, each an entry of one of two tables
among_both : (S T : Tables) (most : ℕ) (ds : List Prefix) → size S ≤ most → size T ≤ most → AllDiffer ds → ((d : Prefix) → Contains ds d → Contains (entries S) d ⊎ Contains (entries T) d)
    → length ds ≤ 2 * most
among_both S T most ds s t once each =
    let there : (d : Prefix) → Contains ds d → Contains (entries S ++ entries T) d =
    (λ d c. ⊎_elim (λ (a : Contains (entries S) d). Contains-append_left (entries S) (entries T) d a) (λ (b : Contains (entries T) d). Contains-append_right (entries S) (entries T) d b) (each d c)) in
    let le = length-le_from_differ ds (entries S ++ entries T) once (each-weaker (Contains ds) (Contains (entries S ++ entries T)) there ds (each-itself ds)) in
    let long = length-append (entries S) (entries T) in
    let a = entries_few S in
    let b = entries_few T in
    omega (arith, le, long, a, b, s, t)

pub touched_few : (S T : Tables) (most : ℕ) (ds : List Prefix) → size S ≤ most → size T ≤ most → AreTouched S T ds → length ds ≤ 2 * most
touched_few S T most ds s t are = among_both S T most ds s t are.once (λ d c. touched_effective S T d ((are.touched d).0 c))

-- a prefix with a rank above 0 is an entry
entry_of : (v : Known) (S : Tables) (e : Prefix) (r : Row) → StandsFor v S → row_of v.rows e ≡ Some r → Contains (entries S) e
entry_of v S e r stands at =
    let there = row_there v.rows e r at in
    (stands.entries e).0 (subst (λ (d : Prefix). Contains (map prefix_of v.rows) d) (sym there.1) (map_in prefix_of v.rows r there.0))

moved_entry : (v w : Known) (S T : Tables) (e : Prefix) → StandsFor v S → StandsFor w T → (rank_of w.rows e ≡ rank_of v.rows e → ⊥) → Contains (entries S) e ⊎ Contains (entries T) e
moved_entry v w S T e before after apart = by_old (row_of v.rows e) refl
  where
    by_new : row_of v.rows e ≡ None → (o : Option Row) → row_of w.rows e ≡ o → Contains (entries S) e ⊎ Contains (entries T) e
    by_new none (Some r) at = inr (entry_of w T e r after at)
    by_new none None at = absurd (apart (ap (λ (o : Option Row). rank_in o) at ∙ sym (ap (λ (o : Option Row). rank_in o) none)))

    by_old : (o : Option Row) → row_of v.rows e ≡ o → Contains (entries S) e ⊎ Contains (entries T) e
    by_old (Some r) at = inl (entry_of v S e r before at)
    by_old None at = by_new at (row_of w.rows e) refl

pub moved_few : (v w : Known) (S T : Tables) (most : ℕ) (ms : List Moved) → size S ≤ most → size T ≤ most → StandsFor v S → StandsFor w T → AreMoved v.rows w.rows ms → length ms ≤ 2 * most
moved_few v w S T most ms s t before after are =
    let le = among_both S T most (map prefix_moved ms) s t are.once each in
    let long = length-map ms prefix_moved in
    omega (arith, le, long)
  where
    each : (d : Prefix) → Contains (map prefix_moved ms) d → Contains (entries S) d ⊎ Contains (entries T) d
    each d c =
        let m = map_from prefix_moved ms d c in
        let real = are.real m.0 m.1 in
        subst (λ (x : Prefix). Contains (entries S) x ⊎ Contains (entries T) x) m.2
        (moved_entry v w S T m.0.prefix before after (λ same. real.1 (same ∙ sym real.0)))

-- the fresh tables have five entries
fresh_few : length (entries fresh) ≤ 5
unfolding entries pairs all_pairs base_pairs
fresh_few = omega arith

first_few : (v : Known) → StandsFor v fresh → length (map prefix_of v.rows) ≤ 5
first_few v stands =
    let le = length-le_from_differ (map prefix_of v.rows) (entries fresh) (ascending_differ (map prefix_of v.rows) stands.ordered)
    (each-weaker (Contains (map prefix_of v.rows)) (Contains (entries fresh)) (λ d c. (stands.entries d).0 c) (map prefix_of v.rows) (each-itself (map prefix_of v.rows))) in
    let f = fresh_few in
    omega (arith, le, f)

take_few : (n : ℕ) (xs : List Prefix) → length (take n xs) ≤ length xs
take_few zero xs = omega arith
take_few (suc n) [] = omega arith
take_few (suc n) (x ∷ xs) = let h = take_few n xs in omega (arith, h)

-- so many are named before the last of them
pub few_named : (v : Known) (n : ℕ) → StandsFor v fresh → length (everything ∷ take n (map prefix_of v.rows)) < 7
few_named v n stands =
    let a = first_few v stands in
    let b = take_few n (map prefix_of v.rows) in
    omega (arith, a, b)
